use Rattle.pair_causes.proofs.Known.{link-known}
use Rattle.pair_causes.proofs.laws.links_are_known.Goals as goal

pub returns : goal.returns
returns c = link-known
