use Rattle.log_text.proofs.ItemLines.{names-right}
use Rattle.log_text.proofs.laws.names_are_right.Goals as goal

pub returns : goal.returns
returns c = names-right
