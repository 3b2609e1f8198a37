use Rattle.loop_sets.proofs.Revisiting.{finding-law}
use Rattle.loop_sets.proofs.laws.finding_law.Goals as goal

pub returns : goal.returns
returns c = finding-law
