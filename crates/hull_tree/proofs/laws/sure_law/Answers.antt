use Rattle.hull_tree.proofs.Nearness.{sure-revisit}
use Rattle.hull_tree.proofs.laws.sure_law.Goals as goal

pub returns : goal.returns
returns c = sure-revisit
