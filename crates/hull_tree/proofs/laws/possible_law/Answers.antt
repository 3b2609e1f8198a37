use Rattle.hull_tree.proofs.Nearness.{possible-revisit}
use Rattle.hull_tree.proofs.laws.possible_law.Goals as goal

pub returns : goal.returns
returns c = possible-revisit
