use Rattle.std.proofs.Common.{arith}
use Rattle.std.proofs.lemmas.Int.{ints, clamps}
use Rattle.hull_tree.proofs.Gaps.{same_bounds}
use Rattle.hull_tree.proofs.hulls.join.Goals as goal

pub returns : goal.returns
returns c = same_bounds _ _ (omega (arith, ints, clamps)) (omega (arith, ints, clamps)) (omega (arith, ints, clamps)) (omega (arith, ints, clamps))
