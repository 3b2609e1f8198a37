-- A tree has a leaf.
use Rattle.std.proofs.Common.{◌<◌, arith}
use Rattle.expr_tree.specs.Trees.{Tree, Number, Named, Apply, Join}
use Rattle.expr_tree.specs.Measures.{depth}

pub some_depth : (t : Tree) → 0 < depth t
some_depth (Number n) = omega arith
some_depth (Named name) = omega arith
some_depth (Apply op a) = omega arith
some_depth (Join op a b) = omega arith
