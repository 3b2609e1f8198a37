-- Expressions over the intervals of a list: trees whose names are numbered from the left.
use Rattle.std.specs.Prelude.{ℕ, ◌+◌, ℤ}
use Rattle.expr_tree.specs.Trees.{Tree, Number, Named, Apply, Join, Minus, Square, Absolute, Sum, Difference, Product, Least, Greatest, Relation}
use Rattle.expr_tree.specs.Trees as trees
use Rattle.expr_tree.specs.declared.RelOp.{RelOp}
use Rattle.expr_values.specs.declared.operators.UnaryOp.{UnaryOp}
use Rattle.expr_values.specs.declared.operators.UnaryOp.TheVariants.{Neg, Sqr, Abs}
use Rattle.expr_values.specs.declared.operators.BinaryOp.{BinaryOp}
use Rattle.expr_values.specs.declared.operators.BinaryOp.TheVariants.{Add, Sub, Mul, Min, Max}

-- a number, the entry with a number of a list of intervals, or an operator on its operands
pub data Expression : Type 0 where
  Constant : ℤ → Expression
  Entry : ℕ → Expression
  Unary : UnaryOp → Expression → Expression
  Binary : BinaryOp → Expression → Expression → Expression

-- two expressions, compared
pub record Comparison : Type 0 where
  pub op : RelOp
  pub left : Expression
  pub right : Expression

-- how many names a tree has, each as often as it stands there
abbrev pub leaves : Tree → ℕ
leaves (Number n) = 0
leaves (Named name) = 1
leaves (Apply op a) = leaves a
leaves (Join op a b) = leaves a + leaves b

abbrev pub relation_leaves : Relation → ℕ
relation_leaves r = leaves r.left + leaves r.right

abbrev pub unary_op : trees.Unary → UnaryOp
unary_op Minus = Neg
unary_op Square = Sqr
unary_op Absolute = Abs

abbrev pub binary_op : trees.Binary → BinaryOp
binary_op Sum = Add
binary_op Difference = Sub
binary_op Product = Mul
binary_op Least = Min
binary_op Greatest = Max

-- The expression of a tree, of which the first name from the left has the number k, the next one k + 1, and so on.
abbrev pub numbered : Tree → ℕ → Expression
numbered (Number n) k = Constant n
numbered (Named name) k = Entry k
numbered (Apply op a) k = Unary (unary_op op) (numbered a k)
numbered (Join op a b) k = Binary (binary_op op) (numbered a k) (numbered b (k + leaves a))

-- the comparison of a relation, its names numbered from the left
abbrev pub comparison_of : Relation → Comparison
comparison_of r = record { op = r.op; left = numbered r.left 0; right = numbered r.right (leaves r.left) }
