-- Terms and relations as the mathematics has them, without where they lie in memory.
use Rattle.std.specs.Prelude.{ℕ, ℤ, List}
use Rattle.expr_tree.specs.declared.Term.{Term, Num, Name, Neg', Sqr', Abs', Add', Sub', Mul', Min', Max'}
use Rattle.expr_tree.specs.declared.RelOp.{RelOp}
use Rattle.expr_tree.specs.declared.Rel.{Rel}

-- the operators of one term: the other sign, the square, the absolute value
pub data Unary : Type 0 where
  Minus : Unary
  Square : Unary
  Absolute : Unary

-- the operators of two terms
pub data Binary : Type 0 where
  Sum : Binary
  Difference : Binary
  Product : Binary
  Least : Binary
  Greatest : Binary

-- a number, a name, or an operator on its terms
pub data Tree : Type 0 where
  Number : ℤ → Tree
  Named : List ℕ → Tree
  Apply : Unary → Tree → Tree
  Join : Binary → Tree → Tree → Tree

-- the tree of a term
abbrev pub tree_of : Term → Tree
tree_of (Num n) = Number n
tree_of (Name text) = Named text
tree_of (Neg' p a) = Apply Minus (tree_of a)
tree_of (Sqr' p a) = Apply Square (tree_of a)
tree_of (Abs' p a) = Apply Absolute (tree_of a)
tree_of (Add' p a q b) = Join Sum (tree_of a) (tree_of b)
tree_of (Sub' p a q b) = Join Difference (tree_of a) (tree_of b)
tree_of (Mul' p a q b) = Join Product (tree_of a) (tree_of b)
tree_of (Min' p a q b) = Join Least (tree_of a) (tree_of b)
tree_of (Max' p a q b) = Join Greatest (tree_of a) (tree_of b)

-- two trees, compared
pub record Relation : Type 0 where
  pub op : RelOp
  pub left : Tree
  pub right : Tree

-- the relation of two terms
abbrev pub relation_of : Rel → Relation
relation_of r = record { op = r.op; left = tree_of r.left; right = tree_of r.right }
