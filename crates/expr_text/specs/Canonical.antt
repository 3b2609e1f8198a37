-- The canonical text.
use Rattle.std.specs.Prelude.{ℕ, List, [], ◌++◌, codes}
use Rattle.std.specs.Fmt.{signed_decimal}
use Rattle.expr_tree.specs.declared.RelOp.{RelOp}
use Rattle.expr_tree.specs.declared.RelOp.TheVariants as relop
use Rattle.expr_tree.specs.Trees.{Tree, Number, Named, Apply, Join, Unary, Binary, Minus, Square, Absolute, Sum, Difference, Product, Least, Greatest, Relation}

-- what stands before, between and behind the terms of an operator
abbrev pub unary_front : Unary → List ℕ
unary_front Minus = codes "(-"
unary_front Square = codes "sqr("
unary_front Absolute = codes "abs("

abbrev pub binary_front : Binary → List ℕ
binary_front Sum = codes "("
binary_front Difference = codes "("
binary_front Product = codes "("
binary_front Least = codes "min("
binary_front Greatest = codes "max("

abbrev pub binary_between : Binary → List ℕ
binary_between Sum = codes "+"
binary_between Difference = codes "-"
binary_between Product = codes "*"
binary_between Least = codes ","
binary_between Greatest = codes ","

abbrev pub comparison_text : RelOp → List ℕ
comparison_text relop.Eq = codes "="
comparison_text relop.Lt = codes "<"
comparison_text relop.Le = codes "<="
comparison_text relop.Gt = codes ">"
comparison_text relop.Ge = codes ">="

-- numbers and names as they are, and each operator with its terms in brackets
abbrev pub tree_text : Tree → List ℕ
tree_text (Number n) = signed_decimal n
tree_text (Named name) = name
tree_text (Apply op a) = unary_front op ++ (tree_text a ++ codes ")")
tree_text (Join op a b) = binary_front op ++ (tree_text a ++ (binary_between op ++ (tree_text b ++ codes ")")))

abbrev pub relation_text : Relation → List ℕ
relation_text r = tree_text r.left ++ (comparison_text r.op ++ tree_text r.right)

-- what stands before the first term of a tree, and between its terms
abbrev pub tree_front : Tree → List ℕ
tree_front (Number n) = []
tree_front (Named name) = []
tree_front (Apply op a) = unary_front op
tree_front (Join op a b) = binary_front op

abbrev pub tree_between : Tree → List ℕ
tree_between (Number n) = []
tree_between (Named name) = []
tree_between (Apply op a) = []
tree_between (Join op a b) = binary_between op
