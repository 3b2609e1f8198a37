-- How large a relation is, and the names in it.
use Rattle.std.specs.Prelude.{ℕ, ◌+◌, List, [], ◌∷◌, ◌++◌, max}
use Rattle.expr_tree.specs.Trees.{Tree, Number, Named, Apply, Join, Relation}

-- how many nodes a tree has: operators, numbers and names
abbrev pub nodes : Tree → ℕ
nodes (Number n) = 1
nodes (Named name) = 1
nodes (Apply op a) = 1 + nodes a
nodes (Join op a b) = 1 + nodes a + nodes b

-- how many nodes stand on the longest way from the root to a leaf, both ends included
abbrev pub depth : Tree → ℕ
depth (Number n) = 1
depth (Named name) = 1
depth (Apply op a) = 1 + depth a
depth (Join op a b) = 1 + max (depth a) (depth b)

-- the names at the leaves, from left to right, each as often as it stands there
abbrev pub names : Tree → List (List ℕ)
names (Number n) = []
names (Named name) = name ∷ []
names (Apply op a) = names a
names (Join op a b) = names a ++ names b

-- the nodes of a relation, itself included
abbrev pub relation_nodes : Relation → ℕ
relation_nodes r = 1 + nodes r.left + nodes r.right

-- how many nodes stand on the longest way from the relation to a leaf, both ends included
abbrev pub relation_depth : Relation → ℕ
relation_depth r = 1 + max (depth r.left) (depth r.right)

-- the names of a relation, from left to right
abbrev pub relation_names : Relation → List (List ℕ)
relation_names r = names r.left ++ names r.right
