-- What the names of a relation stand for, each once.
use Rattle.std.specs.Prelude.{nat_eq, Bool, false, cond, List, [], ◌∷◌, ◌++◌, fold}
use Rattle.std.specs.List.{list_any}
use Rattle.tube_names.specs.declared.leaves.Leaf.{Leaf}
use Rattle.tube_names.specs.declared.leaves.Leaf.TheVariants.{Sig, Var}

-- two leaves name the same
abbrev pub same_leaf : Leaf → Leaf → Bool
same_leaf (Sig x) (Sig y) = nat_eq x.0 y.0
same_leaf (Var v) (Var w) = nat_eq v.0 w.0
same_leaf (Sig x) (Var w) = false
same_leaf (Var v) (Sig y) = false

-- a list of leaves with one more at the end, unless it stands there already
abbrev pub with_leaf : List Leaf → Leaf → List Leaf
with_leaf names l = cond (list_any (same_leaf l) names) names (names ++ l ∷ [])

-- each leaf once, in the order in which they first stand
abbrev pub first_uses : List Leaf → List Leaf
first_uses leaves = fold with_leaf [] leaves
