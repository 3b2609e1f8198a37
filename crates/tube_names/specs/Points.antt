-- Points: lists of variables, one a coordinate, and their cells.
use Rattle.std.specs.Prelude.{ℕ, List, map, slice_index}
use Rattle.tube_spec.specs.Shape.{Shape}
use Rattle.tube_store.specs.declared.VarId.{VarId}

-- the numbers of variables
abbrev pub numbers : List VarId → List ℕ
numbers vars = map (λ v. v.0) vars

-- the cells of the variables of a point
abbrev pub cells_of : Shape → List ℕ → List ℕ
cells_of s point = map (slice_index s.vars) point
