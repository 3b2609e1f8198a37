-- The box after a set of cells was reset.
use Rattle.std.specs.Prelude.{ℕ, suc, Bool, cond, Option, Some, None, List, [], ◌∷◌}
use Rattle.tube_spec.specs.Span.{Span}

-- the cells of a set as in the first box and the others as in the second, for boxes over the same cells
abbrev pub with_cells : (ℕ → Bool) → List Span → List Span → List Span
with_cells within [] ys = []
with_cells within (x ∷ xs) [] = []
with_cells within (x ∷ xs) (y ∷ ys) = cond (within 0) x y ∷ with_cells (λ k. within (suc k)) xs ys

-- Each linked cell at its starting interval, and each other cell as in the box. Of the empty box no cell is kept: all are reset.
abbrev pub reset_box : (ℕ → Bool) → List Span → Option (List Span) → List Span
reset_box linked start None = start
reset_box linked start (Some xs) = with_cells linked start xs
