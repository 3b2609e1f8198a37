-- The join of two boxes: the least box that both lie below.
use Rattle.std.specs.Prelude.{List, [], ◌∷◌}
use Rattle.tube_spec.specs.Span.{Span, join_of}

-- cell by cell, for boxes over the same cells
abbrev pub join_box : List Span → List Span → List Span
join_box [] ys = []
join_box (x ∷ xs) [] = []
join_box (x ∷ xs) (y ∷ ys) = join_of x y ∷ join_box xs ys
