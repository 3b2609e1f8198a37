-- What boxes and assignments give points.
use Rattle.std.specs.Prelude.{ℕ, ℤ, List, map}
use Rattle.tube_spec.specs.Span.{Span}
use Rattle.tube_spec.specs.Box.{cell_at}
use Rattle.tube_spec.specs.Assignment.{Assignment, number_of}

-- the box of a point: the spans of its cells
abbrev pub box_of : List Span → List ℕ → List Span
box_of xs cells = map (cell_at xs) cells

-- where an assignment has a point
abbrev pub place_in : Assignment → List ℕ → List ℤ
place_in a point = map (number_of a) point
