-- The definitions tried on small lists.
use Rattle.std.proofs.Common.{◌≡◌, ℕ, zero, suc, ◌*◌, None, List, [], ◌∷◌, pos, negsuc, ◌+ℤ◌, ◌-ℤ◌, refl, length}
use Rattle.tube_spec.specs.Span.{Span}
use Rattle.loop_degree.specs.declared.labels.Label.{Label}
use Rattle.loop_degree.specs.declared.labels.Label.TheVariants.{East, West, North, South}
use Rattle.loop_degree.specs.Cells.{boundary, ends_of}
use Rattle.loop_degree.specs.Labels.{label_at, degree_of}
use Rattle.loop_degree.specs.Boundary.{turns_of}
use Rattle.loop_degree.specs.Steps.{step_of, greatest_in, step_bound_of}

-- one cell, whose corners turn once; and the same the other way round
one-cell : degree_of ((0, 10) ∷ []) (label_at ((0, 10, North) ∷ (0, 11, East) ∷ (1, 10, West) ∷ (1, 11, South) ∷ [])) ≡ pos 1
one-cell = refl

one-cell-back : degree_of ((0, 10) ∷ []) (label_at ((0, 10, West) ∷ (0, 11, South) ∷ (1, 10, North) ∷ (1, 11, East) ∷ [])) ≡ negsuc 0
one-cell-back = refl

-- its corners run round it, also at the corner of the plane
one-cell-ends : ends_of (boundary ((0, 0) ∷ [])) ≡ (0, 0) ∷ (1, 0) ∷ (1, 0) ∷ (1, 1) ∷ (1, 1) ∷ (0, 1) ∷ (0, 1) ∷ (0, 0) ∷ []
one-cell-ends = refl

-- two cells do not count the side that they share
two-cells : length (boundary ((0, 5) ∷ (0, 6) ∷ [])) ≡ 6
two-cells = refl

-- no cells have no boundary
no-cells : degree_of [] (label_at []) ≡ pos 0
no-cells = refl

-- a corner without a label
unlabelled : turns_of ((0, 10, North) ∷ (0, 11, East) ∷ (1, 10, West) ∷ []) (boundary ((0, 10) ∷ [])) ≡ None
unlabelled = refl

-- A path crosses itself at ticks 4 and 20: the corners have a from 1 to 7 and b from 17 to 23, and 24 of them lie on the boundary.
crossing_cells : List (ℕ × ℕ)
crossing_cells =
    (1, 17) ∷ (1, 18) ∷ (1, 19) ∷ (1, 20) ∷ (1, 21) ∷ (1, 22) ∷ (2, 17) ∷ (2, 18) ∷ (2, 19) ∷ (2, 20) ∷ (2, 21) ∷ (2, 22)
    ∷ (3, 17) ∷ (3, 18) ∷ (3, 19) ∷ (3, 20) ∷ (3, 21) ∷ (3, 22) ∷ (4, 17) ∷ (4, 18) ∷ (4, 19) ∷ (4, 20) ∷ (4, 21) ∷ (4, 22)
    ∷ (5, 17) ∷ (5, 18) ∷ (5, 19) ∷ (5, 20) ∷ (5, 21) ∷ (5, 22) ∷ (6, 17) ∷ (6, 18) ∷ (6, 19) ∷ (6, 20) ∷ (6, 21) ∷ (6, 22) ∷ []

crossing_labels : List (ℕ × ℕ × Label)
crossing_labels =
    (1, 17, East) ∷ (1, 18, East) ∷ (1, 19, East) ∷ (1, 20, East) ∷ (1, 21, East) ∷ (1, 22, East) ∷ (1, 23, East)
    ∷ (2, 17, South) ∷ (2, 23, North) ∷ (3, 17, South) ∷ (3, 23, North) ∷ (4, 17, South) ∷ (4, 23, North) ∷ (5, 17, South) ∷ (5, 23, North) ∷ (6, 17, South) ∷ (6, 23, North)
    ∷ (7, 17, West) ∷ (7, 18, West) ∷ (7, 19, West) ∷ (7, 20, West) ∷ (7, 21, West) ∷ (7, 22, West) ∷ (7, 23, West) ∷ []

crossing-edges : length (boundary crossing_cells) ≡ 24
unfolding crossing_cells
crossing-edges = refl

crossing-degree : degree_of crossing_cells (label_at crossing_labels) ≡ negsuc 0
unfolding crossing_cells crossing_labels
crossing-degree = refl

-- A signal between -6 and 6 about 10 k at tick k: its step alone may be as large as 22, and with a rate of 10 it is 10.
abbrev about : ℕ → ℕ → Span
about zero k = record { lo = pos (10 * k) -ℤ pos 6; hi = pos (10 * k) +ℤ pos 6 }
about (suc x) k = record { lo = pos 10; hi = pos 10 }

free-step : greatest_in (step_of about 0 [] 3) ≡ pos 22
free-step = refl

rated-step : greatest_in (step_of about 0 (1 ∷ []) 3) ≡ pos 10
rated-step = refl

-- the greatest sum over the cells, and 1 where there are none
two-ticks : step_bound_of about 0 (1 ∷ []) ((3, 8) ∷ (4, 8) ∷ []) ≡ pos 20
two-ticks = refl

no-ticks : step_bound_of about 0 [] [] ≡ pos 1
no-ticks = refl
