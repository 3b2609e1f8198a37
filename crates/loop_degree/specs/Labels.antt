-- Labels of corners, what they say, and the degree of a labelled boundary.
use Rattle.std.specs.Prelude.{ℕ, Bool, true, false, ◌&&◌, cond, Option, Some, None, List, [], ◌∷◌, ℤ, pos, ◌-ℤ◌, neg_ℤ, ◌≤ℤ◌, count_by}
use Rattle.tube_spec.specs.Span.{Span}
use Rattle.loop_degree.specs.declared.labels.Label.{Label}
use Rattle.loop_degree.specs.declared.labels.Label.TheVariants.{East, West, North, South}
use Rattle.loop_degree.specs.Pairs.{is_same}
use Rattle.loop_degree.specs.Cells.{boundary}

-- What a label says of the spans of two differences, under a bound for each: one of them lies wholly at its bound or beyond.
abbrev pub LabelHolds : ℤ → ℤ → Label → Span → Span → Type 0
LabelHolds d e East dx dy = d ≤ℤ dx.lo
LabelHolds d e West dx dy = dx.hi ≤ℤ neg_ℤ d
LabelHolds d e North dx dy = e ≤ℤ dy.lo
LabelHolds d e South dx dy = dy.hi ≤ℤ neg_ℤ e

-- the label of a corner in a list of labelled corners
abbrev pub label_at : List (ℕ × ℕ × Label) → ℕ × ℕ → Option Label
label_at [] p = None
label_at (l ∷ labels) p = cond (is_same (l.0, l.1) p) (Some l.2) (label_at labels p)

abbrev pub is_north : Option Label → Bool
is_north (Some North) = true
is_north label = false

abbrev pub is_west : Option Label → Bool
is_west (Some West) = true
is_west label = false

-- The degree: the boundary edges from North to West, less those from West to North.
abbrev pub degree_of : List (ℕ × ℕ) → (ℕ × ℕ → Option Label) → ℤ
degree_of cells label =
    pos (count_by (λ e. is_north (label e.from) && is_west (label e.to)) (boundary cells))
    -ℤ pos (count_by (λ e. is_west (label e.from) && is_north (label e.to)) (boundary cells))
