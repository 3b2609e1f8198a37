-- Boxes: one interval for each cell, or the one empty box.
use Rattle.std.specs.Prelude.{◌≡◌, ℕ, Option, Some, None, List, ◌++◌, length, pos, slice_index_or, sum_by}
use Rattle.tube_spec.specs.Limits.{greatest_bound}
use Rattle.tube_spec.specs.Span.{Span, IsProper, IsWithin, IsBounded, point, width_of}

-- the interval of a cell, and 0..0 past the last
abbrev pub cell_at : List Span → ℕ → Span
cell_at xs k = slice_index_or xs k (point (pos 0))

-- each interval has a number
abbrev pub IsBox : List Span → Type 0
IsBox xs = (k : ℕ) → IsProper (cell_at xs k)

-- each interval lies from -500,000,000 to 500,000,000
abbrev pub AreBounded : List Span → Type 0
AreBounded xs = (k : ℕ) → IsBounded greatest_bound (cell_at xs k)

-- one box is below the other: interval by interval
pub record IsBelow (xs ys : List Span) : Type 0 where
  pub len : length xs ≡ length ys
  pub each : (k : ℕ) → IsWithin (cell_at xs k) (cell_at ys k)

-- a box, or the empty box, which is below every box
abbrev pub IsBelowBox : Option (List Span) → Option (List Span) → Type 0
IsBelowBox None b = Unit {0}
IsBelowBox (Some xs) None = ⊥
IsBelowBox (Some xs) (Some ys) = IsBelow xs ys

-- a box with further cells; the empty box stays empty
abbrev pub box_more : Option (List Span) → List Span → Option (List Span)
box_more None more = None
box_more (Some xs) more = Some (xs ++ more)

-- the widths of the intervals, added up
abbrev pub measure_of : Option (List Span) → ℕ
measure_of None = 0
measure_of (Some xs) = sum_by width_of xs
