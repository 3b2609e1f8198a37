-- The window of a survey, and the lattice of its points whose coordinates are multiples of a step.
use Rattle.std.specs.Prelude.{ℕ, ◌+◌, ◌-◌, ◌*◌, ◌<◌, List, length, ℤ, pos, ◌+ℤ◌, ◌-ℤ◌, ◌*ℤ◌, neg_ℤ, ◌≤ℤ◌, slice_index}
use Rattle.std.specs.Int.{int_div_euclid, int_rem_euclid}
use Rattle.tube_spec.specs.Span.{Span, natural}
use Rattle.tube_spec.specs.Shape.{Shape}
use Rattle.tube_spec.specs.Box.{cell_at}
use Rattle.tube_spec.specs.Tick.{join_over}
use Rattle.area_paver.specs.declared.axis.Axis.{Axis}

-- how many points a lattice may have
abbrev pub most_points : ℕ
most_points = 4000000

-- the greatest step of a lattice, in millimetres
abbrev pub greatest_step : ℕ
greatest_step = 1000000000

-- the cell of a signal at a place, in the order gate 0, envelope 0, gate 1 and so on
abbrev pub signal_cell : Shape → List Span → ℕ → ℕ → Span
signal_cell s box signal place = cell_at box (slice_index s.signals signal + place)

-- the hull of all cells of a signal
abbrev pub signal_hull : Shape → List Span → ℕ → Span
signal_hull s box signal = join_over (signal_cell s box signal) 0 (2 * length s.grid - 2)

-- a span that is wider by a number at both ends
abbrev pub widened : ℤ → Span → Span
widened by s = record { lo = s.lo -ℤ by; hi = s.hi +ℤ by }

-- the least multiple of a step that is not below a number
abbrev pub multiple_from : ℤ → ℤ → ℤ
multiple_from step low = low +ℤ int_rem_euclid (neg_ℤ low) step

-- how many of first, first + step, first + 2 * step and so on are not above a number
abbrev pub count_to : ℤ → ℤ → ℤ → ℕ
count_to first step high = natural (int_div_euclid (high -ℤ first) step +ℤ pos 1)

-- the multiples of a step in a window
abbrev pub axis_of : ℤ → Span → Axis
axis_of step window = record { first = multiple_from step window.lo; step = step; count = count_to (multiple_from step window.lo) step window.hi }

-- the multiple of a number
abbrev pub coordinate : Axis → ℕ → ℤ
coordinate a k = a.first +ℤ (pos k *ℤ a.step)

-- an axis of a window that reaches no farther than 2,500,000,000: a cell's bound and a radius
pub record IsAxis (a : Axis) : Type 0 where
  pub step : pos 1 ≤ℤ a.step
  pub wide : a.step ≤ℤ pos greatest_step
  pub low : neg_ℤ (pos 2500000000) ≤ℤ a.first
  pub high : a.first ≤ℤ pos 3500000000
  pub within : (k : ℕ) → k < a.count → coordinate a k ≤ℤ pos 2500000000
