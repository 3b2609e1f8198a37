-- The delay constraint: a signal y is at each tick what a signal x was tau ticks before, for one number tau of ticks.
use Rattle.std.specs.Prelude.{◌≡◌, ℕ, zero, suc, ◌+◌, ◌-◌, ◌<◌, ◌≤◌, Bool, ◌&&◌, cond, List, [], ◌∷◌, ◌++◌, length, slice_index, Option, Some, None, pos, ◌+ℤ◌, int_le}
use Rattle.tube_spec.specs.Span.{Span, point}
use Rattle.tube_spec.specs.Hull.{hull_below}
use Rattle.tube_spec.specs.Narrowing.{Whole, narrowing_of}
use Rattle.tube_spec.specs.Grid.{last_tick}
use Rattle.tube_spec.specs.Shape.{Shape}
use Rattle.tube_spec.specs.Box.{cell_at}
use Rattle.tube_spec.specs.Tick.{tick_place}
use Rattle.tube_spec.specs.Projection.{Projection}
use Rattle.tube_spec.specs.Assignment.{Assignment, value_at, number_of}
use Rattle.int_interval.specs.Inverse.{holds, meets}
use Rattle.ctc_delay.specs.Places.{place_first, place_last, each_place, signal_cells}

-- Below, x and y stand for the first cells of the two signals, and tau for the cell of the variable.

-- what a box gives at a tick to the signal with this first cell
abbrev pub at_tick_from : List ℕ → List Span → ℕ → ℕ → Span
at_tick_from grid xs first k = cell_at xs (first + tick_place grid k)

-- a number of ticks lies in a span
abbrev pub lies_in : Span → ℕ → Bool
lies_in s d = holds s (pos d)

-- The hull of f k d over the ticks k from a to b and over the delays d: the whole numbers that lie both in tau and in 0..last.
abbrev pub delayed_hull : (ℕ → ℕ → Span) → Span → ℕ → ℕ → ℕ → Option Span
delayed_hull f tau last a b = hull_below (λ i. hull_below (λ d. cond (lies_in tau d) (Some (f (a + i) d)) None) (last + 1)) (b - a + 1)

-- The cell of y at a place, over the ticks a to b, lies in the hull of X(k - d) over the ticks k and the delays d,
-- where the upper bound of tau, as it stands in the box, is at most a.
abbrev pub delay_to_at : List ℕ → ℕ → ℕ → ℕ → ℕ → Projection
delay_to_at grid x y tau place = record {
  target = y + place;
  formula = λ xs. cond (int_le (cell_at xs tau).hi (pos (place_first grid place)))
      (narrowing_of (delayed_hull (λ k d. at_tick_from grid xs x (k - d)) (cell_at xs tau) (last_tick grid) (place_first grid place) (place_last grid place)))
      Whole;
}

-- The cell of x at a place, over the ticks a to b, lies in the hull of Y(j + d) over the ticks j and the delays d,
-- where b and the upper bound of tau, as it stands in the box, add up to at most the last tick.
abbrev pub delay_from_at : List ℕ → ℕ → ℕ → ℕ → ℕ → Projection
delay_from_at grid x y tau place = record {
  target = x + place;
  formula = λ xs. cond (int_le (pos (place_last grid place) +ℤ (cell_at xs tau).hi) (pos (last_tick grid)))
      (narrowing_of (delayed_hull (λ j d. at_tick_from grid xs y (j + d)) (cell_at xs tau) (last_tick grid) (place_first grid place) (place_last grid place)))
      Whole;
}

-- a test passes at a, at a + 1 and so on up to a + n
abbrev pub passes_over : (ℕ → Bool) → ℕ → ℕ → Bool
passes_over test a zero = test a
passes_over test a (suc n) = passes_over test a n && test (a + suc n)

-- a delay is possible in a box: X(k - d) meets Y(k) for every tick k from d to the last
abbrev pub is_possible : List ℕ → List Span → ℕ → ℕ → ℕ → Bool
is_possible grid xs x y d = passes_over (λ k. meets (at_tick_from grid xs x (k - d)) (at_tick_from grid xs y k)) d (last_tick grid - d)

-- the hull of the delays in tau and 0..last that are possible
abbrev pub possible_hull : List ℕ → List Span → ℕ → ℕ → Span → Option Span
possible_hull grid xs x y tau = hull_below (λ d. cond (lies_in tau d && is_possible grid xs x y d) (Some (point (pos d))) None) (last_tick grid + 1)

-- tau lies in the hull of the possible delays
abbrev pub delay_shift_at : List ℕ → ℕ → ℕ → ℕ → Projection
delay_shift_at grid x y tau = record { target = tau; formula = λ xs. narrowing_of (possible_hull grid xs x y (cell_at xs tau)) }

-- Forward, the projections on each cell of y; backward, those on each cell of x; and the one on tau.
abbrev pub delay_to_projections : Shape → ℕ → ℕ → ℕ → List Projection
delay_to_projections s x y tau = each_place s.grid (delay_to_at s.grid (slice_index s.signals x) (slice_index s.signals y) (slice_index s.vars tau))

abbrev pub delay_from_projections : Shape → ℕ → ℕ → ℕ → List Projection
delay_from_projections s x y tau = each_place s.grid (delay_from_at s.grid (slice_index s.signals x) (slice_index s.signals y) (slice_index s.vars tau))

abbrev pub delay_shift_projections : Shape → ℕ → ℕ → ℕ → List Projection
delay_shift_projections s x y tau = delay_shift_at s.grid (slice_index s.signals x) (slice_index s.signals y) (slice_index s.vars tau) ∷ []

-- the cells that they read: all cells of x and tau; all cells of y and tau; all cells of x and of y, and tau
abbrev pub delay_to_scope : Shape → ℕ → ℕ → List ℕ
delay_to_scope s x tau = signal_cells s.grid (slice_index s.signals x) ++ slice_index s.vars tau ∷ []

abbrev pub delay_from_scope : Shape → ℕ → ℕ → List ℕ
delay_from_scope s y tau = signal_cells s.grid (slice_index s.signals y) ++ slice_index s.vars tau ∷ []

abbrev pub delay_shift_scope : Shape → ℕ → ℕ → ℕ → List ℕ
delay_shift_scope s x y tau = signal_cells s.grid (slice_index s.signals x) ++ (signal_cells s.grid (slice_index s.signals y) ++ slice_index s.vars tau ∷ [])

-- the signals and the variable are of the shape
abbrev pub DelayFits : Shape → ℕ → ℕ → ℕ → Type 0
DelayFits s x y tau = (x < length s.signals) × (y < length s.signals) × (tau < length s.vars)

-- What the constraint says of an assignment: tau is a number d of ticks from 0 to the last, and from tick d on y is what x was d ticks before.
abbrev pub IsDelay : Shape → Assignment → ℕ → ℕ → ℕ → Type 0
IsDelay s a x y tau =
    (d : ℕ) × (number_of a tau ≡ pos d) × (d ≤ last_tick s.grid) × ((k : ℕ) → d ≤ k → k ≤ last_tick s.grid → value_at a y k ≡ value_at a x (k - d))
