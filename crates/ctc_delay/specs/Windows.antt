-- Windows: of each place of one signal the ticks of another, and the hulls over them of places one after another.
use Rattle.std.specs.Prelude.{◌≡◌, ℕ, ◌+◌, ◌-◌, ◌<◌, ◌≤◌, List, [], Option, Some, None, IfSome, length, map, slice_index, slice_index_or, pos}
use Rattle.std.specs.List.{range_with_len}
use Rattle.tube_spec.specs.Limits.{most_ticks}
use Rattle.tube_spec.specs.Span.{Span, IsWithin, point}
use Rattle.tube_spec.specs.Narrowing.{Within}
use Rattle.tube_spec.specs.Grid.{last_tick}
use Rattle.tube_spec.specs.Shape.{Shape}
use Rattle.tube_spec.specs.Projection.{Projection}
use Rattle.ctc_delay.specs.Places.{place_count, place_first, place_last}
use Rattle.ctc_delay.specs.Delays.{at_tick_from}
use Rattle.ctc_delay.specs.declared.windows.Window.{Window}
use Rattle.ctc_delay.specs.declared.held.Held.{Held}

-- the first and the last tick that a window has for a place
abbrev pub window_first : List ℕ → Window → ℕ → ℕ
window_first grid w place = (place_first grid place + w.ahead) - w.behind

abbrev pub window_last : List ℕ → Window → ℕ → ℕ
window_last grid w place = (place_last grid place + w.width + w.ahead) - w.behind

-- the window's signal is of the shape, and from a place on its ticks are not before the first one
pub record WindowFits (s : Shape) (w : Window) (first : ℕ) : Type 0 where
  pub signal : w.signal.0 < length s.signals
  pub ahead : w.ahead ≤ most_ticks
  pub width : w.width ≤ most_ticks
  pub reached : w.behind ≤ place_first s.grid first + w.ahead

-- the cells of a box, none of the empty one
abbrev pub cells_of : Option (List Span) → List Span
cells_of None = []
cells_of (Some xs) = xs

-- the least span that holds what f gives at each tick from a to b
pub record IsOver (f : ℕ → Span) (a b : ℕ) (hull : Span) : Type 0 where
  pub holds : (k : ℕ) → a ≤ k → k ≤ b → IsWithin (f k) hull
  pub least : (t : Span) → ((k : ℕ) → a ≤ k → k ≤ b → IsWithin (f k) t) → IsWithin hull t

-- what a box gives at a tick to a signal with this number
abbrev pub signal_at : Shape → Option (List Span) → ℕ → ℕ → Span
signal_at s box signal k = at_tick_from s.grid (cells_of box) (slice_index s.signals signal) k

-- the hull of what a window has for a place
abbrev pub IsOverWindow : Shape → Option (List Span) → Window → ℕ → Span → Type 0
IsOverWindow s box w place hull = IsOver (signal_at s box w.signal.0) (window_first s.grid w place) (window_last s.grid w place) hull

-- From a place on each projection is held by the hull over the window of its place, as far as the window ends within the clock.
pub record IsWindowOf (s : Shape) (box : Option (List Span)) (p : ℕ → Projection) (w : Window) (first : ℕ) : Type 0 where
  pub fits : WindowFits s w first
  pub inside : window_last s.grid w first ≤ last_tick s.grid
  pub gives : (place : ℕ) (hull : Span) → first ≤ place → place < place_count s.grid → window_last s.grid w place ≤ last_tick s.grid → IsOverWindow s box w place hull
      → IfSome box (λ xs. (p place).formula xs ≡ Within hull)

-- a projection that holds the cell at a place by what is kept of it, whatever the box
abbrev pub held_projection : Shape → Held → ℕ → Projection
held_projection s h j = record { target = slice_index s.signals h.signal.0 + (h.first + j); formula = λ xs. Within (slice_index_or h.hulls j (point (pos 0))) }

abbrev pub held_projections : Shape → Held → List Projection
held_projections s h = map (held_projection s h) (range_with_len 0 h.count)

-- the places are of the shape
pub record HeldFits (s : Shape) (h : Held) : Type 0 where
  pub signal : h.signal.0 < length s.signals
  pub places : h.first + h.count ≤ place_count s.grid
  pub few : h.count ≤ 256
  pub room : length h.hulls ≡ 256
