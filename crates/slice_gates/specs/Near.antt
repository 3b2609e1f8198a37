-- The slices that share a tick with the declared range of a time.
use Rattle.std.specs.Prelude.{ℕ, ◌+◌, ◌*◌, ◌-◌, ◌/◌, ◌≤◌, min, List, [], Option, Some, None, length, slice_index, pos}
use Rattle.std.specs.Option.{option_map}
use Rattle.std.specs.List.{range_with_len}
use Rattle.tube_spec.specs.Span.{Span, Holds}
use Rattle.tube_spec.specs.Tick.{tick_place}
use Rattle.slice_gates.specs.Clock.{ticks_of}
use Rattle.slice_gates.specs.declared.clock.Ticks.{Ticks}
use Rattle.slice_gates.specs.declared.near.Near.{Near}

-- a slice shares a tick with the range, ends of the slice included
pub record SharesTick (grid : List ℕ) (range : Span) (slice : ℕ) : Type 0 where
  pub tick : ℕ
  pub inside : Holds range (pos tick)
  pub begun : slice_index grid slice ≤ tick
  pub not_ended : tick ≤ slice_index grid (slice + 1)

-- The first and the last slice that share a tick with some ticks. The places of a signal's cells go gate 0, envelope 0, gate 1 and so on. So the slice
-- that ends at the gate at a place, or has the envelope there, is (place - 1) / 2, and the slice that begins at the gate, or has the envelope, is place / 2.
abbrev pub near_to : List ℕ → Ticks → Near
near_to grid ticks = record {
  first = (tick_place grid ticks.first - 1) / 2;
  last = min (tick_place grid ticks.last / 2) (length grid - 2);
}

-- the slices that share a tick with the range, of which none may be
abbrev pub near_of : List ℕ → Span → Option Near
near_of grid range = option_map (near_to grid) (ticks_of grid range)

abbrev pub first_of : Option Near → ℕ
first_of None = 0
first_of (Some n) = n.first

-- the numbers of their gates
abbrev pub gates_of : Option Near → List ℕ
gates_of None = []
gates_of (Some n) = range_with_len n.first (n.last + 2 - n.first)

-- the places of their gates and envelopes among the cells of a signal
abbrev pub places_of : Option Near → List ℕ
places_of None = []
places_of (Some n) = range_with_len (2 * n.first) (2 * (n.last + 1 - n.first) + 1)

-- a slice is one of them
abbrev pub IsOneOf : Option Near → ℕ → Type 0
IsOneOf None slice = ⊥
IsOneOf (Some n) slice = (n.first ≤ slice) × (slice ≤ n.last)
