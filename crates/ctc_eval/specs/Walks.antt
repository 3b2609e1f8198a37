-- What a box gives a signal at a place among its cells, and what the signal may come to at a tick from the ticks before it and from the others.
use Rattle.std.specs.Prelude.{ℕ, ◌+◌, ◌<◌, ◌≤◌, ◌⊎◌, List, Option, Some, None, length, slice_index}
use Rattle.std.specs.Option.{option_map}
use Rattle.tube_spec.specs.Span.{Span, meet_of, add_of}
use Rattle.tube_spec.specs.Grid.{last_tick}
use Rattle.tube_spec.specs.Hull.{proper}
use Rattle.tube_spec.specs.Shape.{Shape}
use Rattle.tube_spec.specs.Box.{cell_at}
use Rattle.slice_gates.specs.declared.clock.Ticks.{Ticks}
use Rattle.slice_gates.specs.declared.near.Near.{Near}
use Rattle.ctc_eval.specs.Clock.{only_in, IsHullOver}
use Rattle.ctc_eval.specs.Evals.{variable_at, reached_from}

-- the cell at a place, which is that of a tick where the tick stands at the place
abbrev pub at_place : Shape → List Span → ℕ → ℕ → Span
at_place s xs x place = cell_at xs (slice_index s.signals x + place)

-- what the value and the signal share at a place
abbrev pub shared_by : Shape → ℕ → ℕ → List Span → ℕ → Option Span
shared_by s x z xs place = proper (meet_of (variable_at s xs z) (at_place s xs x place))

-- a span more, where there is one
abbrev pub later_by : Span → Option Span → Option Span
later_by r o = option_map (λ both. add_of both r) o

-- a tick between two ticks is one of some ticks where it is one of these
abbrev pub IsInside : Ticks → ℕ → ℕ → Ticks → Type 0
IsInside ticks start end inner = (start < inner.first) × (ticks.first ≤ inner.first) × (inner.first ≤ inner.last) × (inner.last ≤ ticks.last) × (inner.last < end)
    × ((k : ℕ) → start < k → k < end → (k < inner.first) ⊎ (inner.last < k) → (k < ticks.first) ⊎ (ticks.last < k))

-- which of some ticks lie between two ticks, of which none may
abbrev pub AreInside : Ticks → ℕ → ℕ → Option Ticks → Type 0
AreInside ticks start end None = (k : ℕ) → start < k → k < end → (k < ticks.first) ⊎ (ticks.last < k)
AreInside ticks start end (Some inner) = IsInside ticks start end inner

-- slices of the grid, from whose start to whose end the ticks are
pub record Covers (grid : List ℕ) (ticks : Ticks) (near : Near) : Type 0 where
  pub order : near.first ≤ near.last
  pub among : near.last + 1 < length grid
  pub starts : slice_index grid near.first ≤ ticks.first
  pub ends : ticks.last ≤ slice_index grid (near.last + 1)

-- What the signal may come to at a tick from the ticks of the time before it, and from those from it on.
abbrev pub IsFromBefore : Shape → ℕ → ℕ → ℕ → List Span → Ticks → ℕ → Option Span → Type 0
IsFromBefore s x v z xs ticks tick h = IsHullOver (only_in ticks (reached_from s x v z tick xs)) 0 tick h

abbrev pub IsFromOn : Shape → ℕ → ℕ → ℕ → List Span → Ticks → ℕ → Option Span → Type 0
IsFromOn s x v z xs ticks tick h = IsHullOver (only_in ticks (reached_from s x v z tick xs)) tick (last_tick s.grid + 1) h
