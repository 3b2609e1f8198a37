-- The ticks of the clock that lie in a span.
use Rattle.std.specs.Prelude.{ℕ, List, Option, pos}
use Rattle.std.specs.Option.{option_map}
use Rattle.tube_spec.specs.Span.{Span, meet_of, natural}
use Rattle.tube_spec.specs.Grid.{last_tick}
use Rattle.tube_spec.specs.Hull.{proper}
use Rattle.slice_gates.specs.declared.clock.Ticks.{Ticks}

-- the ticks of the clock
abbrev pub clock_of : List ℕ → Span
clock_of grid = record { lo = pos 0; hi = pos (last_tick grid) }

-- the first and the last tick of the clock that lie in a span, of which none may
abbrev pub ticks_of : List ℕ → Span → Option Ticks
ticks_of grid span = option_map (λ w. record { first = natural w.lo; last = natural w.hi }) (proper (meet_of span (clock_of grid)))
