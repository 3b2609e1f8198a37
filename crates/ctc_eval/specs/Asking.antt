-- What ticks give of what is asked of them.
use Rattle.std.specs.Prelude.{ℕ, List, Option, Some, pos}
use Rattle.std.specs.Option.{option_map}
use Rattle.tube_spec.specs.Span.{Span}
use Rattle.tube_spec.specs.Shape.{Shape}
use Rattle.tube_spec.specs.Tick.{at_tick}
use Rattle.slice_gates.specs.declared.clock.Ticks.{Ticks}
use Rattle.ctc_eval.specs.Evals.{met_at}
use Rattle.ctc_eval.specs.Walks.{at_place, shared_by}
use Rattle.ctc_eval.specs.declared.sweep.Asked.{Asked}
use Rattle.ctc_eval.specs.declared.sweep.Asked.TheVariants.{Value, Time}

-- at a tick: what the signal may be, or the tick itself where the signal meets the value
abbrev pub asked_at : Shape → ℕ → ℕ → List Span → Asked → ℕ → Option Span
asked_at s x z xs Value k = Some (at_tick s xs x k)
asked_at s x z xs Time k = met_at s x z xs k

-- of ticks that stand at one place
abbrev pub part_of : Shape → ℕ → ℕ → List Span → Asked → Ticks → ℕ → Option Span
part_of s x z xs Value ticks place = Some (at_place s xs x place)
part_of s x z xs Time ticks place = option_map (λ both. record { lo = pos ticks.first; hi = pos ticks.last }) (shared_by s x z xs place)
