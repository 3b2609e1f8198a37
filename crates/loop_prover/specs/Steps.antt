-- A step as the code goes on: what is left of it, or nothing.
use Rattle.std.specs.Prelude.{ℕ, Option, Some, None, List, ℤ, pos, neg_ℤ}
use Rattle.std.specs.Int.{int_max}
use Rattle.std.specs.List.{fold}
use Rattle.tube_spec.specs.Span.{Span, meet_of}
use Rattle.tube_spec.specs.Hull.{proper}
use Rattle.loop_degree.specs.Steps.{Tubes}

-- what is left of a span that may be nothing already
abbrev pub meet_option : Option Span → Span → Option Span
meet_option None t = None
meet_option (Some s) t = proper (meet_of s t)

-- the greatest absolute value of a span's numbers, 0 where there is nothing
abbrev pub greatest_option : Option Span → ℤ
greatest_option None = pos 0
greatest_option (Some s) = int_max (neg_ℤ s.lo) s.hi

-- what the rates at a tick leave of a change
abbrev pub left_of : Tubes → Span → List ℕ → ℕ → Span
left_of tubes change rates k = fold (λ step v. meet_of step (tubes v k)) change rates
