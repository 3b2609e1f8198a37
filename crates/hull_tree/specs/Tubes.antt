-- The intervals of a signal at the first ticks.
use Rattle.std.specs.Prelude.{◌≡◌, ℕ, Option, List, map, length, IfSome}
use Rattle.std.specs.List.{range_with_len}
use Rattle.tube_spec.specs.Span.{Span}
use Rattle.tube_spec.specs.Shape.{Shape}
use Rattle.tube_spec.specs.Box.{IsBox, AreBounded}
use Rattle.tube_spec.specs.Tick.{at_tick}

-- what a box gives a signal at the ticks below k
pub record IsTubeTo (s : Shape) (box : Option (List Span)) (signal k : ℕ) (ticks : List Span) : Type 0 where
  pub len : length ticks ≡ k
  pub made : IfSome box (λ xs. ticks ≡ map (at_tick s xs signal) (range_with_len 0 k))
  pub proper : IsBox ticks
  pub bounded : AreBounded ticks
