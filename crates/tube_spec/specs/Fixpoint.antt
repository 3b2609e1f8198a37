-- Common fixpoints of projections, and the greatest one.
use Rattle.std.specs.Prelude.{Option, Some, None, List, All}
use Rattle.tube_spec.specs.Span.{Span}
use Rattle.tube_spec.specs.Box.{IsBox, IsBelow, IsBelowBox}
use Rattle.tube_spec.specs.Projection.{Projection, IsStable}

-- a box that is stable under each of the projections
pub record IsFixpoint (ps : List Projection) (xs : List Span) : Type 0 where
  pub box : IsBox xs
  pub stable : All (IsStable xs) ps

-- The greatest common fixpoint below a start, or the empty box where there is none.
abbrev pub IsGreatest : List Projection → Option (List Span) → Option (List Span) → Type 0
IsGreatest ps start None = (q : List Span) → IsFixpoint ps q → IsBelowBox (Some q) start → ⊥
IsGreatest ps start (Some r) =
    IsFixpoint ps r × IsBelowBox (Some r) start × ((q : List Span) → IsFixpoint ps q → IsBelowBox (Some q) start → IsBelow q r)

-- every common fixpoint below the old box is below the new one
abbrev pub KeepsFixpoints : List Projection → Option (List Span) → Option (List Span) → Type 0
KeepsFixpoints ps old new = (q : List Span) → IsFixpoint ps q → IsBelowBox (Some q) old → IsBelowBox (Some q) new
