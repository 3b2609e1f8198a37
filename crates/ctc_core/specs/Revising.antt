-- What a firing does to a store.
use Rattle.std.specs.Prelude.{◌≡◌, ℕ, ◌<◌, ◌⊎◌, ◌↔◌, Option, Some, None, List, Bool, true, false, Contains, All}
use Rattle.tube_spec.specs.Span.{Span, width_of}
use Rattle.tube_spec.specs.Narrowing.{IsUnder}
use Rattle.tube_spec.specs.Box.{cell_at, IsBelowBox}
use Rattle.tube_spec.specs.Projection.{Projection}
use Rattle.tube_spec.specs.Fixpoint.{KeepsFixpoints}
use Rattle.tube_store.specs.State.{State}

-- a cell is narrower in the new box
abbrev pub IsNarrower : List Span → List Span → ℕ → Type 0
IsNarrower old new k = width_of (cell_at new k) < width_of (cell_at old k)

-- a fact about the lists of two boxes, where neither is empty
abbrev pub IfBoth : Option (List Span) → Option (List Span) → (List Span → List Span → Type 0) → Type 0
IfBoth None b P = Unit {0}
IfBoth (Some xs) None P = Unit {0}
IfBoth (Some xs) (Some ys) P = P xs ys

-- the touched cells are those from before and those that are narrower
abbrev pub AddsNarrower : List ℕ → List ℕ → List Span → List Span → Type 0
AddsNarrower before after xs ys = (k : ℕ) → Contains after k ↔ (Contains before k ⊎ IsNarrower xs ys k)

-- The projections were each applied, in some order: what the store was, what it is, and whether a cell narrowed.
pub record IsRevised (ps : List Projection) (old new : State) (changed : Bool) : Type 0 where
  pub shape : new.shape ≡ old.shape
  pub below : IsBelowBox new.box old.box
  pub keeps : KeepsFixpoints ps old.box new.box
  pub stable : IfBoth old.box new.box (λ xs ys. All (λ p. IsUnder (cell_at ys p.target) (p.formula xs)) ps)
  pub touched : IfBoth old.box new.box (λ xs ys. AddsNarrower old.touched new.touched xs ys)
  pub same : changed ≡ false → new ≡ old
  pub narrower : changed ≡ true → IfBoth old.box new.box (λ xs ys. (k : ℕ) × IsNarrower xs ys k)
