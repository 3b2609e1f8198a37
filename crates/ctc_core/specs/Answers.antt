-- What the answer of a firing says.
use Rattle.std.specs.Prelude.{◌≡◌, ℕ, Option, Some, List, IfSome, IsNone, IsSome, Bool, true, false, [], ◌∷◌}
use Rattle.tube_spec.specs.Span.{Span, IsProper, meet_of}
use Rattle.tube_spec.specs.Narrowing.{Narrowing, Whole, Nothing, Within, narrowing_of}
use Rattle.tube_spec.specs.Projection.{Projection, IsMonotone}
use Rattle.tube_store.specs.State.{State, IsStore}
use Rattle.tube_store.specs.declared.Cut.{Cut}
use Rattle.tube_store.specs.declared.Cut.TheVariants as cuts
use Rattle.ctc_core.specs.Revising.{IsRevised}
use Rattle.ctc_core.specs.declared.Revised.{Revised}
use Rattle.ctc_core.specs.declared.Revised.TheVariants.{Same, Narrowed, Empty}

-- the answer says that the store changed
abbrev pub changed_by : Revised → Bool
changed_by Same = false
changed_by Narrowed = true
changed_by Empty = true

-- a fact for each answer
abbrev pub MatchRevised : Revised → Type 0 → Type 0 → Type 0 → Type 0
MatchRevised Same p q r = p
MatchRevised Narrowed p q r = q
MatchRevised Empty p q r = r

-- the answer of a firing that made one cut
abbrev pub revised_of : Cut → Revised
revised_of cuts.Same = Same
revised_of cuts.Narrowed = Narrowed
revised_of cuts.Empty = Empty

-- the answer of one firing and then another
abbrev pub then_of : Revised → Revised → Revised
then_of Empty later = Empty
then_of Same later = later
then_of Narrowed Same = Narrowed
then_of Narrowed Narrowed = Narrowed
then_of Narrowed Empty = Empty

-- The laws of a firing: what it leaves, and what its answer says. An empty store stays as it was.
pub record Revises (ps : List Projection) (old new : State) (answer : Revised) : Type 0 where
  pub before : IsStore old
  pub after : IsStore new
  pub revised : IsRevised ps old new (changed_by answer)
  pub says : MatchRevised answer (IsSome new.box) (IsSome new.box) (IsNone new.box)
  pub empty : IsNone old.box → new ≡ old

-- the formula gives no more in a lesser box than in this one
abbrev pub IsMonotoneBelow : Option (List Span) → Projection → Type 0
IsMonotoneBelow box p = IsMonotone (λ xs. box ≡ Some xs) p

-- Each projection of this target was fired of which the formula gives this in the old box, and no more in a lesser one.
abbrev pub HoldsBy : ℕ → Option Span → State → State → Revised → Type 0
HoldsBy cell to old new answer =
    (p : Projection) → p.target ≡ cell → IsMonotoneBelow old.box p → IfSome old.box (λ xs. p.formula xs ≡ narrowing_of to) → Revises (p ∷ []) old new answer

-- a formula gives nothing, or an interval that shares no number with the cell
abbrev pub SharesNothing : Span → Narrowing → Type 0
SharesNothing cell Whole = ⊥
SharesNothing cell Nothing = Unit {0}
SharesNothing cell (Within s) = IsProper (meet_of cell s) → ⊥
