-- Firings: who waits afterwards, and what the answers of settling say.
use Rattle.std.specs.Prelude.{◌≡◌, ℕ, ◌+◌, ◌≤◌, ◌⊎◌, ◌↔◌, Option, Some, None, List, Bool, true, IsSome, IsNone, IsSomeAnd, Contains, length, slice_get, flat_map, filter_map}
use Rattle.tube_spec.specs.Span.{Span}
use Rattle.tube_spec.specs.Shape.{Shape}
use Rattle.tube_spec.specs.Box.{IsBelowBox, measure_of}
use Rattle.tube_spec.specs.Projection.{Projection}
use Rattle.tube_spec.specs.Fixpoint.{IsFixpoint, IsGreatest, KeepsFixpoints}
use Rattle.tube_store.specs.State.{State}
use Rattle.ctc_core.specs.Revising.{IsNarrower}
use Rattle.ctc_core.specs.Answers.{Revises}
use Rattle.ctc_core.specs.declared.Revised.{Revised}
use Rattle.ctc_network.specs.declared.answers.CtcId.{CtcId}
use Rattle.ctc_network.specs.declared.answers.Settled.{Settled}
use Rattle.ctc_network.specs.declared.answers.Settled.TheVariants.{Fixpoint, Empty, Spent}

-- the contractors with these numbers, in this order
abbrev pub contractors_at : {C : Type 0} → List C → List CtcId → List C
contractors_at cs ids = filter_map (λ id. slice_get cs id.0) ids

-- The laws of a firing hold, with the list of touched cells set aside: the net takes the touched cells and wakes their readers.
abbrev pub Fires : List Projection → State → State → Revised → Type 0
Fires ps old new answer = (touched : List ℕ) × Revises ps old (record new { touched = touched }) answer

-- a cell is narrower in the new box, and neither box is empty
abbrev pub NarrowerIn : Option (List Span) → Option (List Span) → ℕ → Type 0
NarrowerIn None new cell = ⊥
NarrowerIn (Some xs) None cell = ⊥
NarrowerIn (Some xs) (Some ys) cell = IsNarrower xs ys cell

-- among these cells is one that is narrower in the new box
abbrev pub ReadsNarrower : List ℕ → Option (List Span) → Option (List Span) → Type 0
ReadsNarrower scope old new = (cell : ℕ) × Contains scope cell × NarrowerIn old new cell

-- Those wait afterwards, and no others, that waited before, the one that was fired, and those that read a narrower cell.
pub record IsWoken {C : Type 0} (scope : C → Shape → List ℕ) (s : Shape) (cs : List C) (old new : Option (List Span)) (fired : ℕ) (before after : List Bool) : Type 0 where
  pub len : length after ≡ length before
  pub waits : (k : ℕ) (c : C) → slice_get cs k ≡ Some c → (slice_get after k ≡ Some true) ↔ ((slice_get before k ≡ Some true) ⊎ ((k ≡ fired) ⊎ ReadsNarrower (scope c s) old new))

-- Firings made the one store of the other: the box lies below the box before, and every common fixpoint below that stays.
pub record IsNarrowedBy (ps : List Projection) (old new : State) : Type 0 where
  pub shape : new.shape ≡ old.shape
  pub below : IsBelowBox new.box old.box
  pub keeps : KeepsFixpoints ps old.box new.box

-- the contractor with a number still narrows the box
abbrev pub StillNarrows : {C : Type 0} → (C → List Projection) → List C → Option (List Span) → ℕ → Type 0
StillNarrows {C} projections cs box k = (c : C) × (slice_get cs k ≡ Some c) × IsSomeAnd box (λ xs. IsFixpoint (projections c) xs → ⊥)

-- The box is the greatest common fixpoint below the box before, or there is none and the box is empty. Where it is spent,
-- the measure fell by the budget at least, no common fixpoint was lost, and the contractor still narrows the box.
abbrev pub SettlesAs : {C : Type 0} → (C → List Projection) → List C → ℕ → State → State → Settled → Type 0
SettlesAs projections cs budget old new Fixpoint = IsSome new.box × IsGreatest (flat_map projections cs) old.box new.box
SettlesAs projections cs budget old new Empty = IsNone new.box × IsGreatest (flat_map projections cs) old.box new.box
SettlesAs projections cs budget old new (Spent id) =
    IsNarrowedBy (flat_map projections cs) old new × (measure_of new.box + budget ≤ measure_of old.box) × StillNarrows projections cs new.box id.0
