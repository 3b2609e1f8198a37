-- Who waits after a firing.
use Rattle.std.specs.Prelude.{◌≡◌, ◌≢◌, ◌⊎◌, ℕ, Option, List, Bool, true, false, Some, IfSome, length, count_by, slice_get, Contains}
use Rattle.std.specs.List.{list_any}
use Rattle.tube_spec.specs.Span.{Span}
use Rattle.tube_spec.specs.Projection.{Projection}
use Rattle.tube_spec.specs.Fixpoint.{IsFixpoint}
use Rattle.ctc_core.specs.Revising.{IsNarrower}

-- how many of the contractors read a cell
abbrev pub readers : {C : Type 0} → (C → ℕ → Bool) → List C → ℕ → ℕ
readers reads cs cell = count_by (λ c. reads c cell) cs

-- Who waits afterwards waited before, or has the number k, or reads one of the cells; and each of those waits.
pub record AreWoken {C : Type 0} (reads : C → ℕ → Bool) (cs : List C) (cells : List ℕ) (k : ℕ) (before after : List Bool) : Type 0 where
  pub len : length after ≡ length before
  pub only : (j : ℕ) (c : C) → slice_get cs j ≡ Some c → slice_get after j ≡ Some true → (slice_get before j ≡ Some true) ⊎ ((j ≡ k) ⊎ (list_any (reads c) cells ≡ true))
  pub all : (j : ℕ) (c : C) → slice_get cs j ≡ Some c → slice_get after j ≡ Some false → (slice_get before j ≡ Some false) × (j ≢ k) × (list_any (reads c) cells ≡ false)

-- Every contractor that does not wait leaves the box: where the box is not empty, it is a fixpoint of that contractor.
abbrev pub AreAtRest : {C : Type 0} → (C → List Projection) → List C → List Bool → Option (List Span) → Type 0
AreAtRest {C} projections cs waiting box = (k : ℕ) (c : C) → slice_get cs k ≡ Some c → slice_get waiting k ≡ Some false → IfSome box (IsFixpoint (projections c))

-- In the midst of waking, from the box xs to the box ys: who rests left xs, and each narrower cell that it reads is still to come.
pub record IsDraining {C : Type 0} (projections : C → List Projection) (reads : C → ℕ → Bool) (cs : List C) (xs ys : List Span) (waiting : List Bool) (cells : List ℕ) : Type 0 where
  pub rest : (j : ℕ) (c : C) → slice_get cs j ≡ Some c → slice_get waiting j ≡ Some false → IsFixpoint (projections c) xs
  pub ahead : (j : ℕ) (c : C) (cell : ℕ) → slice_get cs j ≡ Some c → slice_get waiting j ≡ Some false → reads c cell ≡ true → IsNarrower xs ys cell → Contains cells cell
