-- Parts that are fired one after another.
use Rattle.std.specs.Prelude.{◌≡◌, ℕ, ◌<◌, ◌⊎◌, List, Bool, true, false, IsSome, All, Contains}
use Rattle.std.specs.List.{flat_map}
use Rattle.tube_spec.specs.Projection.{Projection}
use Rattle.tube_store.specs.State.{State}
use Rattle.ctc_core.specs.Answers.{Revises, then_of}
use Rattle.ctc_core.specs.declared.Revised.{Revised}

-- Some of the parts below n were fired one after another, and where the box is not empty after, each marked part below `end` among them.
pub record Sweeps (n : ℕ) (part : ℕ → List Projection) (marked : ℕ → Bool) (end : ℕ) (old new : State) (answer : Revised) : Type 0 where
  pub done : List ℕ
  pub few : All (λ i. i < n) done
  pub fired : Revises (flat_map part done) old new answer
  pub cover : IsSome new.box → (i : ℕ) → i < end → marked i ≡ true → Contains done i

-- one part was fired, or its flag was not set and nothing was done
abbrev pub IsTurn : List Projection → Bool → State → State → Revised → Revised → Type 0
IsTurn part flag old new before after =
    ((x : Revised) × (Revises part old new x) × (after ≡ then_of before x)) ⊎ ((flag ≡ false) × (new ≡ old) × (after ≡ before))
