-- What is true of every two missions and every form.
use Rattle.std.specs.Prelude.{◌≡◌, ℕ}
use Rattle.mission_items.specs.declared.mission.Mission.{Mission}
use Rattle.pair_form.specs.Forms.{SourceForm}
use Rattle.pair_causes.specs.Judged.{IsAccepted, IsRefusedBy}
use Rattle.pair_causes.specs.declared.cause.PairCause.{PairCause}

-- one cause at most refuses them, at one place, and none does where no cause holds
pub record IsOneRefusal (first second : Mission) (form : SourceForm) (at : ℕ) (cause : PairCause) : Type 0 where
  pub same_cause : (other : ℕ) (c : PairCause) → IsRefusedBy first second form other c → cause ≡ c
  pub same_place : (other : ℕ) (c : PairCause) → IsRefusedBy first second form other c → at ≡ other
  pub not_accepted : IsAccepted first second form → ⊥

abbrev pub RefusalsAreOne : Type 0
RefusalsAreOne = (first second : Mission) (form : SourceForm) (at : ℕ) (cause : PairCause) → IsRefusedBy first second form at cause → IsOneRefusal first second form at cause
