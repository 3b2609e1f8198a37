-- Which cause refuses the bytes of a source of two logs.
use Rattle.std.specs.Prelude.{◌≡◌, ℕ, List, Result, Ok, Err}
use Rattle.log_fields.specs.declared.fault.Cause.{Cause}
use Rattle.mission_items.specs.declared.mission.Mission.{Mission}
use Rattle.mission_log.specs.Log.{log_of}
use Rattle.pair_form.specs.Forms.{IsPairText, SourceForm}
use Rattle.pair_causes.specs.Judged.{AreSaid, IsAccepted, IsRefusedBy}
use Rattle.pair_causes.specs.Sentences.{span_of}
use Rattle.pair_causes.specs.declared.cause.PairCause.{PairCause}
use Rattle.pair_causes.specs.declared.cause.PairCause.TheVariants as cause
use Rattle.pair_causes.specs.declared.cause.PairFault.{PairFault}
use Rattle.pair_causes.specs.declared.cause.PairFault.TheVariants as fault
use Rattle.pair_causes.specs.declared.read.Pair.{Pair}

-- ---- what bytes hold

-- nothing is said
abbrev pub SaysNothing : List ℕ → Type 0
SaysNothing bytes = (form : SourceForm) → IsPairText bytes form → ⊥

-- the first log is refused at this record
pub record HasBadFirst (bytes : List ℕ) (at : ℕ) : Type 0 where
  pub form : SourceForm
  pub says : IsPairText bytes form
  pub cause : Cause
  pub refused : log_of form.first ≡ Err (at, cause)

-- the first log is a mission, and the second one is refused at this record
pub record HasBadSecond (bytes : List ℕ) (at : ℕ) : Type 0 where
  pub form : SourceForm
  pub says : IsPairText bytes form
  pub first : Mission
  pub first_is : log_of form.first ≡ Ok first
  pub cause : Cause
  pub refused : log_of form.second ≡ Err (at, cause)

-- both logs are missions
pub record HasMissions (bytes : List ℕ) (form : SourceForm) (first second : Mission) : Type 0 where
  pub says : IsPairText bytes form
  pub first_is : log_of form.first ≡ Ok first
  pub second_is : log_of form.second ≡ Ok second

-- both logs are missions, and this cause is the lowest that holds of them
pub record HasCause (bytes : List ℕ) (at : ℕ) (cause : PairCause) : Type 0 where
  pub form : SourceForm
  pub first : Mission
  pub second : Mission
  pub missions : HasMissions bytes form first second
  pub refused : IsRefusedBy first second form at cause

-- ---- what is answered

-- the cause that refuses these bytes, and where
abbrev pub IsRefused : List ℕ → ℕ → PairCause → Type 0
IsRefused bytes at cause.Form = (at ≡ 0) × SaysNothing bytes
IsRefused bytes at cause.FirstLog = HasBadFirst bytes at
IsRefused bytes at cause.SecondLog = HasBadSecond bytes at
IsRefused bytes at c = HasCause bytes at c

-- two missions that no cause refuses, and what each link says of them
pub record IsRead (bytes : List ℕ) (pair : Pair) : Type 0 where
  pub missions : HasMissions bytes pair.form pair.first pair.second
  pub accepted : IsAccepted pair.first pair.second pair.form
  pub said : AreSaid pair.first pair.second (span_of pair.form.offset) pair.form.links pair.links.items

abbrev pub IsPairRead : List ℕ → Result Pair PairFault → Type 0
IsPairRead bytes (Ok pair) = IsRead bytes pair
IsPairRead bytes (Err (fault.Bad at c)) = IsRefused bytes at c
IsPairRead bytes (Err fault.NoMemory) = Unit {0}

-- ---- the parts of a reading

abbrev pub IsFormRead : List ℕ → Result SourceForm PairFault → Type 0
IsFormRead bytes (Ok form) = IsPairText bytes form
IsFormRead bytes (Err (fault.Bad at c)) = (c ≡ cause.Form) × (at ≡ 0) × SaysNothing bytes
IsFormRead bytes (Err fault.NoMemory) = Unit {0}

abbrev pub IsLogRead : List ℕ → PairCause → Result Mission PairFault → Type 0
IsLogRead log named (Ok mission) = log_of log ≡ Ok mission
IsLogRead log named (Err (fault.Bad at c)) = (c ≡ named) × ((why : Cause) × (log_of log ≡ Err (at, why)))
IsLogRead log named (Err fault.NoMemory) = Unit {0}
