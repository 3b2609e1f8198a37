-- What is true of every log.
use Rattle.std.specs.Prelude.{◌≡◌, ℕ, suc, ◌≤◌, ◌++◌, ◌∷◌, List, Ok, Err, length, take, drop}
use Rattle.csv_rows.specs.Records.{Record, records_of}
use Rattle.tube_spec.specs.Limits.{most_bytes}
use Rattle.mission_items.specs.declared.mission.Mission.{Mission}
use Rattle.mission_log.specs.Log.{log_from, log_of, nothing_yet, step}
use Rattle.log_fields.specs.declared.fault.Cause.{Cause}

-- a log that is refused at a record is refused the same whatever records follow, within the longest log
abbrev pub RefusalStands : Type 0
RefusalStands =
    (log longer : List ℕ) (more : List Record) (number : ℕ) (cause : Cause) → length longer ≤ most_bytes
    → records_of longer ≡ records_of log ++ more
    → log_of log ≡ Err (suc number, cause) → log_of longer ≡ Err (suc number, cause)

-- ---- the first record that has a cause

-- The records before a number have no cause: they make a mission. The record with the number has this one, after them.
pub record IsFirstCause (rs : List Record) (number : ℕ) (cause : Cause) : Type 0 where
  pub before : Mission
  pub taken : log_from nothing_yet (take number rs) ≡ Ok before
  pub refused : Record
  pub others : List Record
  pub stands : drop number rs ≡ refused ∷ others
  pub finds : step before refused ≡ Err cause

-- where a log is refused at a record, that record is the first that has a cause, and the cause is its lowest
abbrev pub FirstIsTold : Type 0
FirstIsTold = (log : List ℕ) (number : ℕ) (cause : Cause) → log_of log ≡ Err (suc number, cause) → IsFirstCause (records_of log) number cause
