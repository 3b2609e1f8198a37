-- What is true of every record and of every log that is refused.
use Rattle.std.specs.Prelude.{◌≡◌, ℕ, suc, List, ◌∷◌, Option, Some, None, Result, Ok, Err, take, drop}
use Rattle.csv_rows.specs.Records.{Record, records_of}
use Rattle.log_fields.specs.declared.fault.Cause.{Cause}
use Rattle.mission_items.specs.declared.mission.Mission.{Mission}
use Rattle.mission_log.specs.Log.{log_from, log_of, nothing_yet, step}
use Rattle.log_causes.specs.Sentences.{lowest_cause_after, taken}

-- the cause, if there is one
abbrev pub judged : {A : Type 0} → Option Cause → A → Result A Cause
judged None x = Ok x
judged (Some c) x = Err c

-- what a record makes of the mission before it is told by its lowest cause, or where it has none by what it says
abbrev pub RecordsAreJudged : Type 0
RecordsAreJudged = (d : Mission) (r : Record) → step d r ≡ judged (lowest_cause_after d r) (taken d r)

-- The records before a number have no cause: they make a mission. The record with the number has this one as its lowest, after them.
pub record IsLowest (rs : List Record) (number : ℕ) (cause : Cause) : Type 0 where
  pub before : Mission
  pub makes : log_from nothing_yet (take number rs) ≡ Ok before
  pub refused : Record
  pub others : List Record
  pub stands : drop number rs ≡ refused ∷ others
  pub lowest : lowest_cause_after before refused ≡ Some cause

abbrev pub LowestIsTold : Type 0
LowestIsTold = (log : List ℕ) (number : ℕ) (cause : Cause) → log_of log ≡ Err (suc number, cause) → IsLowest (records_of log) number cause
