-- What was heard of a source, and the log that it is.
use Rattle.std.specs.Prelude.{◌≡◌, ℕ, suc, ◌<◌, List, Option, Some, None, IfSome, Result, Ok, Err, length}
use Rattle.std.specs.Io.KnownBytes.{IsAtEnd}
use Rattle.csv_rows.specs.Records.{records_of}
use Rattle.mission_log.specs.Log.{log_of}
use Rattle.log_causes.specs.Laws.{IsLowest}
use Rattle.log_fields.specs.declared.fault.Cause.{Cause}
use Rattle.log_fields.specs.declared.fault.Cause.TheVariants as cause
use Rattle.mission_items.specs.declared.mission.Mission.{Mission}
use Rattle.tube_report.specs.Causes.{fault_line}
use Rattle.codac_run.specs.declared.hearing.Heard.{Heard}
use Rattle.codac_run.specs.declared.hearing.Heard.TheVariants as heard

-- all bytes of a source were heard and nothing is left of it, or they are more than a limit
abbrev pub Hears : ℕ → Option (List ℕ) → Option (List ℕ) → Option (List ℕ) → Type 0
Hears limit left rest (Some bytes) = IfSome left (λ xs. bytes ≡ xs) × IsAtEnd rest
Hears limit left rest None = IfSome left (λ xs. limit < length xs)

-- the mission of a log, or the line that says why it is refused
abbrev pub judged : Result Mission (ℕ × Cause) → Result Mission (List ℕ)
judged (Ok m) = Ok m
judged (Err fault) = Err (fault_line fault.0 fault.1)

-- the mission that was heard, or the line that refuses it; more bytes than the longest log has are refused as such
abbrev pub log_heard : Option (List ℕ) → Result Mission (List ℕ)
log_heard (Some bytes) = judged (log_of bytes)
log_heard None = Err (fault_line 0 cause.LogTooLong)

-- where a log is refused at a record, the cause is the lowest of this record, and no record before it has one
abbrev pub TellsLowest : Option (List ℕ) → Type 0
TellsLowest (Some bytes) = (number : ℕ) (cause : Cause) → log_of bytes ≡ Err (suc number, cause) → IsLowest (records_of bytes) number cause
TellsLowest None = Unit {0}

-- what holds of the mission that was accepted, if one was
abbrev pub IfAccepted : Heard → (Mission → Type 0) → Type 0
IfAccepted (heard.Accepted bytes mission) P = P mission
IfAccepted (heard.Refused number cause) P = Unit {0}
IfAccepted heard.Failed P = Unit {0}
IfAccepted heard.NoMemory P = Unit {0}

-- what the reading of a source answers is the log that was heard, whose bytes are kept
abbrev pub Gives : ℕ → Option (List ℕ) → Option (List ℕ) → Heard → Type 0
Gives limit left rest (heard.Accepted bytes mission) = Hears limit left rest (Some bytes.items) × TellsLowest (Some bytes.items) × (log_heard (Some bytes.items) ≡ Ok mission)
Gives limit left rest (heard.Refused number cause) = (told : Option (List ℕ)) × Hears limit left rest told × TellsLowest told × (log_heard told ≡ Err (fault_line number cause))
Gives limit left rest heard.Failed = Unit {0}
Gives limit left rest heard.NoMemory = Unit {0}
