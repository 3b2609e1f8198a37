-- What is true of every mission that is printed and read again.
use Rattle.std.specs.Prelude.{◌≡◌, ℕ, ◌≤◌, List, length, Result, Ok, Err}
use Rattle.tube_spec.specs.Limits.{most_bytes}
use Rattle.mission_items.specs.declared.mission.Mission.{Mission}
use Rattle.mission_items.specs.Valid.{IsMission}
use Rattle.log_fields.specs.declared.fault.Cause.{Cause}
use Rattle.mission_log.specs.Log.{log_of}
use Rattle.log_text.specs.Texts.{log_text}

-- the text of an accepted mission, if it is no longer than the longest log, is a log of that mission
abbrev pub PrintedIsRead : Type 0
PrintedIsRead = (m : Mission) → IsMission m → length (log_text m) ≤ most_bytes → log_of (log_text m) ≡ Ok m

-- the canonical text of a log's mission
abbrev pub IsTextOf : List ℕ → Result Mission (ℕ × Cause) → Type 0
IsTextOf text (Ok m) = text ≡ log_text m
IsTextOf text (Err refusal) = ⊥
