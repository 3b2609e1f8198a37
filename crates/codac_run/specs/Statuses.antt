-- Which status a run can end with, by its words and its log.
use Rattle.std.specs.Prelude.{◌≡◌, ℕ, ◌⊎◌, List, Option, Some, None, Result, Ok, Err}
use Rattle.mission_items.specs.declared.mission.Mission.{Mission}
use Rattle.codac_run.specs.declared.plan.Plan.{Plan}
use Rattle.codac_run.specs.declared.ended.Status.{Status}
use Rattle.codac_run.specs.declared.ended.Status.TheVariants as status
use Rattle.codac_run.specs.Reports.{log_planned}

-- the words are wrong; or the log is accepted, or refused, or not told by the source
pub data Standing : Type 0 where
  Wrong : Standing
  Accepted : Standing
  Refused : Standing
  Untold : Standing

abbrev pub standing_by : Option (Result Mission (List ℕ)) → Standing
standing_by None = Untold
standing_by (Some (Ok m)) = Accepted
standing_by (Some (Err line)) = Refused

abbrev pub standing_of : Option Plan → Option (List ℕ) → Standing
standing_of None left = Wrong
standing_of (Some plan) left = standing_by (log_planned plan left)

-- a source or a sink failed, or memory ran out
abbrev pub IsStopped : Status → Type 0
IsStopped s = (s ≡ status.ReadFault) ⊎ (s ≡ status.WriteFault) ⊎ (s ≡ status.NoMemory)

-- the statuses of a report
abbrev pub IsReported : Status → Type 0
IsReported s = (s ≡ status.Settled) ⊎ (s ≡ status.Empty) ⊎ (s ≡ status.Spent)

-- The table of statuses: which can come where.
abbrev pub CanEnd : Standing → Status → Type 0
CanEnd Wrong s = (s ≡ status.Usage) ⊎ (s ≡ status.WriteFault) ⊎ (s ≡ status.NoMemory)
CanEnd Accepted s = IsReported s ⊎ IsStopped s
CanEnd Refused s = (s ≡ status.Refused) ⊎ IsStopped s
CanEnd Untold s = IsReported s ⊎ (s ≡ status.Refused) ⊎ IsStopped s

-- an accepted log, where the budget is above what a section starts at and nothing failed
abbrev pub IsWholeOrNoMemory : Status → Type 0
IsWholeOrNoMemory s = (s ≡ status.Settled) ⊎ (s ≡ status.Empty) ⊎ (s ≡ status.NoMemory)
