-- What is true of every log that is accepted.
use Rattle.std.specs.Prelude.{◌≡◌, ℕ, List, Ok}
use Rattle.mission_items.specs.Valid.{IsMission}
use Rattle.mission_items.specs.declared.mission.Mission.{Mission}
use Rattle.mission_log.specs.Log.{log_of}

-- what an accepted log says is a mission that keeps all that an accepted mission promises
abbrev pub AcceptedIsMission : Type 0
AcceptedIsMission = (log : List ℕ) (m : Mission) → log_of log ≡ Ok m → IsMission m
