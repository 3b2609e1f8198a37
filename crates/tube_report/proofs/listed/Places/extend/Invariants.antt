use Rattle.std.proofs.Common.{◌≡◌, take}
use Rattle.tube_report.specs.Places.{listed}
use Rattle.tube_report.proofs.listed.Places.extend.Given as goal

-- the records so far were taken
abbrev pub invariant-loop-i : goal.invariant-loop-i
invariant-loop-i l = l.self ≡ listed (take l.i l.mission.items)
