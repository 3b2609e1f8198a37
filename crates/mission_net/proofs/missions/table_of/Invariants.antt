use Rattle.std.proofs.Common.{take}
use Rattle.mission_net.specs.Tables.{IsTableOf}
use Rattle.mission_net.proofs.missions.table_of.Given as goal

abbrev pub invariant-loop-i : goal.invariant-loop-i
invariant-loop-i l = IsTableOf l.table (take l.i l.mission.items)
