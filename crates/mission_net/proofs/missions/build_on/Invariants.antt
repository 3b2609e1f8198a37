use Rattle.mission_net.proofs.Building.{IsBuiltTo}
use Rattle.mission_net.proofs.missions.build_on.Given as goal

abbrev pub invariant-loop-i : goal.invariant-loop-i
invariant-loop-i l = IsBuiltTo l.mission.cuts l.mission.items l.first l.i l.fn.net l.net l.table
