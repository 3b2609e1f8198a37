use Rattle.std.proofs.Common.{◌≡◌, drop}
use Rattle.mission_items.specs.Names.{are_distinct}
use Rattle.mission_log.proofs.points.are_distinct.Given as goal

abbrev pub invariant-loop-i : goal.invariant-loop-i
invariant-loop-i l = are_distinct (drop l.i l.vs) ≡ are_distinct l.vs
