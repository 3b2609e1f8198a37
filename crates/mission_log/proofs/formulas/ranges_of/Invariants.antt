use Rattle.std.proofs.Common.{◌≡◌, map, take}
use Rattle.mission_log.specs.Meant.{range_meant}
use Rattle.mission_log.proofs.formulas.ranges_of.Given as goal

abbrev pub invariant-loop-m : goal.invariant-loop-m
invariant-loop-m l = l.ranges.items ≡ map range_meant (take l.m-index l.found)
