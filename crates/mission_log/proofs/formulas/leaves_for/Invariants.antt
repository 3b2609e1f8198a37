use Rattle.std.proofs.Common.{◌≡◌, drop, length, map}
use Rattle.mission_log.specs.Found.{appended, each, leaf_in}
use Rattle.mission_log.specs.Meant.{meant}
use Rattle.mission_log.proofs.formulas.leaves_for.Given as goal

abbrev pub invariant-loop-m : goal.invariant-loop-m
invariant-loop-m l = record {
  value : each leaf_in (map meant l.found) ≡ appended l.ls.items (each leaf_in (map meant (drop l.m-index l.found)));
  len : length l.ls.items ≡ l.m-index;
}
