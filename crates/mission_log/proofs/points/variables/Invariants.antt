use Rattle.std.proofs.Common.{◌≡◌, All, drop, length, map}
use Rattle.mission_items.specs.Names.{IsNamed}
use Rattle.mission_log.specs.Found.{appended, each, variable_part}
use Rattle.mission_log.specs.Meant.{meant}
use Rattle.mission_log.proofs.points.variables.Given as goal

abbrev pub invariant-loop-m : goal.invariant-loop-m
invariant-loop-m l = record {
  value : each variable_part (map meant l.found) ≡ appended l.vs.items (each variable_part (map meant (drop l.m-index l.found)));
  named : All (IsNamed l.draft.items) l.vs.items;
  len : length l.vs.items ≡ l.m-index;
}
