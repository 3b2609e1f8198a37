use Rattle.std.proofs.Common.{◌≡◌, All, drop, length, map}
use Rattle.log_fields.specs.Said.{said}
use Rattle.mission_log.specs.Found.{appended, declared_part, each}
use Rattle.mission_log.specs.Meant.{IsMeant, meant}
use Rattle.mission_log.proofs.points.declarations.Given as goal

abbrev pub invariant-loop-reference : goal.invariant-loop-reference
invariant-loop-reference l = record {
  value : each (declared_part l.draft.items) (map said l.references) ≡ appended (map meant l.found.items) (each (declared_part l.draft.items) (map said (drop l.reference-index l.references)));
  known : All (IsMeant l.draft.items) l.found.items;
  len : length l.found.items ≡ l.reference-index;
}
