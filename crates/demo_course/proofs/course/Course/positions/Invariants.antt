use Rattle.std.proofs.Common.{◌≡◌}
use Rattle.demo_course.specs.Course.{position_at, values_until}
use Rattle.demo_course.proofs.course.Course.positions.Given as goal

abbrev pub invariant-loop-tick : goal.invariant-loop-tick
invariant-loop-tick l = record {
  made : l.all.items ≡ values_until (position_at l.self l.axis) l.tick;
  here : l.position ≡ position_at l.self l.axis l.tick;
}
