use Rattle.std.proofs.Common.{◌≡◌, ◌++◌}
use Rattle.demo_spec.specs.Mission.{bounds_of, each_until}
use Rattle.demo_mission.proofs.log.push_bounds.Given as goal

abbrev pub invariant-loop-stretch : goal.invariant-loop-stretch
invariant-loop-stretch l = l.items.items ≡ l.fn.items.items ++ each_until (bounds_of l.course) l.stretch
