use Rattle.std.proofs.Common.{◌≡◌, ◌++◌, ◌∷◌, []}
use Rattle.demo_spec.specs.Mission.{beacon_of, each_until}
use Rattle.demo_mission.proofs.log.push_beacons.Given as goal

abbrev pub invariant-loop-number : goal.invariant-loop-number
invariant-loop-number l = l.items.items ≡ l.fn.items.items ++ each_until (λ i. beacon_of l.course i ∷ []) l.number
