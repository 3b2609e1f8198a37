use Rattle.std.proofs.Common.{◌≡◌, ◌++◌, ◌∷◌, []}
use Rattle.demo_spec.specs.Mission.{each_until, ping_of}
use Rattle.demo_mission.proofs.log.push_pings.Given as goal

abbrev pub invariant-loop-number : goal.invariant-loop-number
invariant-loop-number l = l.items.items ≡ l.fn.items.items ++ each_until (λ i. ping_of l.course i ∷ []) l.number
