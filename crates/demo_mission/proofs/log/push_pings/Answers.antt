use Rattle.std.proofs.Common.{[], ◌∷◌, refl}
use Rattle.demo_spec.specs.Mission.{ping_of}
use Rattle.demo_mission.proofs.Pieces.{piece-more, piece-none, single}
use Rattle.demo_mission.proofs.log.push_pings.Goals as goal

pub loop-number-init : goal.loop-number-init
loop-number-init c = piece-none _ _ _ refl

pub loop-number-preserved : goal.loop-number-preserved
loop-number-preserved c = piece-more (λ i. ping_of c.args.course.now i ∷ []) _ _ _ _ c.loop-number.invariant (single _ _ _ _ c.in_ok-push.ensures.items c.ping.ensures)
