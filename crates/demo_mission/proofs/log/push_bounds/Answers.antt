use Rattle.demo_spec.specs.Mission.{bounds_of}
use Rattle.demo_mission.proofs.Pieces.{both, piece-more, piece-none}
use Rattle.std.proofs.Common.{refl}
use Rattle.demo_mission.proofs.log.push_bounds.Goals as goal

pub loop-stretch-init : goal.loop-stretch-init
loop-stretch-init c = piece-none _ _ _ refl

pub loop-stretch-preserved : goal.loop-stretch-preserved
loop-stretch-preserved c =
    piece-more (bounds_of c.args.course.now) _ _ _ _ c.loop-stretch.invariant (both _ _ _ _ _ _ _ c.in_ok-push.ensures.items c.in_ok-push-2.ensures.items c.bound.ensures c.bound-in-loop-stretch.ensures)
