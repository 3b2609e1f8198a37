use Rattle.demo_spec.specs.Mission.{demo_cuts}
use Rattle.demo_mission.proofs.grid.Goals as goal

pub returns-in-Ok : goal.returns-in-Ok
unfolding demo_cuts
returns-in-Ok c = c.in-Ok.ensures.value
