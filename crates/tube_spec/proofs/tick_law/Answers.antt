use Rattle.tube_spec.proofs.Ticks.{at_tick-holds}
use Rattle.tube_spec.proofs.tick_law.Goals as goal

pub returns : goal.returns
returns c s a hull xs grid is below signal k named low = at_tick-holds s a hull xs grid is below signal k named low
