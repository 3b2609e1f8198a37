use Rattle.std.proofs.Common.{◌-◌}
use Rattle.loop_sets.proofs.sure.+first_sure.Given as goal

abbrev pub decreases-first_sure : goal.decreases-first_sure
decreases-first_sure l = l.last - l.first
