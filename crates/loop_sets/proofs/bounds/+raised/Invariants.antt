use Rattle.std.proofs.Common.{◌-◌}
use Rattle.loop_sets.proofs.bounds.+raised.Given as goal

abbrev pub decreases-raised : goal.decreases-raised
decreases-raised l = l.last - l.first
