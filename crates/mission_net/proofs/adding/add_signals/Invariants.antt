use Rattle.std.proofs.Common.{[], map, take}
use Rattle.tube_spec.specs.Owner.{SignalIn}
use Rattle.mission_net.specs.Building.{IsAdded}
use Rattle.mission_net.proofs.adding.add_signals.Given as goal

abbrev pub invariant-loop-range : goal.invariant-loop-range
invariant-loop-range l = IsAdded (map SignalIn (take l.range-index l.ranges)) [] l.fn.net l.net
