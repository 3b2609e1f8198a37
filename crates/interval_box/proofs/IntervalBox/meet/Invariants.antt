use Rattle.tube_spec.specs.Span.{meet_of}
use Rattle.interval_box.proofs.Each.{IsEachBelow, SharesBelow}
use Rattle.interval_box.proofs.IntervalBox.meet.Given as goal

abbrev pub invariant-loop-i : goal.invariant-loop-i
invariant-loop-i g l = IsEachBelow meet_of l.self l.other l.parts l.i × SharesBelow l.self l.other l.i
