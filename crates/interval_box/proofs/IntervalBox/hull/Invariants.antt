use Rattle.tube_spec.specs.Span.{join_of}
use Rattle.interval_box.proofs.Each.{IsEachBelow}
use Rattle.interval_box.proofs.IntervalBox.hull.Given as goal

abbrev pub invariant-loop-i : goal.invariant-loop-i
invariant-loop-i g l = IsEachBelow join_of l.self l.other l.parts l.i
