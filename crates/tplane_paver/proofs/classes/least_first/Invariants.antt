use Rattle.tplane_paver.proofs.Spans.{IsLeastFirst}
use Rattle.tplane_paver.proofs.classes.least_first.Given as goal

abbrev pub invariant-loop-run : goal.invariant-loop-run
invariant-loop-run l = IsLeastFirst l.runs l.run-index l.least
