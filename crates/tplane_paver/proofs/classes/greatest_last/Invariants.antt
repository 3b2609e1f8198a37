use Rattle.tplane_paver.proofs.Spans.{IsGreatestLast}
use Rattle.tplane_paver.proofs.classes.greatest_last.Given as goal

abbrev pub invariant-loop-run : goal.invariant-loop-run
invariant-loop-run l = IsGreatestLast l.runs l.run-index l.greatest
