use Rattle.tplane_paver.proofs.Spans.{greatest-more}
use Rattle.tplane_paver.proofs.classes.greatest_last.Goals as goal

pub loop-run-preserved : goal.loop-run-preserved
loop-run-preserved c = greatest-more c.args.runs.now c.loop-run.run-index c.loop-run.greatest c.max-greatest.result c.loop-run-test.true c.loop-run.invariant c.max-greatest.ensures
