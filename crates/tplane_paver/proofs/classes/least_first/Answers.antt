use Rattle.tplane_paver.proofs.Spans.{least-more}
use Rattle.tplane_paver.proofs.classes.least_first.Goals as goal

pub loop-run-preserved : goal.loop-run-preserved
loop-run-preserved c = least-more c.args.runs.now c.loop-run.run-index c.loop-run.least c.min-least.result c.loop-run-test.true c.loop-run.invariant c.min-least.ensures
