use Rattle.loop_sets.proofs.Pairs.{pairs-push}
use Rattle.loop_sets.proofs.Over.{cells-all}
use Rattle.loop_sets.proofs.cells.set_cells.Goals as goal

pub loop-run-preserved : goal.loop-run-preserved
loop-run-preserved c = pairs-push c.deref-run-items.result.now c.loop-run.cells.items c.push_cells.new.cells.items c.loop-run.run-index c.loop-run-test.true c.loop-run.invariant c.in_ok-push_cells.ensures

pub returns : goal.returns
returns c =
    cells-all c.args.set.now c.runs.result.now c.in_ok-runs.runs.items c.deref-run-items.result.now c.loop-run.cells.items c.loop-run.run-index c.args.gap c.args.ticks
    c.runs.ensures.order c.runs.ensures.all c.in_ok-runs.ensures.order c.in_ok-runs.ensures.cells c.deref-run-items.ensures.value c.loop-run-test.false c.loop-run.invariant
