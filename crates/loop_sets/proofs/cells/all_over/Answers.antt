use Rattle.std.proofs.Common.{arith}
use Rattle.loop_sets.proofs.Over.{over-more, over-all}
use Rattle.loop_sets.proofs.cells.all_over.Goals as goal

pub loop-run-preserved : goal.loop-run-preserved
loop-run-preserved c = record {
  some = c.in_ok-push_both.ensures.some;
  few = omega (arith, c.in_ok-push_both.ensures.few);
  cells = over-more c.args.set.now c.loop-run.over.items c.push_both.new.over.items c.loop-run.run-index c.args.gap c.args.ticks c.loop-run.invariant.cells c.in_ok-push_both.ensures.pairs;
}

pub returns-clause-cells : goal.returns-clause-cells
returns-clause-cells c = over-all c.args.set.now c.loop-run.over.items c.loop-run.run-index c.args.gap c.args.ticks (omega arith) c.loop-run.invariant.cells
