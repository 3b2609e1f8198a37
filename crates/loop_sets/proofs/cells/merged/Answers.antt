use Rattle.std.proofs.Common.{arith}
use Rattle.loop_sets.proofs.Merging.{first-more, first-all, later-more}
use Rattle.loop_sets.proofs.cells.merged.Goals as goal

pub loop-run-preserved : goal.loop-run-preserved
loop-run-preserved c = record {
  order = c.in_ok-append.ensures.order;
  few = omega (arith, c.in_ok-append.ensures.few);
  later = later-more c.args.over.now c.append.new.runs.items c.loop-run.run-index c.requires.order c.in_ok-append.ensures.later;
  pairs = first-more c.args.over.now c.loop-run.runs.items c.append.new.runs.items c.loop-run.run-index c.loop-run.invariant.pairs c.in_ok-append.ensures.pairs;
}

pub returns-clause-pairs : goal.returns-clause-pairs
returns-clause-pairs c = first-all c.args.over.now c.loop-run.runs.items c.loop-run.run-index (omega arith) c.loop-run.invariant.pairs
