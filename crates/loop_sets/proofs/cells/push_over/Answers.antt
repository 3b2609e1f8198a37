use Rattle.loop_sets.proofs.Over.{over-pushed, over-none}
use Rattle.loop_sets.proofs.cells.push_over.Goals as goal

pub returns-in_ok-push-clause-pairs : goal.returns-in_ok-push-clause-pairs
returns-in_ok-push-clause-pairs c =
    rw c.in_ok-push.ensures.items (over-pushed c.args.over.now.items c.in-Some.cells c.args.run c.args.a c.args.gap c.args.ticks c.in-Some.ensures.some.0 c.in-Some.ensures.cells)

pub returns-in_default-clause-pairs : goal.returns-in_default-clause-pairs
returns-in_default-clause-pairs c = over-none c.args.over.now.items c.args.run c.args.a c.args.gap c.args.ticks c.in_default.ensures.cells
