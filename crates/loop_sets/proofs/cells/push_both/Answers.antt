use Rattle.std.proofs.Common.{arith}
use Rattle.std.proofs.lemmas.Result.{on_ok_weaker}
use Rattle.loop_sets.proofs.Over.{over-first, over-both}
use Rattle.loop_sets.proofs.cells.push_both.Goals as goal

pub returns-then-run-eq0-clause-pairs : goal.returns-then-run-eq0-clause-pairs
returns-then-run-eq0-clause-pairs c =
    on_ok_weaker c.push_over.result (over-first c.args.over.now.items c.push_over.new.over.items c.args.run c.args.gap c.args.ticks c.if-run-eq0.true) c.push_over.ensures.pairs

pub returns-clause-pairs : goal.returns-clause-pairs
returns-clause-pairs c =
    on_ok_weaker c.push_over-3.result
    (over-both c.args.over.now.items c.push_over-2.new.over.items c.push_over-3.new.over.items c.args.run c.args.gap c.args.ticks (omega arith) c.in_ok-push_over.ensures.pairs)
    c.push_over-3.ensures.pairs
