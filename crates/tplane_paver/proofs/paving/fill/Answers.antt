use Rattle.std.proofs.Common.{◌+◌}
use Rattle.tplane_paver.specs.Paving.{rows_of}
use Rattle.tplane_paver.proofs.Filling.{fill-step, fill-crowded, work-after}
use Rattle.tplane_paver.proofs.paving.fill.Goals as goal

pub returns-then-work-gt-MOST_RUNS-clause-crowded : goal.returns-then-work-gt-MOST_RUNS-clause-crowded
returns-then-work-gt-MOST_RUNS-clause-crowded c =
    let adv = fill-step c.args.tree.now (rows_of c.args.work.now.rows.items) (rows_of c.loop-i.work.rows.items) (rows_of c.put.new.work.rows.items) c.args.a c.args.a_last c.loop-i.i c.args.b c.args.b_last
    c.requires.b c.loop-i.auto.i c.loop-i-test.true c.requires.a_end c.requires.possible c.requires.stand c.loop-i.invariant.0 c.in_ok-put.ensures.put in
    fill-crowded c.args.tree.now (rows_of c.loop-i.work.rows.items) (rows_of c.put.new.work.rows.items) c.loop-i.i (c.loop-i.i + 1) (c.args.b_last + 1) c.loop-i.work.count c.put.new.work.count c.loop-i.invariant.1 adv.0 c.in_ok-put.ensures.counted c.if-work-gt-MOST_RUNS.true

pub loop-i-preserved : goal.loop-i-preserved
loop-i-preserved c =
    let adv = fill-step c.args.tree.now (rows_of c.args.work.now.rows.items) (rows_of c.loop-i.work.rows.items) (rows_of c.put.new.work.rows.items) c.args.a c.args.a_last c.loop-i.i c.args.b c.args.b_last
    c.requires.b c.loop-i.auto.i c.loop-i-test.true c.requires.a_end c.requires.possible c.requires.stand c.loop-i.invariant.0 c.in_ok-put.ensures.put in
    (adv.1, work-after c.args.tree.now (rows_of c.loop-i.work.rows.items) (rows_of c.put.new.work.rows.items) c.loop-i.i (c.loop-i.i + 1) (c.args.b_last + 1) c.loop-i.work.count c.put.new.work.count c.loop-i.invariant.1 adv.0 c.in_ok-put.ensures.counted c.if-work-gt-MOST_RUNS.false)
