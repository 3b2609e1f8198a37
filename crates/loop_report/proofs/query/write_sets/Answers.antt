use Rattle.std.proofs.Common.{arith}
use Rattle.tube_report.proofs.Written.{sends_error}
use Rattle.loop_report.proofs.Sets.{sends_no_set, sends_set}
use Rattle.loop_report.proofs.query.write_sets.Goals as goal

pub returns-in_err-write_set : goal.returns-in_err-write_set
returns-in_err-write_set g c =
    let i = c.loop-found.invariant in
    sends_error _ _ _ _ _ _ _ _ c.from_residual.ensures.0
    (sends_no_set c.args.brief c.args.sets.now c.loop-found.found-index c.loop-found.number c.found-item.result c.loop-found-test.true c.found-item.is i.count _ _ _ _ _ _ _ i.written c.in_err-write_set.ensures)

pub loop-found-preserved : goal.loop-found-preserved
loop-found-preserved g c =
    let i = c.loop-found.invariant in
    record {
      written = sends_set c.args.brief c.args.sets.now c.loop-found.found-index c.loop-found.number c.found-item.result c.loop-found-test.true c.found-item.is i.count _ _ _ _ _ _ i.written c.in_ok-write_set.ensures;
      count = omega arith;
    }
