use Rattle.std.proofs.Common.{arith}
use Rattle.tplane_paver.specs.Paving.{rows_of}
use Rattle.tplane_paver.proofs.Roots.{pave-runs}
use Rattle.tplane_paver.proofs.paving.pave.Goals as goal

pub invariant_of-result : goal.invariant_of-result
invariant_of-result g c =
    let done = pave-runs c.args.tree.now (rows_of c.in_ok-empty_rows.field-0.items) c.quarter.new.work.rows.items c.deref.result.now c.quarter.new.work.count c.root-side.result.0 c.in_ok-runs.runs.items
    (omega (arith, c.root-side.ensures.root.holds, c.root-side.ensures.side, c.tick_count-ticks.ensures.ticks)) c.in_ok-quarter.ensures.work c.in_ok-quarter.ensures.rows c.deref.ensures.value c.in_ok-runs.ensures in
    (done.0.ordered, omega (arith, done.1, done.2))

pub returns-clause-runs : goal.returns-clause-runs
returns-clause-runs g c =
    let done = pave-runs c.args.tree.now (rows_of c.in_ok-empty_rows.field-0.items) c.quarter.new.work.rows.items c.deref.result.now c.quarter.new.work.count c.root-side.result.0 c.in_ok-runs.runs.items
    (omega (arith, c.root-side.ensures.root.holds, c.root-side.ensures.side, c.tick_count-ticks.ensures.ticks)) c.in_ok-quarter.ensures.work c.in_ok-quarter.ensures.rows c.deref.ensures.value c.in_ok-runs.ensures in
    done.0

pub returns-clause-count : goal.returns-clause-count
returns-clause-count g c =
    let done = pave-runs c.args.tree.now (rows_of c.in_ok-empty_rows.field-0.items) c.quarter.new.work.rows.items c.deref.result.now c.quarter.new.work.count c.root-side.result.0 c.in_ok-runs.runs.items
    (omega (arith, c.root-side.ensures.root.holds, c.root-side.ensures.side, c.tick_count-ticks.ensures.ticks)) c.in_ok-quarter.ensures.work c.in_ok-quarter.ensures.rows c.deref.ensures.value c.in_ok-runs.ensures in
    done.1

pub returns-clause-few : goal.returns-clause-few
returns-clause-few g c =
    let done = pave-runs c.args.tree.now (rows_of c.in_ok-empty_rows.field-0.items) c.quarter.new.work.rows.items c.deref.result.now c.quarter.new.work.count c.root-side.result.0 c.in_ok-runs.runs.items
    (omega (arith, c.root-side.ensures.root.holds, c.root-side.ensures.side, c.tick_count-ticks.ensures.ticks)) c.in_ok-quarter.ensures.work c.in_ok-quarter.ensures.rows c.deref.ensures.value c.in_ok-runs.ensures in
    done.2
