use Rattle.loop_report.proofs.Ends.{ends_a, ends_b}
use Rattle.loop_report.proofs.found.write_set_front.Goals as goal

pub returns : goal.returns
returns g c =
    let e = ends_a c.args.set.now _ _ c.runs-runs.ensures.order c.runs-runs.ensures.some c.span_a.ensures in
    let f = ends_b c.args.set.now _ _ c.runs-runs.ensures.order c.runs-runs.ensures.some c.span_b.ensures in
    rw (e.0, e.1, f.0, f.1, c.pairs.ensures) at c.write_front.ensures
