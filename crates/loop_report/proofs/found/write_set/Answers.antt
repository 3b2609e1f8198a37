use Rattle.tube_io.proofs.Sent.{sends_stops, sends_then}
use Rattle.tube_report.proofs.Written.{sends_error}
use Rattle.loop_report.proofs.found.write_set.Goals as goal

pub returns-in_err-write_finding : goal.returns-in_err-write_finding
returns-in_err-write_finding g c =
    sends_error _ _ _ _ _ _ _ _ c.from_residual-in_err-write_finding.ensures.0
    (sends_then _ _ _ _ _ _ _ _ _ c.in_ok-write_set_front.ensures (sends_stops _ _ _ _ _ _ _ _ c.in_err-write_finding.ensures))

pub returns : goal.returns
returns g c =
    rw c.if-brief.false
    (sends_then _ _ _ _ _ _ _ _ _ c.in_ok-write_set_front.ensures (sends_then _ _ _ _ _ _ _ _ _ c.in_ok-write_finding.ensures (rw c.runs.ensures.all at c.write_runs.ensures)))
