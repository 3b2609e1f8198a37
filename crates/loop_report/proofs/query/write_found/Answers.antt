use Rattle.tube_io.proofs.Sent.{sends_stops, sends_then}
use Rattle.tube_report.proofs.Written.{sends_error}
use Rattle.loop_report.proofs.query.write_found.Goals as goal

pub returns-in_err-write_sets : goal.returns-in_err-write_sets
returns-in_err-write_sets g c =
    sends_error _ _ _ _ _ _ _ _ c.from_residual-in_err-write_sets.ensures.0
    (sends_then _ _ _ _ _ _ _ _ _ c.in_ok-write_sets_line.ensures (sends_stops _ _ _ _ _ _ _ _ c.in_err-write_sets.ensures))

pub returns : goal.returns
returns g c = sends_then _ _ _ _ _ _ _ _ _ c.in_ok-write_sets_line.ensures (sends_then _ _ _ _ _ _ _ _ _ c.in_ok-write_sets.ensures c.write_done_line.ensures)
