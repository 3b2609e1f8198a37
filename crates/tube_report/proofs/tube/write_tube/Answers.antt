use Rattle.tube_io.proofs.Sent.{sends_stops, sends_then}
use Rattle.tube_report.specs.Sections.{tube_text}
use Rattle.tube_report.proofs.Written.{sends_error}
use Rattle.tube_report.proofs.tube.write_tube.Goals as goal

pub returns-in_err-write_gate : goal.returns-in_err-write_gate
unfolding tube_text
returns-in_err-write_gate g c =
    sends_error _ _ _ _ _ _ _ _ c.from_residual-in_err-write_gate.ensures.0
    (sends_then _ _ _ _ _ _ _ _ _ c.in_ok-write_signal_line.ensures (sends_stops _ _ _ _ _ _ _ _ c.in_err-write_gate.ensures))

pub returns : goal.returns
unfolding tube_text
returns g c = sends_then _ _ _ _ _ _ _ _ _ c.in_ok-write_signal_line.ensures (sends_then _ _ _ _ _ _ _ _ _ c.in_ok-write_gate.ensures c.write_slices.ensures)
