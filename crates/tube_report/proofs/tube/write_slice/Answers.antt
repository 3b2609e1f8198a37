use Rattle.tube_io.proofs.Sent.{sends_then}
use Rattle.tube_report.proofs.tube.write_slice.Goals as goal

pub returns : goal.returns
returns g c = sends_then _ _ _ _ _ _ _ _ _ c.in_ok-write_envelope.ensures c.write_gate.ensures
