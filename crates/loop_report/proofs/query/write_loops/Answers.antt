use Rattle.tube_io.proofs.Sent.{sends_then}
use Rattle.loop_report.proofs.query.write_loops.Goals as goal

pub returns-in_default : goal.returns-in_default
returns-in_default g c = rw c.in_default.is (sends_then _ _ _ _ _ _ _ _ _ c.in_ok-write_crowded_line.ensures c.write_done_line.ensures)
