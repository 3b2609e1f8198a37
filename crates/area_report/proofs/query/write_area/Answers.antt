use Rattle.tube_io.proofs.Sent.{sends_then}
use Rattle.area_report.proofs.query.write_area.Goals as goal

pub returns : goal.returns
returns g c = sends_then _ _ _ _ _ _ _ _ _ c.in_ok-write_coverage.ensures c.write_done_line.ensures
