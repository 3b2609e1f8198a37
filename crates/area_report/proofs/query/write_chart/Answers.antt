use Rattle.tube_io.proofs.Sent.{sends_then}
use Rattle.area_report.proofs.query.write_chart.Goals as goal

pub returns : goal.returns
returns g c = sends_then _ _ _ _ _ _ _ _ _ c.in_ok-write_chart_line.ensures c.write_rows.ensures
