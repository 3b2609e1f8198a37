use Rattle.tube_report.proofs.Written.{sends_error}
use Rattle.area_report.proofs.RowPieces.{sends_no_front, sends_no_marks, sends_row}
use Rattle.area_report.proofs.rows.write_row.Goals as goal

pub returns-in_err-write_row_front : goal.returns-in_err-write_row_front
returns-in_err-write_row_front g c =
    sends_error _ _ _ _ _ _ _ _ c.from_residual.ensures.0
    (sends_no_front _ _ _ c.args.chart.now c.args.row _ _ _ c.in_err-write_row_front.ensures)

pub returns-in_err-write_marks : goal.returns-in_err-write_marks
returns-in_err-write_marks g c =
    sends_error _ _ _ _ _ _ _ _ c.from_residual-in_err-write_marks.ensures.0
    (sends_no_marks _ _ _ c.args.chart.now c.args.row _ _ _ _ c.in_ok-write_row_front.ensures c.in_err-write_marks.ensures)

pub returns : goal.returns
returns g c = sends_row _ _ _ c.args.chart.now c.args.row _ _ _ _ _ c.in_ok-write_row_front.ensures c.in_ok-write_marks.ensures c.write_all.ensures
