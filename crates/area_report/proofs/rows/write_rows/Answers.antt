use Rattle.std.proofs.Common.{arith}
use Rattle.std.specs.List.{range_with_len}
use Rattle.std.proofs.lemmas.List.{take_all}
use Rattle.std.proofs.lemmas.List.FromFn.{length-range_with_len}
use Rattle.tube_report.proofs.Written.{sends_error, sends_index, sends_no_index}
use Rattle.area_report.specs.Areas.{row_line}
use Rattle.area_report.specs.Marks.{marked_rows}
use Rattle.area_report.proofs.rows.write_rows.Goals as goal

pub returns-in_err-write_row : goal.returns-in_err-write_row
returns-in_err-write_row g c =
    rw c.if-brief.false
    (sends_error _ _ _ _ _ _ _ _ c.from_residual.ensures.0
    (sends_no_index _ _ _ (row_line c.args.chart.now) (marked_rows c.args.chart.now) c.loop-row.row _ _ _ _ (omega (arith, c.loop-row-test.true, c.marked_rows-row-end.ensures)) c.loop-row.invariant c.in_err-write_row.ensures))

pub loop-row-preserved : goal.loop-row-preserved
loop-row-preserved g c =
    sends_index _ _ _ (row_line c.args.chart.now) (marked_rows c.args.chart.now) c.loop-row.row _ _ _ (omega (arith, c.loop-row-test.true, c.marked_rows-row-end.ensures)) c.loop-row.invariant c.in_ok-write_row.ensures

pub returns : goal.returns
returns g c =
    let rows = range_with_len 0 (marked_rows c.args.chart.now) in
    let whole = take_all c.loop-row.row rows (omega (arith, c.loop-row-test.false, c.marked_rows-row-end.ensures, length-range_with_len 0 (marked_rows c.args.chart.now))) in
    rw (c.if-brief.false) (rw whole at c.loop-row.invariant)
