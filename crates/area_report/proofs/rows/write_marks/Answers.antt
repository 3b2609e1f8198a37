use Rattle.std.proofs.Common.{arith, rules}
use Rattle.std.proofs.lemmas.List.{length-take, take_all}
use Rattle.tube_report.proofs.Written.{sends_error}
use Rattle.area_report.proofs.RowPieces.{length-row_bytes, row_bytes, sends_no_piece, sends_piece}
use Rattle.area_report.proofs.rows.write_marks.Goals as goal

pub returns-in_err-write_part : goal.returns-in_err-write_part
returns-in_err-write_part g c =
    sends_error _ _ _ _ _ _ _ _ c.from_residual.ensures.0
    (sends_no_piece _ _ _ (row_bytes c.args.chart.now c.args.row) c.loop-first.first _ _ _ _ _ c.loop-first.invariant.written c.in_err-write_part.ensures)

pub loop-first-preserved : goal.loop-first-preserved
loop-first-preserved g c = record {
  written = sends_piece _ _ _ (row_bytes c.args.chart.now c.args.row) c.loop-first.first _ c.min-count.result _ _ _ (search (rules, length-take)) c.loop-first.invariant.written c.in_ok-write_part.ensures;
  within = omega (arith, c.min-count.ensures, c.loop-first-test.true);
}

pub returns : goal.returns
returns g c =
    let text = row_bytes c.args.chart.now c.args.row in
    let whole = take_all c.loop-first.first text (omega (arith, c.loop-first-test.false, c.columns-columns.ensures, length-row_bytes c.args.chart.now c.args.row)) in
    rw whole at c.loop-first.invariant.written
