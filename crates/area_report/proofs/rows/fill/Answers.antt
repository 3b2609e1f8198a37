use Rattle.std.proofs.Common.{length, arith}
use Rattle.area_report.proofs.RowPieces.{piece_is}
use Rattle.area_report.proofs.rows.fill.Goals as goal

pub returns : goal.returns
returns c =
    piece_is c.args.chart.now c.args.row c.args.first (length c.args.piece.now) c.requires.columns c.loop-i.piece c.loop-i.auto.piece
    (λ k below. c.loop-i.invariant k (omega (arith, below, c.loop-i-test.false, c.loop-i.auto.piece)))
