use Rattle.text_pieces.proofs.write_pieces.Goals as goal
use Rattle.text_pieces.specs.Pieces.{piece_text}
use Rattle.tube_io.proofs.Sent.{sends_fail}

pub returns-in-Err : goal.returns-in-Err
returns-in-Err g c = sends_fail _ _ _ piece_text c.args.pieces.now c.loop-piece.piece-index _ _ _ _ _ c.loop-piece-test.true c.loop-piece.invariant c.in-Err.ensures
