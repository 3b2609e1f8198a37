use Rattle.std.proofs.Common.{Ok, flat_map, take}
use Rattle.text_pieces.proofs.write_pieces.Given as goal
use Rattle.text_pieces.specs.Pieces.{piece_text}
use Rattle.tube_io.specs.Sends.{Sends}
use Rattle.tube_io.specs.declared.whole.WriteFault.{WriteFault}

-- the pieces so far were written
abbrev pub invariant-loop-piece : goal.invariant-loop-piece
invariant-loop-piece g l = Sends {T = Unit {0}} {E = WriteFault} g.K.Sink.written g.K.Sink.flushed g.K.Sink.faults (flat_map piece_text (take l.piece-index l.pieces)) l.fn.sink l.sink (Ok tt)
