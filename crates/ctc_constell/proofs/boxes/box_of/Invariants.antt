use Rattle.std.proofs.Common.{◌≡◌, IfSome, length}
use Rattle.tube_names.specs.Points.{numbers, cells_of}
use Rattle.ctc_constell.proofs.Meeting.{IsReadBelow}
use Rattle.ctc_constell.proofs.boxes.box_of.Given as goal

-- the coordinates so far
abbrev pub invariant-loop-i : goal.invariant-loop-i
invariant-loop-i g l = record {
  size : length l.parts ≡ length l.point;
  read : IfSome l.store.box (λ xs. IsReadBelow xs (cells_of l.store.shape (numbers l.point)) l.parts l.i);
}
