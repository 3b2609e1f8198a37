use Rattle.std.proofs.Common.{◌≡◌, ◌*◌, IfSome, pos}
use Rattle.tube_spec.specs.Span.{IsWithin}
use Rattle.tube_names.specs.Points.{numbers, cells_of}
use Rattle.ctc_dist.specs.Distances.{span_sum_below, square_but}
use Rattle.ctc_dist.proofs.dist.DistCtc.other_squares.Given as goal

-- the sum over the coordinates so far
abbrev pub invariant-loop-j : goal.invariant-loop-j
invariant-loop-j g l = record {
  value : IfSome l.store.box (λ xs. l.sum ≡ span_sum_below (square_but (cells_of l.store.shape (numbers l.self.p)) (cells_of l.store.shape (numbers l.self.b)) xs l.i) l.j);
  bounded : IsWithin l.sum (record { lo = pos 0; hi = pos (l.j * 1000000000000000000) });
}
