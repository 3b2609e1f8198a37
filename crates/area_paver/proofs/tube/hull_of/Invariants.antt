use Rattle.std.proofs.Common.{◌≡◌, ◌*◌}
use Rattle.std.specs.Option.{IfSome}
use Rattle.tube_spec.specs.Span.{IsBounded}
use Rattle.tube_spec.specs.Tick.{join_over}
use Rattle.area_paver.specs.Lattice.{signal_cell}
use Rattle.area_paver.proofs.tube.hull_of.Given as goal

-- gate 0, and an envelope and a gate for each slice so far
abbrev pub invariant-loop-i : goal.invariant-loop-i
invariant-loop-i l = record {
  range : IfSome l.store.box (λ xs. l.hull ≡ join_over (signal_cell l.store.shape xs l.signal.0) 0 (2 * l.i));
  bounded : IsBounded 500000000 l.hull;
}
