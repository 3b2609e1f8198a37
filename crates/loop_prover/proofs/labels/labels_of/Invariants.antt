use Rattle.std.proofs.Common.{◌≡◌, Some, take, map, All, IfSome}
use Rattle.tube_spec.specs.Tick.{at_tick}
use Rattle.loop_degree.specs.Boundary.{corner_of}
use Rattle.loop_prover.specs.First.{label_of}
use Rattle.loop_prover.proofs.labels.labels_of.Given as goal

-- the corners so far, each with its label
abbrev pub invariant-loop-corner : goal.invariant-loop-corner
invariant-loop-corner l = record {
  corners : map corner_of l.labels.items ≡ take l.corner-index l.corner-items;
  own : IfSome l.store.box (λ xs. All (λ k. label_of (at_tick l.store.shape xs) l.q l.fn.d1 l.fn.d2 (corner_of k) ≡ Some k.2) l.labels.items);
}
