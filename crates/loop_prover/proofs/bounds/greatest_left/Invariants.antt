use Rattle.std.proofs.Common.{◌≡◌, take, map, IfSome}
use Rattle.tube_spec.specs.Span.{IsBounded}
use Rattle.tube_spec.specs.Hull.{proper}
use Rattle.tube_spec.specs.Tick.{at_tick}
use Rattle.loop_prover.specs.Steps.{left_of}
use Rattle.loop_prover.proofs.bounds.greatest_left.Given as goal

-- the change met with the rates so far
abbrev pub invariant-loop-rate : goal.invariant-loop-rate
invariant-loop-rate l = record {
  value : IfSome l.store.box (λ xs. l.step ≡ proper (left_of (at_tick l.store.shape xs) l.fn.change (map (λ r. r.0) (take l.rate-index l.rates)) l.tick));
  bounded : IfSome l.step (IsBounded 1000000000);
}
