use Rattle.std.proofs.Common.{◌≡◌, take, map, IfSome, pos, ◌≤ℤ◌}
use Rattle.tube_spec.specs.Tick.{at_tick}
use Rattle.loop_degree.specs.Steps.{step_bound_of}
use Rattle.loop_prover.proofs.bounds.step_bound.Given as goal

-- the step bound over the cells so far
abbrev pub invariant-loop-cell : goal.invariant-loop-cell
invariant-loop-cell l = record {
  value : IfSome l.store.box (λ xs. l.top ≡ step_bound_of (at_tick l.store.shape xs) l.x.0 (map (λ r. r.0) l.rates) (take l.cell-index l.cells));
  least : pos 1 ≤ℤ l.top;
  most : l.top ≤ℤ pos 2000000000;
}
