use Rattle.std.proofs.Common.{◌≡◌, map, length, IfSome}
use Rattle.std.specs.List.{range_with_len}
use Rattle.tube_spec.specs.Tick.{at_tick}
use Rattle.loop_degree.specs.Steps.{step_of, greatest_in}
use Rattle.loop_sets.specs.Bounds.{AreSteps}
use Rattle.loop_sets.proofs.bounds.all_steps.Given as goal

-- the steps of the ticks so far
abbrev pub invariant-loop-tick : goal.invariant-loop-tick
invariant-loop-tick l = record {
  len : length l.steps.items ≡ l.tick;
  made : IfSome l.store.box (λ xs. l.steps.items ≡ map (λ k. greatest_in (step_of (at_tick l.store.shape xs) l.fn.x.0 (map (λ r. r.0) l.rates) k)) (range_with_len 0 l.tick));
  small : AreSteps l.steps.items;
}
