use Rattle.std.proofs.Common.{◌≡◌, pos, ◌≤ℤ◌, take}
use Rattle.loop_degree.specs.Steps.{greatest_sum}
use Rattle.loop_sets.specs.Cells.{pairs_in}
use Rattle.loop_sets.specs.Bounds.{step_at}
use Rattle.loop_sets.proofs.bounds.bound_over.Given as goal

-- the step bound over the runs so far
abbrev pub invariant-loop-run : goal.invariant-loop-run
invariant-loop-run l = record {
  value : l.top ≡ greatest_sum (step_at l.steps) (pairs_in (take l.run-index l.cells));
  least : pos 1 ≤ℤ l.top;
  most : l.top ≤ℤ pos 2000000000;
}
