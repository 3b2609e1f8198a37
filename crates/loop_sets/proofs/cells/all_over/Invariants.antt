use Rattle.std.proofs.Common.{ℕ, ◌*◌, ◌≤◌, length, ◌↔◌}
use Rattle.tplane_paver.specs.Runs.{InRuns}
use Rattle.loop_sets.specs.CellRuns.{HavePairs, IsOverBelow}
use Rattle.loop_sets.proofs.cells.all_over.Given as goal

-- the cells over the runs so far
abbrev pub invariant-loop-run : goal.invariant-loop-run
invariant-loop-run l = record {
  some : HavePairs l.over.items;
  few : length l.over.items ≤ 2 * l.run-index;
  cells : (a b : ℕ) → InRuns l.over.items a b ↔ IsOverBelow l.set l.run-index l.gap l.ticks a b;
}
