use Rattle.std.proofs.Common.{ℕ, ◌<◌, ◌≤◌, ◌↔◌, length}
use Rattle.tplane_paver.specs.Runs.{InRuns, AreInOrder, run_at}
use Rattle.loop_sets.specs.CellRuns.{AllBeginUpTo}
use Rattle.loop_sets.proofs.Merging.{InFirst}
use Rattle.loop_sets.proofs.cells.merged.Given as goal

-- the runs so far are merged
abbrev pub invariant-loop-run : goal.invariant-loop-run
invariant-loop-run l = record {
  order : AreInOrder l.runs.items;
  few : length l.runs.items ≤ l.run-index;
  later : (j : ℕ) → l.run-index ≤ j → j < length l.over → AllBeginUpTo l.runs.items (run_at l.over j);
  pairs : (a b : ℕ) → InRuns l.runs.items a b ↔ InFirst l.over l.run-index a b;
}
