use Rattle.std.proofs.Common.{ℕ, ◌<◌, ◌≤◌, length}
use Rattle.tplane_paver.specs.Runs.{run_at}
use Rattle.tplane_paver.specs.Forests.{IsClearOf, IsSwept}
use Rattle.tplane_paver.proofs.sweep.linked.Given as goal

-- the runs before j are joined, and those below low are clear of all from j on
abbrev pub invariant-loop-j : goal.invariant-loop-j
invariant-loop-j l = record {
  swept : IsSwept l.runs l.parents.items l.j;
  low : l.low ≤ l.j;
  clear : (k : ℕ) → k < l.low → l.j < length l.runs → IsClearOf (run_at l.runs k) (run_at l.runs l.j);
}
