use Rattle.std.proofs.Common.{ℕ, ◌<◌}
use Rattle.tplane_paver.specs.Runs.{run_at}
use Rattle.tplane_paver.specs.Forests.{IsClearOf}
use Rattle.tplane_paver.proofs.sweep.first_near.Given as goal

-- the runs so far are clear
abbrev pub invariant-loop-low : goal.invariant-loop-low
invariant-loop-low l = (k : ℕ) → k < l.low → IsClearOf (run_at l.runs k) (run_at l.runs l.j)
