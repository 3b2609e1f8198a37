use Rattle.std.proofs.Common.{ℕ, ◌<◌}
use Rattle.tplane_paver.specs.Runs.{run_at}
use Rattle.loop_sets.specs.Sets.{plane_over, HaveNoSure}
use Rattle.loop_sets.proofs.sure.least_sure.Given as goal

-- no run before has a sure pair
abbrev pub invariant-loop-run : goal.invariant-loop-run
invariant-loop-run l = (i : ℕ) → i < l.run-index → HaveNoSure (plane_over l.x l.y l.q) (run_at l.set i).a (run_at l.set i).first (run_at l.set i).last
