use Rattle.std.proofs.Common.{◌≡◌, length}
use Rattle.area_paver.specs.Lattice.{coordinate}
use Rattle.area_paver.specs.Survey.{must_see}
use Rattle.area_paver.specs.Runs.{Covers}
use Rattle.area_paver.proofs.line.sure_runs.Given as goal

-- the runs of the ticks so far
abbrev pub invariant-loop-k : goal.invariant-loop-k
invariant-loop-k l = record {
  len : length l.ends.items ≡ l.axis.count;
  runs : Covers l.ends.items l.axis.count l.k (λ k c. must_see (record { xs = l.xs; ys = l.ys; radius = l.sensor.radius; norm = l.sensor.norm }) k (coordinate l.axis c) l.q);
}
