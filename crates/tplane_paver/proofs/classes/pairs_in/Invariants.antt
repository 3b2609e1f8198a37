use Rattle.std.proofs.Common.{◌≡◌, ◌*◌, ◌^◌, ◌≤◌, take}
use Rattle.tplane_paver.specs.Runs.{pair_count}
use Rattle.tplane_paver.proofs.classes.pairs_in.Given as goal

abbrev pub invariant-loop-run : goal.invariant-loop-run
invariant-loop-run l = record {
  counted : l.pairs ≡ pair_count (take l.run-index l.runs);
  low : l.pairs ≤ l.run-index * 2 ^ 32;
}
