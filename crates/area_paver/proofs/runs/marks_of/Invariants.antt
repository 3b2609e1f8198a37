use Rattle.std.proofs.Common.{◌≡◌, ℕ, ◌<◌, length, slice_index_or}
use Rattle.area_paver.specs.Runs.{IsMarkBy}
use Rattle.area_paver.specs.declared.chart.Mark.TheVariants.{Open}
use Rattle.area_paver.proofs.Covering.{IsFurthest}
use Rattle.area_paver.proofs.runs.marks_of.Given as goal

-- the marks so far, and where the furthest runs end that have begun
abbrev pub invariant-loop-c : goal.invariant-loop-c
invariant-loop-c l = record {
  len : length l.marks.items ≡ l.c;
  sure : IsFurthest l.sure l.c l.sure_end;
  possible : IsFurthest l.possible l.c l.possible_end;
  marks : (j : ℕ) → j < l.c → IsMarkBy l.sure l.possible j (slice_index_or l.marks.items j Open);
}
