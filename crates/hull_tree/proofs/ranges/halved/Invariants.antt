use Rattle.std.proofs.Common.{◌≡◌, ℕ, ◌+◌, ◌*◌, ◌<◌, length, slice_index_or}
use Rattle.hull_tree.specs.Judging.{both}
use Rattle.hull_tree.specs.declared.hulls.Bounds.{Bounds}
use Rattle.hull_tree.proofs.ranges.halved.Given as goal

-- the pairs so far
abbrev pub invariant-loop-i : goal.invariant-loop-i
invariant-loop-i l = record {
  len : length l.above.items ≡ l.i;
  joined : (i : ℕ) (d : Bounds) → i < l.i → 2 * i + 1 < length l.row → slice_index_or l.above.items i d ≡ both (slice_index_or l.row (2 * i) d) (slice_index_or l.row (2 * i + 1) d);
  alone : (i : ℕ) (d : Bounds) → i < l.i → 2 * i + 1 ≡ length l.row → slice_index_or l.above.items i d ≡ slice_index_or l.row (2 * i) d;
}
