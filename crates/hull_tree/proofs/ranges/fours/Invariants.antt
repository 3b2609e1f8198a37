use Rattle.std.proofs.Common.{◌≡◌, ℕ, ◌+◌, ◌*◌, ◌<◌, length, min, slice_index_or}
use Rattle.hull_tree.specs.Levels.{bounds_before}
use Rattle.hull_tree.specs.declared.hulls.Bounds.{Bounds}
use Rattle.hull_tree.proofs.ranges.fours.Given as goal

-- the hulls so far
abbrev pub invariant-loop-i : goal.invariant-loop-i
invariant-loop-i l = record {
  len : length l.row.items ≡ l.i;
  hulls : (i : ℕ) (d : Bounds) → i < l.i → slice_index_or l.row.items i d ≡ bounds_before l.ticks (i * 4) (min (i * 4 + 4) (length l.ticks));
}
