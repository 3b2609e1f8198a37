use Rattle.std.proofs.Common.{◌≡◌, ◌⊎◌, ℕ, ◌||◌, false, length, get_or, Contains}
use Rattle.std.specs.List.{list_any}
use Rattle.cell_readers.specs.Entries.{is_reader, readers_at}
use Rattle.part_marks.specs.Nets.{KeepsMarks, IsReached}
use Rattle.part_marks.proofs.waking.wake_touched.Given as goal

-- who waits, or will be woken by the cells that are left, is ever the same; a cell that was touched is left, or its readers are marked
abbrev pub invariant-loop-cell : goal.invariant-loop-cell
invariant-loop-cell g l = record {
  store : l.store ≡ record l.fn.store { touched = l.store.touched };
  len : length l.waiting ≡ length l.fn.waiting;
  each : (k : ℕ) → (get_or l.waiting k false || list_any (is_reader l.readers.readers k) l.store.touched) ≡ (get_or l.fn.waiting k false || list_any (is_reader l.readers.readers k) l.fn.store.touched);
  kept : KeepsMarks l.fn.marks l.marks;
  reached : (cell : ℕ) → Contains l.fn.store.touched cell → Contains l.store.touched cell ⊎ ((k : ℕ) → Contains (readers_at l.readers.readers cell) k → IsReached g.C.Parted.parts g.C.Parted.part_scope l.fn.store.shape l.fn.contractors l.marks cell k);
}

abbrev pub decreases-loop-cell : goal.decreases-loop-cell
decreases-loop-cell g l = length l.store.touched
