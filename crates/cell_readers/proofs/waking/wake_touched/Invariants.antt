use Rattle.std.proofs.Common.{◌≡◌, ℕ, ◌||◌, false, length, get_or}
use Rattle.std.specs.List.{list_any}
use Rattle.cell_readers.specs.Entries.{is_reader}
use Rattle.cell_readers.proofs.waking.wake_touched.Given as goal

-- who waits, or will be woken by the cells that are left, is ever the same
abbrev pub invariant-loop-cell : goal.invariant-loop-cell
invariant-loop-cell l = record {
  store : l.store ≡ record l.fn.store { touched = l.store.touched };
  len : length l.waiting ≡ length l.fn.waiting;
  each : (k : ℕ) → (get_or l.waiting k false || list_any (is_reader l.readers.readers k) l.store.touched) ≡ (get_or l.fn.waiting k false || list_any (is_reader l.readers.readers k) l.fn.store.touched);
}

abbrev pub decreases-loop-cell : goal.decreases-loop-cell
decreases-loop-cell l = length l.store.touched
