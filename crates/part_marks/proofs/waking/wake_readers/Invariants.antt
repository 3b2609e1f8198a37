use Rattle.std.proofs.Common.{◌≡◌, ◌++◌, ℕ, Contains}
use Rattle.cell_readers.specs.Entries.{AreAwake, readers_at}
use Rattle.part_marks.specs.Nets.{KeepsMarks, IsReached}
use Rattle.part_marks.proofs.waking.wake_readers.Given as goal

-- those met so far are awake and marked, and the others are still to come
abbrev pub invariant-loop-number : goal.invariant-loop-number
invariant-loop-number g l = record {
  woken : AreAwake l.yielded l.fn.waiting l.waiting;
  all : l.yielded ++ l.number-iterator ≡ readers_at l.fn.readers.readers l.fn.cell.0;
  kept : KeepsMarks l.fn.marks l.marks;
  reached : (k : ℕ) → Contains l.yielded k → IsReached g.C.Parted.parts g.C.Parted.part_scope l.fn.store.shape l.fn.contractors l.marks l.fn.cell.0 k;
}
