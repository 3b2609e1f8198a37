use Rattle.std.proofs.Common.{◌≡◌, ◌++◌}
use Rattle.cell_readers.specs.Entries.{AreAwake, readers_at}
use Rattle.cell_readers.proofs.waking.wake_readers.Given as goal

-- those met so far are awake, and the others are still to come
abbrev pub invariant-loop-number : goal.invariant-loop-number
invariant-loop-number l = record {
  woken : AreAwake l.yielded l.fn.waiting l.waiting;
  all : l.yielded ++ l.number-iterator ≡ readers_at l.fn.readers.readers l.fn.cell.0;
}
