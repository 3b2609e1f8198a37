use Rattle.std.proofs.Common.{◌≡◌, ◌++◌, length}
use Rattle.cell_readers.specs.Entries.{readers_at}
use Rattle.cell_readers.proofs.readers.Readers.count.Given as goal

-- those met so far were counted, and the others are still to come
abbrev pub invariant-loop-number : goal.invariant-loop-number
invariant-loop-number l = record {
  counted : l.count ≡ length l.yielded;
  all : l.yielded ++ l._number-iterator ≡ readers_at l.fn.self.readers l.fn.cell.0;
}
