use Rattle.std.proofs.Common.{◌≡◌, vec_capacity}
use Rattle.cell_readers.proofs.Leading.{IsDropping}
use Rattle.cell_readers.proofs.readers.drop_behind.Given as goal

-- the list has lost the number as far as the place
abbrev pub invariant-loop-at : goal.invariant-loop-at
invariant-loop-at l = record {
  dropping : IsDropping l.fn.entries.items l.entries.items l.number l.fn.place l.at;
  capacity : vec_capacity l.entries ≡ vec_capacity l.fn.entries;
}

abbrev pub decreases-loop-at : goal.decreases-loop-at
decreases-loop-at l = l.at
