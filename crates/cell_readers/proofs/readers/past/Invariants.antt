use Rattle.std.proofs.Common.{◌≤◌}
use Rattle.cell_readers.specs.Entries.{Drops, IsPlace, chain}
use Rattle.cell_readers.proofs.readers.past.Given as goal

-- from the first place on only the number was passed
abbrev pub invariant-loop-at : goal.invariant-loop-at
invariant-loop-at l = record {
  place : IsPlace l.entries l.at;
  before : l.at ≤ l.fn.place;
  drops : Drops l.number (chain l.entries l.fn.place) (chain l.entries l.at);
}

abbrev pub decreases-loop-at : goal.decreases-loop-at
decreases-loop-at l = l.at
