use Rattle.std.proofs.Common.{◌≡◌, length}
use Rattle.bundle_reader.proofs.SetLists.{AreRead}
use Rattle.bundle_reader.proofs.sets.sets_of.Given as goal

-- As many sets are read as the counter says, and this is left.
abbrev pub invariant-loop-read : goal.invariant-loop-read
invariant-loop-read l = record {
  counted : length l.sets.items ≡ l.read;
  read : AreRead l.count l.bytes l.rest l.sets.items;
}
