use Rattle.std.proofs.Common.{◌≡◌, ◌<◌, ◌≤◌, ℕ, true, false, length, get_or}
use Rattle.part_marks.proofs.marks.set_flags.Given as goal

-- the flags of the range so far are set, and none was cleared
abbrev pub invariant-loop-i : goal.invariant-loop-i
invariant-loop-i l = record {
  len : length l.flags ≡ length l.fn.flags;
  kept : (j : ℕ) → get_or l.fn.flags j false ≡ true → get_or l.flags j false ≡ true;
  marked : (j : ℕ) → l.fn.parts.start ≤ j → j < l.i → j < length l.fn.flags → get_or l.flags j false ≡ true;
}
