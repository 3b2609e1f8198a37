use Rattle.std.proofs.Common.{◌≡◌, ◌++◌, drop}
use Rattle.log_clock.specs.Marks.{marked}
use Rattle.log_clock.proofs.marks.grid_of.Given as goal

abbrev pub invariant-loop-i : goal.invariant-loop-i
invariant-loop-i l = l.cuts.items ++ marked l.i (drop l.i l.marks) ≡ marked 0 l.marks
