use Rattle.std.proofs.Common.{true}
use Rattle.ctc_parts.specs.Parts.{marked_in, ChecksMarked}
use Rattle.ctc_parts.proofs.sweep.is_each_marked_held.Given as goal

-- the box is stable under the marked parts so far
abbrev pub invariant-loop-i : goal.invariant-loop-i
invariant-loop-i g l = ChecksMarked l.i (g.P.Parts.part l.parts l.store.shape) (marked_in l.marks l.fn.within.start l.fn.within.end) l.store.box true
