use Rattle.std.proofs.Common.{true}
use Rattle.ctc_core.specs.Checking.{Checks}
use Rattle.ctc_parts.specs.Parts.{each_below}
use Rattle.ctc_parts.proofs.all.is_each_part_held.Given as goal

-- the box is stable under the parts so far
abbrev pub invariant-loop-i : goal.invariant-loop-i
invariant-loop-i g l = Checks (each_below (g.P.Parts.part l.parts l.store.shape) l.i) l.store.box true
