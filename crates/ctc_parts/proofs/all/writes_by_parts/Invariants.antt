use Rattle.std.proofs.Common.{◌≡◌, length}
use Rattle.ctc_parts.specs.Parts.{each_below}
use Rattle.ctc_parts.proofs.all.writes_by_parts.Given as goal

-- the projections of the parts so far
abbrev pub invariant-loop-i : goal.invariant-loop-i
invariant-loop-i g l = l.total ≡ length (each_below (g.P.Parts.part l.parts l.store.shape) l.i)
