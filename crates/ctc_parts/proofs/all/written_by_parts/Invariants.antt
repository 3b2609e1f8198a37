use Rattle.std.proofs.Common.{◌≡◌, ◌+◌, length}
use Rattle.ctc_parts.specs.Parts.{each_below}
use Rattle.ctc_parts.proofs.all.written_by_parts.Given as goal

-- the number counts on from the parts so far
abbrev pub invariant-loop-k : goal.invariant-loop-k
invariant-loop-k g l = length (each_below (g.P.Parts.part l.parts l.store.shape) l.k) + l.left ≡ l.fn.i
