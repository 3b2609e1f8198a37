use Rattle.std.proofs.Common.{true}
use Rattle.ctc_parts.specs.Sweeping.{Sweeps}
use Rattle.ctc_parts.proofs.all.visit_up.Given as goal

-- the parts so far were each fired
abbrev pub invariant-loop-i : goal.invariant-loop-i
invariant-loop-i g l = Sweeps (g.P.Parts.parts l.parts l.fn.store.shape) (g.P.Parts.part l.parts l.fn.store.shape) (λ i. true) l.i l.fn.store l.store l.answer
