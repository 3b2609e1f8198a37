use Rattle.std.proofs.Common.{false}
use Rattle.ctc_parts.specs.Sweeping.{Sweeps}
use Rattle.ctc_parts.proofs.sweep.sweep_down.Given as goal

-- parts were fired
abbrev pub invariant-loop-i : goal.invariant-loop-i
invariant-loop-i g l = Sweeps (g.P.Parts.parts l.parts l.fn.store.shape) (g.P.Parts.part l.parts l.fn.store.shape) (λ i. false) 0 l.fn.store l.store l.sweep.answer
