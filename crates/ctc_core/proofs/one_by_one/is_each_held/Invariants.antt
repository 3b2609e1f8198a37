use Rattle.std.proofs.Common.{take, true}
use Rattle.ctc_core.specs.Checking.{Checks}
use Rattle.ctc_core.proofs.one_by_one.is_each_held.Given as goal

-- the box is stable under the projections so far
abbrev pub invariant-loop-i : goal.invariant-loop-i
invariant-loop-i g l = Checks (take l.i (g.F.Formulas.projections l.formulas l.store.shape)) l.store.box true
