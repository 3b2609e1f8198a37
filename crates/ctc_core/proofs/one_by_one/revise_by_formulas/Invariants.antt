use Rattle.std.proofs.Common.{take}
use Rattle.ctc_core.specs.Answers.{Revises}
use Rattle.ctc_core.proofs.one_by_one.revise_by_formulas.Given as goal

-- the projections so far were each fired
abbrev pub invariant-loop-i : goal.invariant-loop-i
invariant-loop-i g l = Revises (take l.i (g.F.Formulas.projections l.formulas l.fn.store.shape)) l.fn.store l.store l.answer
