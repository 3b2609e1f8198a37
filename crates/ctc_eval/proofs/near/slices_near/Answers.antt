use Rattle.std.proofs.Common.{ℕ, arith, subst}
use Rattle.slice_gates.specs.Ticks.{IsSliceOf}
use Rattle.ctc_eval.proofs.Covering.{near-by}
use Rattle.ctc_eval.proofs.near.slices_near.Goals as goal

pub returns-clause-value : goal.returns-clause-value
returns-clause-value c =
    let grid = c.args.grid.now in
    let ticks = c.in_ok-ticks.ticks in
    near-by grid c.known.ensures c.args.range ticks c.slice_at-first.result c.slice_at-last.result c.in_ok-ticks.ensures.value (omega (arith, c.in_ok-ticks.ensures.order, c.in_ok-ticks.ensures.clock)) c.in_ok-ticks.ensures.clock
    (subst (λ (k : ℕ). IsSliceOf grid k c.slice_at-first.result) c.saturating_sub.ensures c.slice_at-first.ensures) c.slice_at-last.ensures
