use Rattle.std.proofs.Common.{◌≡◌, ◌∙◌, Some, None, true, false, arith, refl, sym}
use Rattle.expr_hc4.proofs.Runs.{run-step, run-none, ended}
use Rattle.expr_hc4.proofs.passes.narrow.Goals as goal

pub loop-i-preserved : goal.loop-i-preserved
loop-i-preserved c =
    c.loop-i.invariant ∙ run-step c.args.nodes.now c.loop-i.i c.loop-i.values (Some c.narrow_operands.new.values) (omega arith) (omega arith) c.if-not-narrow_operands.ensures

pub returns-then-not-narrow_operands : goal.returns-then-not-narrow_operands
returns-then-not-narrow_operands c = λ xs d x y more e f.
    ended xs d x y more c.args.values.now c.narrow_operands.new.values c.args.nodes.now None e f
    (c.loop-i.invariant ∙ run-step c.args.nodes.now c.loop-i.i c.loop-i.values None (omega arith) (omega arith) c.if-not-narrow_operands.ensures)
    false (λ q. absurd (cc)) (λ q. refl)

pub returns : goal.returns
returns c = λ xs d x y more e f.
    ended xs d x y more c.args.values.now c.loop-i.values c.args.nodes.now (Some c.loop-i.values) e f
    (c.loop-i.invariant ∙ run-none c.args.nodes.now c.loop-i.i c.loop-i.values (omega arith))
    true (λ q. refl) (λ q. absurd (cc))
