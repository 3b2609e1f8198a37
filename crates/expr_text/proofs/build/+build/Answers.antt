use Rattle.std.proofs.Common.{◌∙◌, ap, sym, arith}
use Rattle.std.proofs.lemmas.Grind.{common_steps}
use Rattle.std.proofs.lemmas.Result.{IfOk-weaker}
use Rattle.expr_text.specs.Builds.{seen}
use Rattle.expr_text.specs.Descent.{sum_at}
use Rattle.expr_text.proofs.build.+build.Goals as goal
use Rattle.expr_text.proofs.Calls.{sum_then, product_then}

pub sum-returns-in-Ok-Some : goal.sum-returns-in-Ok-Some
sum-returns-in-Ok-Some t c =
    IfOk-weaker c.addends.result _ _ (λ found e. e ∙ sum_then c.args.calls c.args.tokens.now _ _ c.if-calls-eq0.false (sym (ap seen c.in-Ok-Some.field-0-is) ∙ c.in-Ok-Some.ensures)) c.addends.ensures

pub product-returns-in-Ok-Some : goal.product-returns-in-Ok-Some
product-returns-in-Ok-Some t c =
    IfOk-weaker c.factors.result _ _ (λ found e. e ∙ product_then c.args.calls c.args.tokens.now _ _ c.if-calls-eq0.false (sym (ap seen c.in-Ok-Some.field-0-is) ∙ c.in-Ok-Some.ensures)) c.factors.ensures

pub addends-returns-in_ok-boxed-in-Ok-Some-2 : goal.addends-returns-in_ok-boxed-in-Ok-Some-2
unfolding sum_at
addends-returns-in_ok-boxed-in-Ok-Some-2 t c =
    IfOk-weaker c.addends.result _ _ (λ found e. grind (arith, common_steps, e)) c.addends.ensures

pub addends-returns-in_ok-boxed-in-Ok-Some-product-2 : goal.addends-returns-in_ok-boxed-in-Ok-Some-product-2
unfolding sum_at
addends-returns-in_ok-boxed-in-Ok-Some-product-2 t c =
    IfOk-weaker c.addends-in-Ok-Some-product.result _ _ (λ found e. grind (arith, common_steps, e)) c.addends-in-Ok-Some-product.ensures

pub factors-returns-in_ok-boxed-in-Ok-Some-2 : goal.factors-returns-in_ok-boxed-in-Ok-Some-2
unfolding sum_at
factors-returns-in_ok-boxed-in-Ok-Some-2 t c =
    IfOk-weaker c.factors.result _ _ (λ found e. grind (arith, common_steps, e)) c.factors.ensures

pub pair-returns-in-Ok-Some : goal.pair-returns-in-Ok-Some
unfolding sum_at
pair-returns-in-Ok-Some t c =
    IfOk-weaker c.second.result _ _ (λ found e. grind (arith, common_steps, e)) c.second.ensures

pub unary-returns-in_ok-bracket-in-Sqr : goal.unary-returns-in_ok-bracket-in-Sqr
unfolding sum_at
unary-returns-in_ok-bracket-in-Sqr t c =
    IfOk-weaker c.squared.result _ _ (λ found e. grind (arith, common_steps, e, c.in_ok-bracket-in-Sqr.ensures)) c.squared.ensures

pub unary-returns-in_ok-bracket-in-Abs : goal.unary-returns-in_ok-bracket-in-Abs
unfolding sum_at
unary-returns-in_ok-bracket-in-Abs t c =
    IfOk-weaker c.absolute.result _ _ (λ found e. grind (arith, common_steps, e, c.in_ok-bracket-in-Abs.ensures)) c.absolute.ensures

pub unary-returns-in_ok-pair-in-Min : goal.unary-returns-in_ok-pair-in-Min
unfolding sum_at
unary-returns-in_ok-pair-in-Min t c =
    IfOk-weaker c.least.result _ _ (λ found e. grind (arith, common_steps, e, c.in_ok-pair-in-Min.ensures)) c.least.ensures

pub unary-returns-in_ok-pair-in-Max : goal.unary-returns-in_ok-pair-in-Max
unfolding sum_at
unary-returns-in_ok-pair-in-Max t c =
    IfOk-weaker c.greatest.result _ _ (λ found e. grind (arith, common_steps, e, c.in_ok-pair-in-Max.ensures)) c.greatest.ensures
