use Rattle.std.proofs.Common.{sym, ap, ◌∙◌}
use Rattle.expr_values.specs.Operators.{left_target}
use Rattle.expr_values.specs.declared.operators.BinaryOp.{BinaryOp}
use Rattle.expr_values.proofs.Sums.{back_add-shared, left_of_difference}
use Rattle.expr_values.proofs.operators.BinaryOp.left_target.Goals as goal

pub returns-in-Add : goal.returns-in-Add
returns-in-Add c =
    c.back_add.ensures.value ∙ back_add-shared c.args.a c.args.b c.args.c c.known-2.ensures.proper c.known-3.ensures.proper
    ∙ ap (λ (op : BinaryOp). left_target op c.args.a c.args.b c.args.c) (sym c.in-Add.is)

pub returns-in-Sub : goal.returns-in-Sub
returns-in-Sub c =
    c.back_add-in-Sub.ensures.value ∙ left_of_difference c.args.a c.args.b c.args.c c.neg.result c.neg.ensures.value c.known-2.ensures.proper c.known-3.ensures.proper
    ∙ ap (λ (op : BinaryOp). left_target op c.args.a c.args.b c.args.c) (sym c.in-Sub.is)
