use Rattle.std.proofs.Common.{◌-ℤ◌, pos, arith, sym, ap}
use Rattle.std.proofs.lemmas.Int.{ints}
use Rattle.expr_tree.specs.declared.RelOp.{RelOp}
use Rattle.expr_values.specs.Comparisons.{right_of}
use Rattle.expr_values.proofs.Ends.{up_to-same}
use Rattle.expr_values.proofs.comparisons.right_of.Goals as goal

pub returns-in-Gt : goal.returns-in-Gt
returns-in-Gt c = up_to-same c.args.b _ (c.args.a.hi -ℤ pos 1) _ _ c.up_to.ensures (omega (arith, ints)) (ap (λ (op : RelOp). right_of op c.args.a c.args.b) (sym c.in-Gt.is))
