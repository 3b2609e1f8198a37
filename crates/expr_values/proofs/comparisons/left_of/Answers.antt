use Rattle.std.proofs.Common.{◌-ℤ◌, ◌+ℤ◌, pos, arith, sym, ap}
use Rattle.std.proofs.lemmas.Int.{ints}
use Rattle.expr_tree.specs.declared.RelOp.{RelOp}
use Rattle.expr_values.specs.Comparisons.{left_of}
use Rattle.expr_values.proofs.Ends.{up_to-same, from-same}
use Rattle.expr_values.proofs.comparisons.left_of.Goals as goal

pub returns-in-Lt : goal.returns-in-Lt
returns-in-Lt c = up_to-same c.args.a _ (c.args.b.hi -ℤ pos 1) _ _ c.up_to.ensures (omega (arith, ints)) (ap (λ (op : RelOp). left_of op c.args.a c.args.b) (sym c.in-Lt.is))

pub returns-in-Gt : goal.returns-in-Gt
returns-in-Gt c = from-same c.args.a _ (c.args.b.lo +ℤ pos 1) _ _ c.from.ensures (omega (arith, ints)) (ap (λ (op : RelOp). left_of op c.args.a c.args.b) (sym c.in-Gt.is))
