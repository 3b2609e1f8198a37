use Rattle.std.proofs.Common.{arith}
use Rattle.std.proofs.lemmas.Int.{ints}
use Rattle.tube_spec.specs.Span.{sub_of}
use Rattle.expr_values.proofs.Sums.{made-at}
use Rattle.expr_values.proofs.operators.try_sub.Goals as goal

pub returns : goal.returns
returns c = made-at (sub_of c.args.a c.args.b) _ c.new.result c.new.ensures.value c.new.ensures.exists (omega (arith, ints)) (omega (arith, ints)) (omega (arith, ints))
