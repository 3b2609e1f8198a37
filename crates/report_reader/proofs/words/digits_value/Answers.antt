use Rattle.std.proofs.Common.{◌<◌, arith}
use Rattle.report_reader.proofs.Numerals.{below_18, below_19}
use Rattle.report_reader.proofs.words.digits_value.Goals as goal

pub overflow_mul-n : goal.overflow_mul-n
overflow_mul-n c =
    let small : c.loop-d.n < 1000000000000000000 = below_18 c.loop-d.n c.loop-d.d-index c.loop-d.invariant.small (omega arith) in
    omega arith

pub overflow_add-n : goal.overflow_add-n
overflow_add-n c =
    let small : c.loop-d.n < 1000000000000000000 = below_18 c.loop-d.n c.loop-d.d-index c.loop-d.invariant.small (omega arith) in
    omega (arith, c.type_inv.digits c.loop-d.d-index)

pub returns-clause-small : goal.returns-clause-small
returns-clause-small c = below_19 c.loop-d.n c.loop-d.d-index c.loop-d.invariant.small (omega arith)
