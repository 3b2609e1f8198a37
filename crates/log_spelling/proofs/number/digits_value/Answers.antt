use Rattle.std.proofs.Common.{◌<◌, arith}
use Rattle.log_spelling.proofs.Bounds.{below_18}
use Rattle.log_spelling.proofs.number.digits_value.Goals as goal

pub overflow_mul-n : goal.overflow_mul-n
overflow_mul-n c =
    let small : c.loop-d.n < 1000000000000000000 = below_18 c.loop-d.n c.loop-d.d-index c.loop-d.invariant.small (omega arith) in
    omega arith

pub overflow_add-n : goal.overflow_add-n
overflow_add-n c =
    let small : c.loop-d.n < 1000000000000000000 = below_18 c.loop-d.n c.loop-d.d-index c.loop-d.invariant.small (omega arith) in
    omega (arith, c.type_inv.digits c.loop-d.d-index)
