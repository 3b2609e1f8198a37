use Rattle.std.proofs.Common.{length, arith}
use Rattle.log_spelling.proofs.Bounds.{some_below_18}
use Rattle.log_spelling.proofs.number.magnitude_of.Goals as goal

pub returns-clause-small : goal.returns-clause-small
returns-clause-small c = some_below_18 c.digits_value.result (length c.args.digits.now) (omega arith) c.digits_value.ensures.small
