use Rattle.std.proofs.Common.{arith}
use Rattle.std.proofs.lemmas.Int.{ints}
use Rattle.int_interval.proofs.Division.{next-root}
use Rattle.int_interval.proofs.backward.least_root.Goals as goal

pub returns-else-n-le0-clause-root : goal.returns-else-n-le0-clause-root
returns-else-n-le0-clause-root c = λ p h. next-root c.args.n _ c.greatest_root.result _ p (omega (arith, ints)) (omega (arith, ints)) (c.greatest_root.ensures.root p h)
