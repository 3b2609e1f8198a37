use Rattle.std.proofs.Common.{arith}
use Rattle.std.proofs.lemmas.Int.{ints}
use Rattle.int_interval.proofs.Sets.{set-same, set-then}
use Rattle.int_interval.proofs.Reaches.{none-set}
use Rattle.int_interval.proofs.Interval.members_between.Goals as goal

pub returns-in_err-members_from : goal.returns-in_err-members_from
returns-in_err-members_from c = none-set _ _ _ c.from_residual.ensures (λ p h. (h.0, omega (arith, ints, h.1))) c.in_err-members_from.ensures

pub returns : goal.returns
returns c = set-same _ _ _ (λ p h. (h.0.0, record { low = omega (arith, ints, h.0.1); high = omega (arith, ints, h.1) })) (λ p h. ((h.0, omega (arith, ints, h.1)), omega (arith, ints, h.1))) (set-then _ _ _ _ c.in_ok-members_from.ensures c.members_up_to.ensures)
