use Rattle.std.proofs.Common.{arith, ℤ}
use Rattle.std.proofs.lemmas.Int.{ints}
use Rattle.int_interval.proofs.Sets.{set-same}
use Rattle.int_interval.proofs.Division.{at-least-opposite}
use Rattle.int_interval.proofs.Interval.times_at_least.Goals as goal

pub returns : goal.returns
returns c =
    let opposite = λ (p : ℤ). at-least-opposite c.args.least p c.args.factor _ _ (omega (arith, ints)) (omega (arith, ints)) in
    set-same _ _ _ (λ p h. (h.0, (opposite p).0 h.1)) (λ p h. (h.0, (opposite p).1 h.1)) c.times_at_most.ensures
