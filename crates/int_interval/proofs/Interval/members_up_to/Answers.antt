use Rattle.std.proofs.Common.{ap, arith, ◌≡◌}
use Rattle.std.proofs.lemmas.Int.{ints, clamps}
use Rattle.tube_spec.specs.Span.{Span}
use Rattle.int_interval.proofs.Sets.{set-empty, set-from}
use Rattle.int_interval.proofs.Interval.members_up_to.Goals as goal

pub returns-then-greatest-self : goal.returns-then-greatest-self
returns-then-greatest-self c =
    let self_lo : c.self.inside.lo ≡ c.args.self.lo = ap (λ (s : Span). s.lo) c.self.view_is in
    let self_hi : c.self.inside.hi ≡ c.args.self.hi = ap (λ (s : Span). s.hi) c.self.view_is in
    set-empty _ (λ p h. absurd (omega (arith, ints, h.0, h.1)))

pub returns-else-greatest-self : goal.returns-else-greatest-self
returns-else-greatest-self c =
    let self_lo : c.self.inside.lo ≡ c.args.self.lo = ap (λ (s : Span). s.lo) c.self.view_is in
    let self_hi : c.self.inside.hi ≡ c.args.self.hi = ap (λ (s : Span). s.hi) c.self.view_is in
    set-from _ _ (omega (arith, ints, clamps)) (λ p h. (record { low = omega (arith, ints, clamps, h); high = omega (arith, ints, clamps, h) }, omega (arith, ints, clamps, h))) (λ p h. record { low = omega (arith, ints, clamps, h.0, h.1); high = omega (arith, ints, clamps, h.0, h.1) })
