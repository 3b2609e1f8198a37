use Rattle.std.proofs.Common.{ap, arith, ◌≡◌}
use Rattle.std.proofs.lemmas.Int.{ints, clamps}
use Rattle.tube_spec.specs.Span.{Span}
use Rattle.int_interval.proofs.Sets.{set-empty, set-from}
use Rattle.int_interval.proofs.Interval.members_from.Goals as goal

pub returns-then-self-least : goal.returns-then-self-least
returns-then-self-least c =
    let self_lo : c.self.inside.lo ≡ c.args.self.lo = ap (λ (s : Span). s.lo) c.self.view_is in
    let self_hi : c.self.inside.hi ≡ c.args.self.hi = ap (λ (s : Span). s.hi) c.self.view_is in
    set-empty _ (λ p h. absurd (omega (arith, ints, h.0, h.1)))

pub returns-else-self-least : goal.returns-else-self-least
returns-else-self-least c =
    let self_lo : c.self.inside.lo ≡ c.args.self.lo = ap (λ (s : Span). s.lo) c.self.view_is in
    let self_hi : c.self.inside.hi ≡ c.args.self.hi = ap (λ (s : Span). s.hi) c.self.view_is in
    set-from _ _ (omega (arith, ints, clamps)) (λ p h. (record { low = omega (arith, ints, clamps, h); high = omega (arith, ints, clamps, h) }, omega (arith, ints, clamps, h))) (λ p h. record { low = omega (arith, ints, clamps, h.0, h.1); high = omega (arith, ints, clamps, h.0, h.1) })
