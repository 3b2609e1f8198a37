use Rattle.std.proofs.Common.{ap, subst, arith, ◌≡◌, ◌+ℤ◌}
use Rattle.std.proofs.lemmas.Int.{ints}
use Rattle.tube_spec.specs.Span.{Span, IsProper, Holds}
use Rattle.int_interval.specs.Inverse.{TakesInto, back_add_of}
use Rattle.int_interval.proofs.Hulls.{hull-unique}
use Rattle.int_interval.proofs.Reaches.{set-to-hull, sum-takes, takes-sum}
use Rattle.int_interval.proofs.Inverses.{back_add-hull}
use Rattle.int_interval.proofs.Interval.back_add.Goals as goal

pub returns-clause-hull : goal.returns-clause-hull
returns-clause-hull c =
    let other_lo : c.other.inside.lo ≡ c.args.other.lo = ap (λ (s : Span). s.lo) c.other.view_is in
    let other_hi : c.other.inside.hi ≡ c.args.other.hi = ap (λ (s : Span). s.hi) c.other.view_is in
    let other_good : IsProper c.args.other = subst IsProper c.other.view_is c.other.invariant.0 in
    let sum_lo : c.sum.inside.lo ≡ c.args.sum.lo = ap (λ (s : Span). s.lo) c.sum.view_is in
    let sum_hi : c.sum.inside.hi ≡ c.args.sum.hi = ap (λ (s : Span). s.hi) c.sum.view_is in
    let sum_good : IsProper c.args.sum = subst IsProper c.sum.view_is c.sum.invariant.0 in
    set-to-hull _ (λ p. Holds c.args.self p × TakesInto (λ p q. p +ℤ q) c.args.other c.args.sum p) _ c.members_between.ensures
    (λ p h. (h.0, sum-takes c.args.other c.args.sum p other_good sum_good (omega (arith, ints, h.1)) (omega (arith, ints, h.1))))
    (λ p h. let k = takes-sum c.args.other c.args.sum p h.1 in (h.0, record { low = omega (arith, ints, k.0); high = omega (arith, ints, k.1) }))

pub returns-clause-value : goal.returns-clause-value
returns-clause-value c = hull-unique (λ p. Holds c.args.self p × TakesInto (λ p q. p +ℤ q) c.args.other c.args.sum p) _ (back_add_of c.args.self c.args.other c.args.sum) (returns-clause-hull c) (back_add-hull c.args.self c.args.other c.args.sum)
