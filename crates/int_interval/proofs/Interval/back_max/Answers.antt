use Rattle.std.proofs.Common.{ap, subst, arith, ◌≡◌, None}
use Rattle.std.specs.Int.{int_max}
use Rattle.std.proofs.lemmas.Int.{ints}
use Rattle.tube_spec.specs.Span.{Span, IsProper, Holds}
use Rattle.int_interval.specs.Inverse.{TakesInto, back_max_of}
use Rattle.int_interval.proofs.Hulls.{hull-unique}
use Rattle.int_interval.proofs.Reaches.{set-to-hull, max-to, max-within, takes-to, takes-above}
use Rattle.int_interval.proofs.Inverses.{back_max-hull}
use Rattle.int_interval.proofs.Interval.back_max.Goals as goal

pub returns-then-greater-other-clause-value : goal.returns-then-greater-other-clause-value
returns-then-greater-other-clause-value c =
    let other_lo : c.other.inside.lo ≡ c.args.other.lo = ap (λ (s : Span). s.lo) c.other.view_is in
    let other_hi : c.other.inside.hi ≡ c.args.other.hi = ap (λ (s : Span). s.hi) c.other.view_is in
    let other_good : IsProper c.args.other = subst IsProper c.other.view_is c.other.invariant.0 in
    let greater_lo : c.greater.inside.lo ≡ c.args.greater.lo = ap (λ (s : Span). s.lo) c.greater.view_is in
    let greater_hi : c.greater.inside.hi ≡ c.args.greater.hi = ap (λ (s : Span). s.hi) c.greater.view_is in
    let greater_good : IsProper c.args.greater = subst IsProper c.greater.view_is c.greater.invariant.0 in
    hull-unique (λ p. Holds c.args.self p × TakesInto int_max c.args.other c.args.greater p) None (back_max_of c.args.self c.args.other c.args.greater) (λ p h. let k = takes-to c.args.other c.args.greater p h.1 in absurd (omega (arith, ints, k.1))) (back_max-hull c.args.self c.args.other c.args.greater other_good)

pub returns-then-greater-other-2-clause-hull : goal.returns-then-greater-other-2-clause-hull
returns-then-greater-other-2-clause-hull c =
    let other_lo : c.other.inside.lo ≡ c.args.other.lo = ap (λ (s : Span). s.lo) c.other.view_is in
    let other_hi : c.other.inside.hi ≡ c.args.other.hi = ap (λ (s : Span). s.hi) c.other.view_is in
    let other_good : IsProper c.args.other = subst IsProper c.other.view_is c.other.invariant.0 in
    let greater_lo : c.greater.inside.lo ≡ c.args.greater.lo = ap (λ (s : Span). s.lo) c.greater.view_is in
    let greater_hi : c.greater.inside.hi ≡ c.args.greater.hi = ap (λ (s : Span). s.hi) c.greater.view_is in
    let greater_good : IsProper c.args.greater = subst IsProper c.greater.view_is c.greater.invariant.0 in
    set-to-hull _ (λ p. Holds c.args.self p × TakesInto int_max c.args.other c.args.greater p) _ c.members_up_to.ensures
    (λ p h. (h.0, max-to c.args.other c.args.greater p other_good greater_good (omega (arith, ints)) (omega (arith, ints)) (omega (arith, ints, h.1))))
    (λ p h. let k = takes-to c.args.other c.args.greater p h.1 in (h.0, omega (arith, ints, k.0)))

pub returns-then-greater-other-2-clause-value : goal.returns-then-greater-other-2-clause-value
returns-then-greater-other-2-clause-value c =
    let good : IsProper c.args.other = subst IsProper c.other.view_is c.other.invariant.0 in
    hull-unique (λ p. Holds c.args.self p × TakesInto int_max c.args.other c.args.greater p) _ (back_max_of c.args.self c.args.other c.args.greater) (returns-then-greater-other-2-clause-hull c) (back_max-hull c.args.self c.args.other c.args.greater good)

pub returns-else-greater-other-2-clause-hull : goal.returns-else-greater-other-2-clause-hull
returns-else-greater-other-2-clause-hull c =
    let other_lo : c.other.inside.lo ≡ c.args.other.lo = ap (λ (s : Span). s.lo) c.other.view_is in
    let other_hi : c.other.inside.hi ≡ c.args.other.hi = ap (λ (s : Span). s.hi) c.other.view_is in
    let other_good : IsProper c.args.other = subst IsProper c.other.view_is c.other.invariant.0 in
    let greater_lo : c.greater.inside.lo ≡ c.args.greater.lo = ap (λ (s : Span). s.lo) c.greater.view_is in
    let greater_hi : c.greater.inside.hi ≡ c.args.greater.hi = ap (λ (s : Span). s.hi) c.greater.view_is in
    let greater_good : IsProper c.args.greater = subst IsProper c.greater.view_is c.greater.invariant.0 in
    set-to-hull _ (λ p. Holds c.args.self p × TakesInto int_max c.args.other c.args.greater p) _ c.members_between.ensures
    (λ p h. (h.0, max-within c.args.other c.args.greater p other_good (omega (arith, ints)) (record { low = omega (arith, ints, h.1); high = omega (arith, ints, h.1) })))
    (λ p h. let k = takes-to c.args.other c.args.greater p h.1 in let j = takes-above c.args.other c.args.greater p (omega (arith, ints)) h.1 in (h.0, record { low = omega (arith, ints, j); high = omega (arith, ints, k.0) }))

pub returns-else-greater-other-2-clause-value : goal.returns-else-greater-other-2-clause-value
returns-else-greater-other-2-clause-value c =
    let good : IsProper c.args.other = subst IsProper c.other.view_is c.other.invariant.0 in
    hull-unique (λ p. Holds c.args.self p × TakesInto int_max c.args.other c.args.greater p) _ (back_max_of c.args.self c.args.other c.args.greater) (returns-else-greater-other-2-clause-hull c) (back_max-hull c.args.self c.args.other c.args.greater good)
