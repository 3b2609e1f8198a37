use Rattle.std.proofs.Common.{ap, subst, arith, ◌≡◌, None}
use Rattle.std.specs.Int.{int_min}
use Rattle.std.proofs.lemmas.Int.{ints}
use Rattle.tube_spec.specs.Span.{Span, IsProper, Holds}
use Rattle.int_interval.specs.Inverse.{TakesInto, back_min_of}
use Rattle.int_interval.proofs.Hulls.{hull-unique}
use Rattle.int_interval.proofs.Reaches.{set-to-hull, min-from, min-within, takes-from, takes-below}
use Rattle.int_interval.proofs.Inverses.{back_min-hull}
use Rattle.int_interval.proofs.Interval.back_min.Goals as goal

pub returns-then-other-lesser-clause-value : goal.returns-then-other-lesser-clause-value
returns-then-other-lesser-clause-value c =
    let other_lo : c.other.inside.lo ≡ c.args.other.lo = ap (λ (s : Span). s.lo) c.other.view_is in
    let other_hi : c.other.inside.hi ≡ c.args.other.hi = ap (λ (s : Span). s.hi) c.other.view_is in
    let other_good : IsProper c.args.other = subst IsProper c.other.view_is c.other.invariant.0 in
    let lesser_lo : c.lesser.inside.lo ≡ c.args.lesser.lo = ap (λ (s : Span). s.lo) c.lesser.view_is in
    let lesser_hi : c.lesser.inside.hi ≡ c.args.lesser.hi = ap (λ (s : Span). s.hi) c.lesser.view_is in
    let lesser_good : IsProper c.args.lesser = subst IsProper c.lesser.view_is c.lesser.invariant.0 in
    hull-unique (λ p. Holds c.args.self p × TakesInto int_min c.args.other c.args.lesser p) None (back_min_of c.args.self c.args.other c.args.lesser) (λ p h. let k = takes-from c.args.other c.args.lesser p h.1 in absurd (omega (arith, ints, k.1))) (back_min-hull c.args.self c.args.other c.args.lesser other_good)

pub returns-then-other-lesser-2-clause-hull : goal.returns-then-other-lesser-2-clause-hull
returns-then-other-lesser-2-clause-hull c =
    let other_lo : c.other.inside.lo ≡ c.args.other.lo = ap (λ (s : Span). s.lo) c.other.view_is in
    let other_hi : c.other.inside.hi ≡ c.args.other.hi = ap (λ (s : Span). s.hi) c.other.view_is in
    let other_good : IsProper c.args.other = subst IsProper c.other.view_is c.other.invariant.0 in
    let lesser_lo : c.lesser.inside.lo ≡ c.args.lesser.lo = ap (λ (s : Span). s.lo) c.lesser.view_is in
    let lesser_hi : c.lesser.inside.hi ≡ c.args.lesser.hi = ap (λ (s : Span). s.hi) c.lesser.view_is in
    let lesser_good : IsProper c.args.lesser = subst IsProper c.lesser.view_is c.lesser.invariant.0 in
    set-to-hull _ (λ p. Holds c.args.self p × TakesInto int_min c.args.other c.args.lesser p) _ c.members_from.ensures
    (λ p h. (h.0, min-from c.args.other c.args.lesser p other_good lesser_good (omega (arith, ints)) (omega (arith, ints)) (omega (arith, ints, h.1))))
    (λ p h. let k = takes-from c.args.other c.args.lesser p h.1 in (h.0, omega (arith, ints, k.0)))

pub returns-then-other-lesser-2-clause-value : goal.returns-then-other-lesser-2-clause-value
returns-then-other-lesser-2-clause-value c =
    let good : IsProper c.args.other = subst IsProper c.other.view_is c.other.invariant.0 in
    hull-unique (λ p. Holds c.args.self p × TakesInto int_min c.args.other c.args.lesser p) _ (back_min_of c.args.self c.args.other c.args.lesser) (returns-then-other-lesser-2-clause-hull c) (back_min-hull c.args.self c.args.other c.args.lesser good)

pub returns-else-other-lesser-2-clause-hull : goal.returns-else-other-lesser-2-clause-hull
returns-else-other-lesser-2-clause-hull c =
    let other_lo : c.other.inside.lo ≡ c.args.other.lo = ap (λ (s : Span). s.lo) c.other.view_is in
    let other_hi : c.other.inside.hi ≡ c.args.other.hi = ap (λ (s : Span). s.hi) c.other.view_is in
    let other_good : IsProper c.args.other = subst IsProper c.other.view_is c.other.invariant.0 in
    let lesser_lo : c.lesser.inside.lo ≡ c.args.lesser.lo = ap (λ (s : Span). s.lo) c.lesser.view_is in
    let lesser_hi : c.lesser.inside.hi ≡ c.args.lesser.hi = ap (λ (s : Span). s.hi) c.lesser.view_is in
    let lesser_good : IsProper c.args.lesser = subst IsProper c.lesser.view_is c.lesser.invariant.0 in
    set-to-hull _ (λ p. Holds c.args.self p × TakesInto int_min c.args.other c.args.lesser p) _ c.members_between.ensures
    (λ p h. (h.0, min-within c.args.other c.args.lesser p other_good (omega (arith, ints)) (record { low = omega (arith, ints, h.1); high = omega (arith, ints, h.1) })))
    (λ p h. let k = takes-from c.args.other c.args.lesser p h.1 in let j = takes-below c.args.other c.args.lesser p (omega (arith, ints)) h.1 in (h.0, record { low = omega (arith, ints, k.0); high = omega (arith, ints, j) }))

pub returns-else-other-lesser-2-clause-value : goal.returns-else-other-lesser-2-clause-value
returns-else-other-lesser-2-clause-value c =
    let good : IsProper c.args.other = subst IsProper c.other.view_is c.other.invariant.0 in
    hull-unique (λ p. Holds c.args.self p × TakesInto int_min c.args.other c.args.lesser p) _ (back_min_of c.args.self c.args.other c.args.lesser) (returns-else-other-lesser-2-clause-hull c) (back_min-hull c.args.self c.args.other c.args.lesser good)
