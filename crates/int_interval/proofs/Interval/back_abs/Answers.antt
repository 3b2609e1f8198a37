use Rattle.std.proofs.Common.{ap, subst, arith, ◌≡◌}
use Rattle.std.proofs.lemmas.Int.{ints, clamps}
use Rattle.tube_spec.specs.Span.{Span, IsProper, Holds}
use Rattle.int_interval.specs.Image.{int_abs}
use Rattle.int_interval.specs.Inverse.{back_abs_of}
use Rattle.int_interval.proofs.Hulls.{hull-same, hull-unique}
use Rattle.int_interval.proofs.Inverses.{back_abs-hull}
use Rattle.int_interval.proofs.Interval.back_abs.Goals as goal

pub returns-clause-hull : goal.returns-clause-hull
returns-clause-hull c =
    let size_lo : c.size.inside.lo ≡ c.args.size.lo = ap (λ (s : Span). s.lo) c.size.view_is in
    let size_hi : c.size.inside.hi ≡ c.args.size.hi = ap (λ (s : Span). s.hi) c.size.view_is in
    let size_good : IsProper c.args.size = subst IsProper c.size.view_is c.size.invariant.0 in
    hull-same _ (λ p. Holds c.args.self p × Holds c.args.size (int_abs p)) _ (λ p h. (h.0, record { low = omega (arith, ints, clamps, h.1); high = omega (arith, ints, clamps, h.1) }))
    (λ p h. (h.0, record { low = omega (arith, ints, clamps, h.1); high = omega (arith, ints, clamps, h.1) })) c.on_both_sides.ensures

pub returns-clause-value : goal.returns-clause-value
returns-clause-value c = hull-unique (λ p. Holds c.args.self p × Holds c.args.size (int_abs p)) _ (back_abs_of c.args.self c.args.size) (returns-clause-hull c) (back_abs-hull c.args.self c.args.size)
