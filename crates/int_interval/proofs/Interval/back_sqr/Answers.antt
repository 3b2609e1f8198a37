use Rattle.std.proofs.Common.{rules, ap, subst, arith, ◌≡◌, ◌∙◌, ℤ, ◌*ℤ◌, w64, None, SFits}
use Rattle.std.proofs.lemmas.Int.{ints, to_z-of_z}
use Rattle.tube_spec.specs.Span.{Span, IsProper, Holds}
use Rattle.int_interval.specs.Inverse.{back_sqr_of}
use Rattle.int_interval.proofs.Hulls.{hull-same, hull-unique}
use Rattle.int_interval.proofs.Division.{between-roots, square-positive}
use Rattle.int_interval.proofs.Inverses.{back_sqr-hull}
use Rattle.int_interval.proofs.Interval.back_sqr.Goals as goal

pub returns-then-square-lt0-clause-value : goal.returns-then-square-lt0-clause-value
returns-then-square-lt0-clause-value c =
    let square_lo : c.square.inside.lo ≡ c.args.square.lo = ap (λ (s : Span). s.lo) c.square.view_is in
    let square_hi : c.square.inside.hi ≡ c.args.square.hi = ap (λ (s : Span). s.hi) c.square.view_is in
    let square_good : IsProper c.args.square = subst IsProper c.square.view_is c.square.invariant.0 in
    hull-unique (λ p. Holds c.args.self p × Holds c.args.square (p *ℤ p)) None (back_sqr_of c.args.self c.args.square) (λ p h. absurd (omega (arith, ints, h.1, square-positive p))) (back_sqr-hull c.args.self c.args.square)

pub returns-else-square-lt0-clause-hull : goal.returns-else-square-lt0-clause-hull
returns-else-square-lt0-clause-hull c =
    let square_lo : c.square.inside.lo ≡ c.args.square.lo = ap (λ (s : Span). s.lo) c.square.view_is in
    let square_hi : c.square.inside.hi ≡ c.args.square.hi = ap (λ (s : Span). s.hi) c.square.view_is in
    let square_good : IsProper c.args.square = subst IsProper c.square.view_is c.square.invariant.0 in
    let gl : SFits w64 c.least_root.result = search rules in
    let gh : SFits w64 c.greatest_root.result = search rules in
    let fl : SFits w64 c.square.inside.lo = search rules in
    let fh : SFits w64 c.square.inside.hi = search rules in
    let roots = λ (p : ℤ). between-roots c.args.square c.least_root.result c.greatest_root.result _ _ p (to_z-of_z w64 c.square.inside.lo fl ∙ square_lo) (to_z-of_z w64 c.square.inside.hi fh ∙ square_hi) c.least_root.ensures.root c.greatest_root.ensures.root in
    hull-same _ (λ p. Holds c.args.self p × Holds c.args.square (p *ℤ p)) _
    (λ p h. (h.0, (roots p).0 (record { low = omega (arith, ints, h.1); high = omega (arith, ints, h.1) })))
    (λ p h. let k = (roots p).1 h.1 in (h.0, record { low = omega (arith, ints, k); high = omega (arith, ints, k) })) c.on_both_sides.ensures

pub returns-else-square-lt0-clause-value : goal.returns-else-square-lt0-clause-value
returns-else-square-lt0-clause-value c = hull-unique (λ p. Holds c.args.self p × Holds c.args.square (p *ℤ p)) _ (back_sqr_of c.args.self c.args.square) (returns-else-square-lt0-clause-hull c) (back_sqr-hull c.args.self c.args.square)
