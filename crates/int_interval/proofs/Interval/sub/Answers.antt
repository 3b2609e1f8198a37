use Rattle.std.proofs.Common.{ap, subst, arith, ◌≡◌, ℤ, ◌-ℤ◌}
use Rattle.std.proofs.lemmas.Int.{ints}
use Rattle.tube_spec.specs.Span.{Span, IsProper, sub_of}
use Rattle.tube_spec.proofs.Spans.{same_span}
use Rattle.int_interval.proofs.Images.{sub-image, image_of_two-same}
use Rattle.int_interval.proofs.Interval.sub.Goals as goal

pub invariant_of-result : goal.invariant_of-result
invariant_of-result c =
    let a : c.self.inside.lo ≡ c.args.self.lo = ap (λ (s : Span). s.lo) c.self.view_is in
    let b : c.self.inside.hi ≡ c.args.self.hi = ap (λ (s : Span). s.hi) c.self.view_is in
    let d : c.other.inside.lo ≡ c.args.other.lo = ap (λ (s : Span). s.lo) c.other.view_is in
    let e : c.other.inside.hi ≡ c.args.other.hi = ap (λ (s : Span). s.hi) c.other.view_is in
    (omega (arith, ints), record { low = omega (arith, ints); high = omega (arith, ints) })

pub returns-clause-value : goal.returns-clause-value
returns-clause-value c =
    let a : c.self.inside.lo ≡ c.args.self.lo = ap (λ (s : Span). s.lo) c.self.view_is in
    let b : c.self.inside.hi ≡ c.args.self.hi = ap (λ (s : Span). s.hi) c.self.view_is in
    let d : c.other.inside.lo ≡ c.args.other.lo = ap (λ (s : Span). s.lo) c.other.view_is in
    let e : c.other.inside.hi ≡ c.args.other.hi = ap (λ (s : Span). s.hi) c.other.view_is in
    same_span _ _ (omega (arith, ints)) (omega (arith, ints))

pub returns-clause-image : goal.returns-clause-image
returns-clause-image c =
    image_of_two-same (λ (p q : ℤ). p -ℤ q) c.args.self c.args.other _ (sub_of c.args.self c.args.other) (returns-clause-value c) (sub-image c.args.self c.args.other (subst IsProper c.self.view_is c.self.invariant.0) (subst IsProper c.other.view_is c.other.invariant.0))
