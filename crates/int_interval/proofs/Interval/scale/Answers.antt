use Rattle.std.proofs.Common.{rules, ap, ap₂, subst, ◌≡◌, ◌∙◌, ℤ, ◌*ℤ◌, w64, SFits}
use Rattle.std.specs.Int.{int_min, int_max}
use Rattle.tube_spec.specs.Span.{Span, IsProper, scale_of}
use Rattle.tube_spec.proofs.Spans.{same_span}
use Rattle.int_interval.proofs.Images.{scale-image, image-same}
use Rattle.int_interval.proofs.Products.{product_read, left_fits, right_fits}
use Rattle.int_interval.proofs.Interval.scale.Goals as goal

pub between-requires : goal.between-requires
between-requires c =
    let a : c.self.inside.lo ≡ c.args.self.lo = ap (λ (s : Span). s.lo) c.self.view_is in
    let b : c.self.inside.hi ≡ c.args.self.hi = ap (λ (s : Span). s.hi) c.self.view_is in
    let fl : SFits w64 c.self.inside.lo = search rules in
    let fh : SFits w64 c.self.inside.hi = search rules in
    let el = product_read c.args.factor c.self.inside.lo c.args.self.lo c.ranges.factor fl a (left_fits _ _ c.requires) in
    let eh = product_read c.args.factor c.self.inside.hi c.args.self.hi c.ranges.factor fh b (right_fits _ _ c.requires) in
    rw (el, eh) c.requires

pub returns-clause-value : goal.returns-clause-value
returns-clause-value c =
    let a : c.self.inside.lo ≡ c.args.self.lo = ap (λ (s : Span). s.lo) c.self.view_is in
    let b : c.self.inside.hi ≡ c.args.self.hi = ap (λ (s : Span). s.hi) c.self.view_is in
    let fl : SFits w64 c.self.inside.lo = search rules in
    let fh : SFits w64 c.self.inside.hi = search rules in
    let el = product_read c.args.factor c.self.inside.lo c.args.self.lo c.ranges.factor fl a (left_fits _ _ c.requires) in
    let eh = product_read c.args.factor c.self.inside.hi c.args.self.hi c.ranges.factor fh b (right_fits _ _ c.requires) in
    c.between.ensures ∙ same_span _ _ (ap₂ int_min el eh) (ap₂ int_max el eh)

pub returns-clause-image : goal.returns-clause-image
returns-clause-image c = image-same (λ (p : ℤ). c.args.factor *ℤ p) c.args.self _ (scale_of c.args.factor c.args.self) (returns-clause-value c) (scale-image c.args.factor c.args.self (subst IsProper c.self.view_is c.self.invariant.0))
