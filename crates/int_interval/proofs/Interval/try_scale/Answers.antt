use Rattle.std.proofs.Common.{rules, refl, ap, subst, arith, ◌≡◌, ◌↔◌, ℤ, ◌*ℤ◌, w64, IsSome, IfSome, SFits}
use Rattle.std.proofs.lemmas.Int.{ints, clamps}
use Rattle.tube_spec.specs.Span.{Span, IsProper, IsBounded, scale_of}
use Rattle.int_interval.proofs.Images.{some-image, scale-image}
use Rattle.int_interval.proofs.Products.{read_product, read_bounds, exists-bounded}
use Rattle.int_interval.proofs.Interval.try_scale.Goals as goal

pub returns-clause-value : goal.returns-clause-value
returns-clause-value c =
    let a : c.self.inside.lo ≡ c.args.self.lo = ap (λ (s : Span). s.lo) c.self.view_is in
    let b : c.self.inside.hi ≡ c.args.self.hi = ap (λ (s : Span). s.hi) c.self.view_is in
    let fl : SFits w64 c.self.inside.lo = search rules in
    let fh : SFits w64 c.self.inside.hi = search rules in
    let gl : SFits w64 c.in_ok-low.low = search rules in
    let gh : SFits w64 c.in_ok-high.high = search rules in
    let gm : SFits w64 c.min.result = search rules in
    let gx : SFits w64 c.max.result = search rules in
    let el = read_product c.args.factor c.self.inside.lo c.args.factor c.args.self.lo c.in_ok-low.low c.ranges.factor fl refl a c.in_ok-low.ensures.1 in
    let eh = read_product c.args.factor c.self.inside.hi c.args.factor c.args.self.hi c.in_ok-high.high c.ranges.factor fh refl b c.in_ok-high.ensures.1 in
    let e = read_bounds c.in_ok-low.low c.in_ok-high.high (c.args.factor *ℤ c.args.self.lo) (c.args.factor *ℤ c.args.self.hi) c.min.result c.max.result gl gh gm gx el eh c.min.ensures.value c.max.ensures.value in
    subst (λ (s : Span). IfSome c.new.result (λ r. r ≡ s)) e c.new.ensures.value

pub returns-clause-exists : goal.returns-clause-exists
returns-clause-exists c =
    let a : c.self.inside.lo ≡ c.args.self.lo = ap (λ (s : Span). s.lo) c.self.view_is in
    let b : c.self.inside.hi ≡ c.args.self.hi = ap (λ (s : Span). s.hi) c.self.view_is in
    let fl : SFits w64 c.self.inside.lo = search rules in
    let fh : SFits w64 c.self.inside.hi = search rules in
    let gl : SFits w64 c.in_ok-low.low = search rules in
    let gh : SFits w64 c.in_ok-high.high = search rules in
    let gm : SFits w64 c.min.result = search rules in
    let gx : SFits w64 c.max.result = search rules in
    let el = read_product c.args.factor c.self.inside.lo c.args.factor c.args.self.lo c.in_ok-low.low c.ranges.factor fl refl a c.in_ok-low.ensures.1 in
    let eh = read_product c.args.factor c.self.inside.hi c.args.factor c.args.self.hi c.in_ok-high.high c.ranges.factor fh refl b c.in_ok-high.ensures.1 in
    let e = read_bounds c.in_ok-low.low c.in_ok-high.high (c.args.factor *ℤ c.args.self.lo) (c.args.factor *ℤ c.args.self.hi) c.min.result c.max.result gl gh gm gx el eh c.min.ensures.value c.max.ensures.value in
    exists-bounded _ (scale_of c.args.factor c.args.self) (omega (arith, ints, clamps)) (subst (λ (s : Span). IsSome c.new.result ↔ (IsProper s × IsBounded 4000000000000000000 s)) e c.new.ensures.exists)

pub returns-clause-image : goal.returns-clause-image
returns-clause-image c = some-image (λ (p : ℤ). c.args.factor *ℤ p) c.args.self (scale_of c.args.factor c.args.self) c.new.result (scale-image c.args.factor c.args.self (subst IsProper c.self.view_is c.self.invariant.0)) (returns-clause-value c)
