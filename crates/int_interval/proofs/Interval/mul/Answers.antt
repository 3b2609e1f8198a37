use Rattle.std.proofs.Common.{rules, refl, sym, ap, ap₂, subst, ◌≡◌, ◌∙◌, ℤ, ◌*ℤ◌, w64, SFits, of_z, to_z}
use Rattle.std.proofs.lemmas.Int.{to_z-of_z}
use Rattle.tube_spec.specs.Span.{Span, IsProper, IsBounded, join_of, scale_of}
use Rattle.int_interval.specs.Image.{mul_of}
use Rattle.int_interval.proofs.Images.{image-proper, mul-image, image_of_two-same}
use Rattle.int_interval.proofs.Products.{none-exists, some-exists, join-bounded, bounded-joined, scale-proper}
use Rattle.int_interval.proofs.Interval.mul.Goals as goal

pub returns-clause-value : goal.returns-clause-value
returns-clause-value c =
    let fl : SFits w64 c.self.inside.lo = search rules in
    let fh : SFits w64 c.self.inside.hi = search rules in
    let a : to_z w64 (of_z w64 c.self.inside.lo) ≡ c.args.self.lo = to_z-of_z w64 c.self.inside.lo fl ∙ ap (λ (s : Span). s.lo) c.self.view_is in
    let b : to_z w64 (of_z w64 c.self.inside.hi) ≡ c.args.self.hi = to_z-of_z w64 c.self.inside.hi fh ∙ ap (λ (s : Span). s.hi) c.self.view_is in
    c.hull.ensures.value ∙ ap₂ join_of (c.in_ok-least.ensures.value ∙ ap (λ k. scale_of k c.args.other) a) (c.in_ok-greatest.ensures.value ∙ ap (λ k. scale_of k c.args.other) b)

pub returns-clause-exists : goal.returns-clause-exists
returns-clause-exists c =
    let fl : SFits w64 c.self.inside.lo = search rules in
    let fh : SFits w64 c.self.inside.hi = search rules in
    let a : to_z w64 (of_z w64 c.self.inside.lo) ≡ c.args.self.lo = to_z-of_z w64 c.self.inside.lo fl ∙ ap (λ (s : Span). s.lo) c.self.view_is in
    let b : to_z w64 (of_z w64 c.self.inside.hi) ≡ c.args.self.hi = to_z-of_z w64 c.self.inside.hi fh ∙ ap (λ (s : Span). s.hi) c.self.view_is in
    let l : IsBounded 4000000000000000000 (scale_of c.args.self.lo c.args.other) = subst (λ k. IsBounded 4000000000000000000 (scale_of k c.args.other)) a (c.in_ok-least.ensures.exists.0 refl) in
    let h : IsBounded 4000000000000000000 (scale_of c.args.self.hi c.args.other) = subst (λ k. IsBounded 4000000000000000000 (scale_of k c.args.other)) b (c.in_ok-greatest.ensures.exists.0 refl) in
    some-exists _ c.hull.result (join-bounded (scale_of c.args.self.lo c.args.other) (scale_of c.args.self.hi c.args.other) l h)

pub returns-in_err-greatest-clause-exists : goal.returns-in_err-greatest-clause-exists
returns-in_err-greatest-clause-exists c =
    let fl : SFits w64 c.self.inside.lo = search rules in
    let fh : SFits w64 c.self.inside.hi = search rules in
    let a : to_z w64 (of_z w64 c.self.inside.lo) ≡ c.args.self.lo = to_z-of_z w64 c.self.inside.lo fl ∙ ap (λ (s : Span). s.lo) c.self.view_is in
    let b : to_z w64 (of_z w64 c.self.inside.hi) ≡ c.args.self.hi = to_z-of_z w64 c.self.inside.hi fh ∙ ap (λ (s : Span). s.hi) c.self.view_is in
    none-exists _ _ c.from_residual-in_err-greatest.ensures (λ k.
    let h = (bounded-joined (scale_of c.args.self.lo c.args.other) (scale_of c.args.self.hi c.args.other) k (scale-proper c.args.self.lo c.args.other) (scale-proper c.args.self.hi c.args.other)).1 in
    let some = c.in_err-greatest.ensures.exists.1 (subst (λ k. IsBounded 4000000000000000000 (scale_of k c.args.other)) (sym b) h) in
    absurd (cc))

pub returns-clause-image : goal.returns-clause-image
returns-clause-image c = image_of_two-same (λ (p q : ℤ). p *ℤ q) c.args.self c.args.other _ (mul_of c.args.self c.args.other) (returns-clause-value c) (mul-image c.args.self c.args.other (subst IsProper c.self.view_is c.self.invariant.0) (image-proper (λ (p : ℤ). to_z w64 (of_z w64 c.self.inside.lo) *ℤ p) c.args.other c.in_ok-least.least c.in_ok-least.ensures.image))
