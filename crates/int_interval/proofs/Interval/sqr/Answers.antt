use Rattle.std.proofs.Common.{rules, refl, sym, ap, subst, ◌≡◌, ◌∙◌, ◌↔◌, ℤ, ◌*ℤ◌, w64, IsSome, IfSome, SFits, of_z, to_z}
use Rattle.std.proofs.lemmas.Int.{to_z-of_z}
use Rattle.tube_spec.specs.Span.{Span, IsProper, IsBounded}
use Rattle.tube_spec.proofs.Spans.{same_span}
use Rattle.int_interval.specs.Image.{abs_of, sqr_of}
use Rattle.int_interval.proofs.Images.{sqr-image, abs-proper, sqr-proper, some-image}
use Rattle.int_interval.proofs.Products.{read_product, exists-bounded, none-exists, ends_fit}
use Rattle.int_interval.proofs.Interval.sqr.Goals as goal

pub returns-clause-value : goal.returns-clause-value
returns-clause-value c =
    let inside : IsProper (abs_of c.args.self) = subst IsProper (c.size.view_is ∙ c.abs-size.ensures.value) c.size.invariant.0 in
    let fl : SFits w64 c.size.inside.lo = search rules in
    let a : c.size.inside.lo ≡ (abs_of c.args.self).lo = ap (λ (s : Span). s.lo) (c.size.view_is ∙ c.abs-size.ensures.value) in
    let fh : SFits w64 c.size.inside.hi = search rules in
    let b : c.size.inside.hi ≡ (abs_of c.args.self).hi = ap (λ (s : Span). s.hi) (c.size.view_is ∙ c.abs-size.ensures.value) in
    let gl : SFits w64 c.in_ok-lo.lo = search rules in
    let gh : SFits w64 c.in_ok-hi.hi = search rules in
    let el = read_product c.size.inside.lo c.size.inside.lo (abs_of c.args.self).lo (abs_of c.args.self).lo c.in_ok-lo.lo fl fl a a c.in_ok-lo.ensures.1 in
    let eh = read_product c.size.inside.hi c.size.inside.hi (abs_of c.args.self).hi (abs_of c.args.self).hi c.in_ok-hi.hi fh fh b b c.in_ok-hi.ensures.1 in
    let e : ◌≡◌ {A = Span} (record { lo = to_z w64 (of_z w64 c.in_ok-lo.lo); hi = to_z w64 (of_z w64 c.in_ok-hi.hi) }) (sqr_of c.args.self) = same_span _ _ (to_z-of_z w64 c.in_ok-lo.lo gl ∙ el) (to_z-of_z w64 c.in_ok-hi.hi gh ∙ eh) in
    subst (λ (s : Span). IfSome c.new.result (λ r. r ≡ s)) e c.new.ensures.value

pub returns-clause-exists : goal.returns-clause-exists
returns-clause-exists c =
    let inside : IsProper (abs_of c.args.self) = subst IsProper (c.size.view_is ∙ c.abs-size.ensures.value) c.size.invariant.0 in
    let fl : SFits w64 c.size.inside.lo = search rules in
    let a : c.size.inside.lo ≡ (abs_of c.args.self).lo = ap (λ (s : Span). s.lo) (c.size.view_is ∙ c.abs-size.ensures.value) in
    let fh : SFits w64 c.size.inside.hi = search rules in
    let b : c.size.inside.hi ≡ (abs_of c.args.self).hi = ap (λ (s : Span). s.hi) (c.size.view_is ∙ c.abs-size.ensures.value) in
    let gl : SFits w64 c.in_ok-lo.lo = search rules in
    let gh : SFits w64 c.in_ok-hi.hi = search rules in
    let el = read_product c.size.inside.lo c.size.inside.lo (abs_of c.args.self).lo (abs_of c.args.self).lo c.in_ok-lo.lo fl fl a a c.in_ok-lo.ensures.1 in
    let eh = read_product c.size.inside.hi c.size.inside.hi (abs_of c.args.self).hi (abs_of c.args.self).hi c.in_ok-hi.hi fh fh b b c.in_ok-hi.ensures.1 in
    let e : ◌≡◌ {A = Span} (record { lo = to_z w64 (of_z w64 c.in_ok-lo.lo); hi = to_z w64 (of_z w64 c.in_ok-hi.hi) }) (sqr_of c.args.self) = same_span _ _ (to_z-of_z w64 c.in_ok-lo.lo gl ∙ el) (to_z-of_z w64 c.in_ok-hi.hi gh ∙ eh) in
    exists-bounded _ (sqr_of c.args.self) (sqr-proper c.args.self inside) (subst (λ (s : Span). IsSome c.new.result ↔ (IsProper s × IsBounded 4000000000000000000 s)) e c.new.ensures.exists)

pub returns-clause-image : goal.returns-clause-image
returns-clause-image c =
    let inside : IsProper (abs_of c.args.self) = subst IsProper (c.size.view_is ∙ c.abs-size.ensures.value) c.size.invariant.0 in
    some-image (λ (p : ℤ). p *ℤ p) c.args.self (sqr_of c.args.self) c.new.result (sqr-image c.args.self (abs-proper c.args.self inside)) (returns-clause-value c)

pub returns-in_err-lo-clause-exists : goal.returns-in_err-lo-clause-exists
returns-in_err-lo-clause-exists c =
    let inside : IsProper (abs_of c.args.self) = subst IsProper (c.size.view_is ∙ c.abs-size.ensures.value) c.size.invariant.0 in
    let fl : SFits w64 c.size.inside.lo = search rules in
    let a : c.size.inside.lo ≡ (abs_of c.args.self).lo = ap (λ (s : Span). s.lo) (c.size.view_is ∙ c.abs-size.ensures.value) in
    none-exists _ _ c.from_residual.ensures (λ k.
    c.in_err-lo.ensures (subst (SFits w64) (sym (read_product c.size.inside.lo c.size.inside.lo (abs_of c.args.self).lo (abs_of c.args.self).lo _ fl fl a a refl)) (ends_fit (sqr_of c.args.self) (sqr-proper c.args.self inside) k).0))

pub returns-in_err-hi-clause-exists : goal.returns-in_err-hi-clause-exists
returns-in_err-hi-clause-exists c =
    let inside : IsProper (abs_of c.args.self) = subst IsProper (c.size.view_is ∙ c.abs-size.ensures.value) c.size.invariant.0 in
    let fl : SFits w64 c.size.inside.lo = search rules in
    let a : c.size.inside.lo ≡ (abs_of c.args.self).lo = ap (λ (s : Span). s.lo) (c.size.view_is ∙ c.abs-size.ensures.value) in
    let fh : SFits w64 c.size.inside.hi = search rules in
    let b : c.size.inside.hi ≡ (abs_of c.args.self).hi = ap (λ (s : Span). s.hi) (c.size.view_is ∙ c.abs-size.ensures.value) in
    none-exists _ _ c.from_residual-in_err-hi.ensures (λ k.
    c.in_err-hi.ensures (subst (SFits w64) (sym (read_product c.size.inside.hi c.size.inside.hi (abs_of c.args.self).hi (abs_of c.args.self).hi _ fh fh b b refl)) (ends_fit (sqr_of c.args.self) (sqr-proper c.args.self inside) k).1))
