use Rattle.std.proofs.Common.{ap, subst, arith, ◌≡◌, w64, of_z, to_z}
use Rattle.std.proofs.lemmas.Int.{ints}
use Rattle.tube_spec.specs.Span.{Span, IsProper}
use Rattle.int_interval.proofs.Sets.{set-same, set-then}
use Rattle.int_interval.proofs.Reaches.{none-set, reaches-negative, negative-reaches, at-most-same, at-least-same}
use Rattle.int_interval.proofs.Interval.factors_to_zero.Goals as goal

pub returns-in_err-members_up_to : goal.returns-in_err-members_up_to
returns-in_err-members_up_to c = none-set _ _ _ c.from_residual.ensures (λ p h. (h.0.0, omega (arith, ints, h.0.1))) c.in_err-members_up_to.ensures

pub returns-in_err-times_at_most : goal.returns-in_err-times_at_most
returns-in_err-times_at_most c =
    let other_lo : c.other.inside.lo ≡ c.args.other.lo = ap (λ (s : Span). s.lo) c.other.view_is in
    let other_hi : c.other.inside.hi ≡ c.args.other.hi = ap (λ (s : Span). s.hi) c.other.view_is in
    let other_good : IsProper c.args.other = subst IsProper c.other.view_is c.other.invariant.0 in
    let product_lo : c.product.inside.lo ≡ c.args.product.lo = ap (λ (s : Span). s.lo) c.product.view_is in
    let product_hi : c.product.inside.hi ≡ c.args.product.hi = ap (λ (s : Span). s.hi) c.product.view_is in
    let product_good : IsProper c.args.product = subst IsProper c.product.view_is c.product.invariant.0 in
    let low : to_z w64 (of_z w64 c.other.inside.hi) ≡ c.args.other.hi = omega (arith, ints) in
    let high : to_z w64 (of_z w64 c.product.inside.hi) ≡ c.args.product.hi = omega (arith, ints) in
    none-set _ _ _ c.from_residual-in_err-times_at_most.ensures
    (λ p h. ((h.0.0, omega (arith, ints, h.0.1)), (at-most-same p c.args.other.hi c.args.product.hi _ _ low high).1 (negative-reaches c.args.other c.args.product p other_good h.0.1 h.1).0))
    (set-then _ _ _ _ c.in_ok-members_up_to.ensures c.in_err-times_at_most.ensures)

pub returns : goal.returns
returns c =
    let other_lo : c.other.inside.lo ≡ c.args.other.lo = ap (λ (s : Span). s.lo) c.other.view_is in
    let other_hi : c.other.inside.hi ≡ c.args.other.hi = ap (λ (s : Span). s.hi) c.other.view_is in
    let other_good : IsProper c.args.other = subst IsProper c.other.view_is c.other.invariant.0 in
    let product_lo : c.product.inside.lo ≡ c.args.product.lo = ap (λ (s : Span). s.lo) c.product.view_is in
    let product_hi : c.product.inside.hi ≡ c.args.product.hi = ap (λ (s : Span). s.hi) c.product.view_is in
    let product_good : IsProper c.args.product = subst IsProper c.product.view_is c.product.invariant.0 in
    let low : to_z w64 (of_z w64 c.other.inside.hi) ≡ c.args.other.hi = omega (arith, ints) in
    let high : to_z w64 (of_z w64 c.product.inside.hi) ≡ c.args.product.hi = omega (arith, ints) in
    let low2 : to_z w64 (of_z w64 c.other.inside.lo) ≡ c.args.other.lo = omega (arith, ints) in
    let high2 : to_z w64 (of_z w64 c.product.inside.lo) ≡ c.args.product.lo = omega (arith, ints) in
    set-same _ _ _
    (λ p h. (
      (h.0.0.0, omega (arith, ints, h.0.0.1)),
      reaches-negative c.args.other c.args.product p other_good product_good (omega (arith, ints, h.0.0.1))
          ((at-most-same p c.args.other.hi c.args.product.hi _ _ low high).0 h.0.1, (at-least-same p c.args.other.lo c.args.product.lo _ _ low2 high2).0 h.1),
    ))
    (λ p h. let k = negative-reaches c.args.other c.args.product p other_good h.0.1 h.1 in
    (((h.0.0, omega (arith, ints, h.0.1)), (at-most-same p c.args.other.hi c.args.product.hi _ _ low high).1 k.0), (at-least-same p c.args.other.lo c.args.product.lo _ _ low2 high2).1 k.1))
    (set-then _ _ _ _ (set-then _ _ _ _ c.in_ok-members_up_to.ensures c.in_ok-times_at_most.ensures) c.times_at_least.ensures)
