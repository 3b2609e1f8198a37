use Rattle.std.proofs.Common.{rules, ap₂, arith, ◌≡◌, ◌∙◌, ℤ, pos, ◌*ℤ◌, ◌≤ℤ◌, w64, SFits}
use Rattle.std.specs.Int.{int_div_euclid}
use Rattle.std.proofs.lemmas.Int.{ints, to_z-of_z}
use Rattle.int_interval.proofs.Sets.{set-same, set-all, set-empty}
use Rattle.int_interval.proofs.Division.{at-most-positive, at-most-negative, product-zero}
use Rattle.int_interval.proofs.Interval.times_at_most.Goals as goal

pub returns-then-factor-gt0 : goal.returns-then-factor-gt0
returns-then-factor-gt0 c =
    let fm = to_z-of_z w64 c.args.most c.ranges.most in
    let fk = to_z-of_z w64 c.args.factor c.ranges.factor in
    let f : SFits w64 c.div_euclid.result = search rules in
    let solved = λ (p : ℤ). at-most-positive c.args.most p c.args.factor c.div_euclid.result (omega (arith, ints)) (c.div_euclid.ensures ∙ ap₂ int_div_euclid fm fk) in
    set-same _ _ _ (λ p h. (h.0, (solved p).1 (omega (arith, ints, h.1)))) (λ p h. let k = (solved p).0 h.1 in (h.0, omega (arith, ints, k))) c.members_up_to.ensures

pub returns-then-factor-lt0 : goal.returns-then-factor-lt0
returns-then-factor-lt0 c =
    let fm = to_z-of_z w64 c.args.most c.ranges.most in
    let fk = to_z-of_z w64 c.args.factor c.ranges.factor in
    let f : SFits w64 c.div_euclid-then-factor-lt0.result = search rules in
    let solved = λ (p : ℤ). at-most-negative c.args.most p c.args.factor c.div_euclid-then-factor-lt0.result (omega (arith, ints)) (c.div_euclid-then-factor-lt0.ensures ∙ ap₂ int_div_euclid fm fk) in
    set-same _ _ _ (λ p h. (h.0, (solved p).1 (omega (arith, ints, h.1)))) (λ p h. let k = (solved p).0 h.1 in (h.0, omega (arith, ints, k))) c.members_from.ensures

pub returns-then-most-ge0 : goal.returns-then-most-ge0
returns-then-most-ge0 c =
    let zero : c.args.factor ≡ pos 0 = omega (arith, ints) in
    set-all (λ p. (p *ℤ c.args.factor) ≤ℤ c.args.most) c.args.self c.known.ensures.proper (λ p h. omega (arith, ints, product-zero p c.args.factor zero))

pub returns-else-most-ge0 : goal.returns-else-most-ge0
returns-else-most-ge0 c =
    let zero : c.args.factor ≡ pos 0 = omega (arith, ints) in
    set-empty _ (λ p h. absurd (omega (arith, ints, product-zero p c.args.factor zero, h.1)))
