use Rattle.std.proofs.Common.{◌≡◌, ◌↔◌, ◌⊎◌, inl, inr, ℕ, ◌+◌, ◌*◌, ◌<◌, ◌≤◌, ℤ, pos, ◌+ℤ◌, ◌-ℤ◌, ◌*ℤ◌, neg_ℤ, ◌≤ℤ◌, List, Bool, true, length, arith, refl, sym, subst, ap, rules, w64, SFits, to_z, of_z, ◌∙◌}
use Rattle.std.proofs.lemmas.Int.{ints, clamps, to_z-of_z}
use Rattle.int_interval.proofs.Products.{bounded_fits}
use Rattle.area_paver.proofs.axis.times.Goals as goal

fits : (k : ℕ) (step : ℤ) → (pos k *ℤ step) ≤ℤ pos 8000000000 → neg_ℤ (pos 8000000000) ≤ℤ (pos k *ℤ step) → SFits w64 (pos k *ℤ step)
fits k step high low = bounded_fits (pos k *ℤ step) (record { low = omega (arith, ints, low); high = omega (arith, ints, high) })

pub overflow_mul-result : goal.overflow_mul-result
overflow_mul-result c =
    let e : to_z w64 c.args.k ≡ pos c.args.k = omega (arith, ints) in
    let f = to_z-of_z w64 c.args.step c.ranges.step in
    rw (e, f) (fits c.args.k c.args.step c.requires.product.high c.requires.product.low)

pub returns : goal.returns
returns c =
    let e : to_z w64 c.args.k ≡ pos c.args.k = omega (arith, ints) in
    let f = to_z-of_z w64 c.args.step c.ranges.step in
    rw (e, f) (to_z-of_z w64 (pos c.args.k *ℤ c.args.step) (fits c.args.k c.args.step c.requires.product.high c.requires.product.low))
