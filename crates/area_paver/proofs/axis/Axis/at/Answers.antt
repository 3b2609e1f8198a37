use Rattle.std.proofs.Common.{◌≡◌, ◌↔◌, ◌⊎◌, inl, inr, ℕ, ◌+◌, ◌*◌, ◌<◌, ◌≤◌, ℤ, pos, ◌+ℤ◌, ◌-ℤ◌, ◌*ℤ◌, ◌≤ℤ◌, List, Bool, true, length, arith, refl, sym, subst, ap, rules, w64, SFits, to_z, of_z, ◌∙◌}
use Rattle.std.proofs.lemmas.Int.{ints, clamps, to_z-of_z}
use Rattle.tube_spec.specs.Span.{IsBounded, point}
use Rattle.area_paver.proofs.Axes.{steps-small}
use Rattle.area_paver.proofs.axis.Axis.at.Goals as goal

pub times-requires-clause-k : goal.times-requires-clause-k
times-requires-clause-k c = let h = steps-small c.args.self c.args.k c.requires.axis c.requires.k in omega (arith, ints, h.0, h.1)

pub times-requires-clause-product : goal.times-requires-clause-product
times-requires-clause-product c =
    let f : SFits w64 c.args.self.step = search rules in
    let e = to_z-of_z w64 c.args.self.step f in
    let h = steps-small c.args.self c.args.k c.requires.axis c.requires.k in
    subst (λ (z : ℤ). IsBounded 8000000000 (point (pos c.args.k *ℤ z))) (sym e) (record { low = omega (arith, ints, h.0); high = omega (arith, ints, h.1) })

pub overflow_add-result : goal.overflow_add-result
overflow_add-result c =
    let f : SFits w64 c.args.self.step = search rules in
    let e = to_z-of_z w64 c.args.self.step f in
    let h = steps-small c.args.self c.args.k c.requires.axis c.requires.k in
    let t = rw e at c.times.ensures in
    omega (arith, ints, h.0, h.1, t, c.requires.axis.low, c.requires.axis.high)

pub returns-clause-value : goal.returns-clause-value
returns-clause-value c =
    let f : SFits w64 c.args.self.step = search rules in
    let e = to_z-of_z w64 c.args.self.step f in
    let h = steps-small c.args.self c.args.k c.requires.axis c.requires.k in
    let t = rw e at c.times.ensures in
    omega (arith, ints, h.0, h.1, t, c.requires.axis.low, c.requires.axis.high)

pub returns-clause-small : goal.returns-clause-small
returns-clause-small c =
    let f : SFits w64 c.args.self.step = search rules in
    let e = to_z-of_z w64 c.args.self.step f in
    let h = steps-small c.args.self c.args.k c.requires.axis c.requires.k in
    let t = rw e at c.times.ensures in
    let w = c.requires.axis.within c.args.k c.requires.k in
    record { low = omega (arith, ints, h.0, h.1, t, c.requires.axis.low, c.requires.axis.high); high = omega (arith, ints, h.0, h.1, w, t, c.requires.axis.low, c.requires.axis.high) }
