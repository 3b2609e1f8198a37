use Rattle.std.proofs.Common.{◌≡◌, ◌↔◌, ◌⊎◌, inl, inr, ℕ, ◌+◌, ◌*◌, ◌<◌, ◌≤◌, ℤ, pos, ◌+ℤ◌, ◌-ℤ◌, ◌*ℤ◌, ◌≤ℤ◌, List, Bool, true, length, arith, refl, sym, subst, ap, rules, w64, SFits, to_z, of_z, ◌∙◌}
use Rattle.std.proofs.lemmas.Int.{ints, clamps, to_z-of_z}
use Rattle.area_paver.specs.Lattice.{count_to}
use Rattle.area_paver.proofs.Axes.{same-axis}
use Rattle.area_paver.proofs.axis.Axis.new.Goals as goal

pub returns : goal.returns
returns c =
    let fs = to_z-of_z w64 c.args.step c.ranges.step in
    let fl = to_z-of_z w64 c.args.low c.ranges.low in
    let fh = to_z-of_z w64 c.args.high c.ranges.high in
    let small : SFits w64 c.multiple_from-first.result = search rules in
    let ff = to_z-of_z w64 c.multiple_from-first.result small in
    let first = rw (fs, fl) at c.multiple_from-first.ensures.value in
    let count = rw (ff, fs, fh) at c.count_to.ensures.count in
    same-axis _ _ (ff ∙ first) fs (count ∙ ap (λ (z : ℤ). count_to z c.args.step c.args.high) first)
