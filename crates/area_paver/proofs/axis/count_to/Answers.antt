use Rattle.std.proofs.Common.{◌≡◌, ◌↔◌, ◌⊎◌, inl, inr, ℕ, ◌+◌, ◌*◌, ◌<◌, ◌≤◌, ℤ, pos, ◌+ℤ◌, ◌-ℤ◌, ◌*ℤ◌, ◌≤ℤ◌, List, arith, refl, sym, subst, ap, rules, w64, ◌∙◌}
use Rattle.std.proofs.lemmas.Int.{ints, clamps, to_z-of_z}
use Rattle.area_paver.specs.Lattice.{count_to}
use Rattle.area_paver.proofs.Axes.{count-points}
use Rattle.area_paver.proofs.axis.count_to.Goals as goal

pub returns-clause-points : goal.returns-clause-points
returns-clause-points c =
    let ff = to_z-of_z w64 c.args.first c.ranges.first in
    let fs = to_z-of_z w64 c.args.step c.ranges.step in
    let fh = to_z-of_z w64 c.args.high c.ranges.high in
    let e : c.count_by.result ≡ count_to c.args.first c.args.step c.args.high = cc (c.count_by.ensures.count, ff, fs, fh) in
    λ k. subst (λ (n : ℕ). (k < n) ↔ ((c.args.first +ℤ (pos k *ℤ c.args.step)) ≤ℤ c.args.high)) (sym e) (count-points c.args.first c.args.step c.args.high c.requires.step k)
