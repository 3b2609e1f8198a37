use Rattle.std.proofs.Common.{◌≡◌, ◌↔◌, ◌⊎◌, inl, inr, ℕ, ◌+◌, ◌*◌, ◌<◌, ◌≤◌, ℤ, pos, ◌+ℤ◌, ◌-ℤ◌, ◌*ℤ◌, ◌≤ℤ◌, List, Bool, true, length, arith, refl, sym, subst, ap, rules, w64, SFits, to_z, of_z, ◌∙◌}
use Rattle.std.proofs.lemmas.Int.{ints, clamps, to_z-of_z}
use Rattle.area_paver.specs.Lattice.{IsAxis}
use Rattle.area_paver.proofs.Axes.{axis-small, axis-dense}
use Rattle.area_paver.proofs.Marking.{axis-told}
use Rattle.area_paver.proofs.paver.axis_of.Goals as goal

pub returns-clause-axis : goal.returns-clause-axis
returns-clause-axis c =
    axis-told c.args.store.now.box c.args.store.now.shape c.args.signal.0 c.hull_of-hull.result _ _ c.args.radius c.args.step _ c.new.result c.hull_of-hull.ensures.hull (omega (arith, ints)) (omega (arith, ints)) (to_z-of_z w64 c.args.step c.ranges.step) c.new.ensures

pub returns-clause-small : goal.returns-clause-small
returns-clause-small c =
    subst IsAxis (sym c.new.ensures) (axis-small _ _ (record { low = omega (arith, ints); high = omega (arith, ints) }) (omega (arith, ints)) (omega (arith, ints)) (omega (arith, ints)))

pub returns-clause-dense : goal.returns-clause-dense
returns-clause-dense c = λ e. axis-dense c.new.result _ _ c.new.ensures (omega (arith, ints)) (omega (arith, ints, e))
