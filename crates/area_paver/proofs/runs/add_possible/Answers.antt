use Rattle.std.proofs.Common.{◌≡◌, ◌↔◌, ◌⊎◌, inl, inr, ℕ, ◌+◌, ◌*◌, ◌<◌, ◌≤◌, ℤ, pos, ◌+ℤ◌, ◌-ℤ◌, ◌*ℤ◌, ◌≤ℤ◌, List, Bool, true, length, arith, refl, sym, subst, ap, rules, w64, SFits, to_z, of_z, ◌∙◌}
use Rattle.std.proofs.lemmas.Int.{ints, clamps, to_z-of_z}
use Rattle.tube_spec.specs.Span.{point, sub_of}
use Rattle.hull_tree.specs.Plane.{least_abs}
use Rattle.area_paver.proofs.Marking.{far-add, may-add}
use Rattle.area_paver.proofs.runs.add_possible.Goals as goal

pub returns-in-Some : goal.returns-in-Some
returns-in-Some c =
    let e = to_z-of_z w64 c.args.q c.ranges.q in
    λ k l. may-add c.args.sensor.norm c.args.sensor.radius _ _ c.args.x _ c.in-Some.reach _ _ (c.least_offset.ensures ∙ ap (λ (z : ℤ). least_abs (sub_of c.args.y (point z))) e) c.in-Some.ensures.low
    (omega (arith, ints, c.in-Some.ensures.low, c.in-Some.ensures.high)) (omega (arith, ints, c.in-Some.ensures.low, c.in-Some.ensures.high)) c.in-Some.ensures.reach (c.add_run.ensures k l)

pub returns-in_default : goal.returns-in_default
returns-in_default c =
    let e = to_z-of_z w64 c.args.q c.ranges.q in
    λ k l. far-add c.args.sensor.norm c.args.sensor.radius _ _ _ (c.least_offset.ensures ∙ ap (λ (z : ℤ). least_abs (sub_of c.args.y (point z))) e) c.in_default.ensures.reach
