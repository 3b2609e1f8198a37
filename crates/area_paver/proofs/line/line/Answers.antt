use Rattle.std.proofs.Common.{◌≡◌, ◌↔◌, ◌⊎◌, inl, inr, ℕ, ◌+◌, ◌*◌, ◌<◌, ◌≤◌, ℤ, pos, ◌+ℤ◌, ◌-ℤ◌, ◌*ℤ◌, ◌≤ℤ◌, List, Bool, true, length, arith, refl, sym, subst, ap, rules, w64, SFits, to_z, of_z, ◌∙◌}
use Rattle.std.proofs.lemmas.Int.{ints, clamps, to_z-of_z}
use Rattle.std.proofs.Common.{get_or}
use Rattle.area_paver.specs.Lattice.{coordinate}
use Rattle.area_paver.specs.Survey.{Survey, IsMark, may_see, must_see}
use Rattle.area_paver.specs.Runs.{Covers}
use Rattle.area_paver.specs.declared.chart.Mark.TheVariants.{Open}
use Rattle.area_paver.proofs.Marking.{by-mark}
use Rattle.area_paver.proofs.line.line.Goals as goal

pub returns-clause-marks : goal.returns-clause-marks
returns-clause-marks c =
    let v : Survey = record { xs = c.args.xs.now; ys = c.args.ys.now; radius = c.args.sensor.radius; norm = c.args.sensor.norm } in
    let q : ℤ = to_z w64 (of_z w64 c.args.q) in
    let sure = subst (λ (ends : List ℕ). Covers ends c.args.axis.count (length c.args.xs.now) (λ k i. must_see v k (coordinate c.args.axis i) q)) (sym c.deref.ensures.value) c.in_ok-sure.ensures.runs in
    let possible = subst (λ (ends : List ℕ). Covers ends c.args.axis.count (length c.args.xs.now) (λ k i. may_see v k (coordinate c.args.axis i) q)) (sym c.deref-2.ensures.value) c.in_ok-possible.ensures.runs in
    λ i l.
    subst (λ (z : ℤ). IsMark v (coordinate c.args.axis i) z (get_or c.in_ok-marks.marks.items i Open)) (to_z-of_z w64 c.args.q c.ranges.q)
    (by-mark v c.args.axis q c.deref.result.now c.deref-2.result.now i _ l sure possible (c.in_ok-marks.ensures.marks i (omega (arith, l, ap (length {A = ℕ}) c.deref.ensures.value, c.in_ok-sure.ensures.len))))
