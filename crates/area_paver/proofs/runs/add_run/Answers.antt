use Rattle.std.proofs.Common.{◌≡◌, ◌↔◌, ◌⊎◌, inl, inr, ℕ, ◌+◌, ◌*◌, ◌<◌, ◌≤◌, ℤ, pos, ◌+ℤ◌, ◌-ℤ◌, ◌*ℤ◌, ◌≤ℤ◌, List, Bool, true, length, arith, refl, sym, subst, ap, rules, w64, SFits, to_z, of_z, ◌∙◌}
use Rattle.std.proofs.lemmas.Int.{ints, clamps, to_z-of_z}
use Rattle.area_paver.proofs.Marking.{added, run-of}
use Rattle.area_paver.proofs.runs.add_run.Goals as goal

pub returns : goal.returns
returns c =
    let sf : SFits w64 c.args.axis.first = search rules in
    let ss : SFits w64 c.args.axis.step = search rules in
    let ef = to_z-of_z w64 c.args.axis.first sf in
    let es = to_z-of_z w64 c.args.axis.step ss in
    let eh = to_z-of_z w64 c.args.high c.ranges.high in
    λ k l.
    let before = rw (ef, es) at (c.count_to-start.ensures.points k) in
    let upto = rw (ef, es, eh) at (c.count_to-stop.ensures.points k) in
    added (c.extend.ensures k) (run-of c.args.axis c.args.low c.args.high _ c.count_to-start.result c.count_to-stop.result _ k l (omega (arith, ints)) before upto (omega arith))
