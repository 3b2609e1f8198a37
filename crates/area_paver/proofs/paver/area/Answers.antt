use Rattle.std.proofs.Common.{◌≡◌, ◌↔◌, ◌⊎◌, inl, inr, ℕ, ◌+◌, ◌*◌, ◌<◌, ◌≤◌, ℤ, pos, ◌+ℤ◌, ◌-ℤ◌, ◌*ℤ◌, ◌≤ℤ◌, List, Bool, true, length, arith, refl, sym, subst, ap, rules, w64, SFits, to_z, of_z, ◌∙◌}
use Rattle.std.proofs.lemmas.Int.{ints, clamps, to_z-of_z}
use Rattle.area_paver.specs.declared.chart.AreaFault.TheVariants.{Crowded}
use Rattle.std.specs.Result.{IsErrOf}
use Rattle.area_paver.proofs.Axes.{axis-narrow}
use Rattle.area_paver.proofs.Marking.{points-told, over-told}
use Rattle.area_paver.proofs.paver.area.Goals as goal

pub chart-requires-clause-narrow : goal.chart-requires-clause-narrow
chart-requires-clause-narrow c = axis-narrow c.axis_of-columns.result c.axis_of-rows.result c.axis_of-columns.ensures.small (omega arith) (λ e. c.axis_of-rows.ensures.dense (omega (arith, ints, e)))

pub chart-requires-clause-low : goal.chart-requires-clause-low
chart-requires-clause-low c = axis-narrow c.axis_of-rows.result c.axis_of-columns.result c.axis_of-rows.ensures.small (omega arith) (λ e. c.axis_of-columns.ensures.dense (omega (arith, ints, e)))

pub returns-in-Ok-clause-chart : goal.returns-in-Ok-clause-chart
returns-in-Ok-clause-chart c =
    let small : SFits w64 c.args.q.now.radius = search rules in
    let er = to_z-of_z w64 c.args.q.now.radius small in
    let es = to_z-of_z w64 c.args.step c.ranges.step in
    let columns = rw (es, er) at c.axis_of-columns.ensures.axis in
    let rows = rw (es, er) at c.axis_of-rows.ensures.axis in
    over-told c.args.store.now.box c.args.store.now.shape c.args.q.now c.args.step c.axis_of-columns.result c.axis_of-rows.result _ columns rows c.in-Ok.ensures

pub returns-in-Ok-clause-crowded : goal.returns-in-Ok-clause-crowded
returns-in-Ok-clause-crowded c =
    let small : SFits w64 c.args.q.now.radius = search rules in
    let er = to_z-of_z w64 c.args.q.now.radius small in
    let es = to_z-of_z w64 c.args.step c.ranges.step in
    let columns = rw (es, er) at c.axis_of-columns.ensures.axis in
    let rows = rw (es, er) at c.axis_of-rows.ensures.axis in
    points-told c.args.store.now.box c.args.store.now.shape c.args.q.now c.args.step c.axis_of-columns.result c.axis_of-rows.result _ columns rows (λ e. absurd (cc), λ l. absurd (omega (arith, l)))
