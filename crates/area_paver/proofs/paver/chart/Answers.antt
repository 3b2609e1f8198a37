use Rattle.std.proofs.Common.{◌≡◌, ◌↔◌, ◌⊎◌, inl, inr, ℕ, ◌+◌, ◌*◌, ◌<◌, ◌≤◌, ℤ, pos, ◌+ℤ◌, ◌-ℤ◌, ◌*ℤ◌, ◌≤ℤ◌, List, Bool, true, length, arith, refl, sym, subst, ap, rules, w64, SFits, to_z, of_z, ◌∙◌}
use Rattle.std.proofs.lemmas.Int.{ints, clamps, to_z-of_z}
use Rattle.std.specs.Option.{IfSome}
use Rattle.tube_spec.specs.Span.{Span}
use Rattle.hull_tree.specs.Plane.{tube_of}
use Rattle.area_paver.proofs.Sight.{natural-is}
use Rattle.area_paver.proofs.Marking.{chart-told}
use Rattle.area_paver.proofs.paver.chart.Goals as goal

pub invariant_of-result : goal.invariant_of-result
invariant_of-result c = record { columns = c.requires.columns; rows = c.requires.rows; narrow = c.requires.narrow; low = c.requires.low; lines = c.in_ok-lines.ensures.len }

pub returns : goal.returns
returns c =
    let xs = subst (λ (l : List Span). IfSome c.args.store.now.box (λ box. l ≡ tube_of c.args.store.now.shape box c.args.q.now.x.0)) (sym c.deref.ensures.value) c.in_ok-xs.ensures.tube in
    let ys = subst (λ (l : List Span). IfSome c.args.store.now.box (λ box. l ≡ tube_of c.args.store.now.shape box c.args.q.now.y.0)) (sym c.deref-2.ensures.value) c.in_ok-ys.ensures.tube in
    chart-told c.args.store.now.box c.args.store.now.shape c.args.q.now c.deref.result.now c.deref-2.result.now _ c.args.columns c.args.rows _ xs ys (natural-is c.args.q.now.radius _ c.requires.asked.radius.least (omega (arith, ints))) refl refl c.in_ok-lines.ensures.marks
