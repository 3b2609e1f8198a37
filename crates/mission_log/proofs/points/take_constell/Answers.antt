use Rattle.std.proofs.Common.{◌≡◌, ◌∙◌, ap, subst, sym, arith, List, true, length, take}
use Rattle.log_fields.specs.declared.fault.Cause.TheVariants as cause
use Rattle.tube_store.specs.declared.VarId.{VarId}
use Rattle.mission_items.specs.Names.{are_distinct}
use Rattle.mission_items.specs.Valid.{IsRight}
use Rattle.mission_items.specs.declared.item.Item.TheVariants as item
use Rattle.mission_log.proofs.Right.{at_least_one, constell-right, unless_passed}
use Rattle.mission_log.proofs.points.take_constell.Goals as goal

pub push-requires-clause-right : goal.push-requires-clause-right
push-requires-clause-right c =
    let d = c.args.draft.now in
    let vs = c.in_ok-vs.vs.items in
    let pair : c.first_two.result ≡ take 2 vs = c.first_two.ensures ∙ ap (take 2) c.deref-2.ensures.value in
    let distinct : are_distinct vs ≡ true = ap are_distinct (sym c.deref-3.ensures.value) ∙ (sym c.are_distinct.ensures ∙ unless_passed c.are_distinct.result cause.Same c.in_ok-ensure-2.field-0 c.in_ok-ensure-2.ensures) in
    let size : length vs ≡ 2 = omega (arith, c.in_ok-vs.ensures.len, c.in_ok-found.ensures.len, c.deref.ensures.len) in
    let some = at_least_one c.beacons-beacons.result (unless_passed _ cause.NoBeacon c.in_ok-ensure.field-0 c.in_ok-ensure.ensures) in
    subst (λ (p : List VarId). IsRight d.version d.ticks d.items (item.Constell p)) (sym pair)
    (constell-right d.version d.ticks d.items vs c.in_ok-vs.ensures.named distinct size (omega (arith, some, c.beacons-beacons.ensures.value)))
