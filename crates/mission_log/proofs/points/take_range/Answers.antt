use Rattle.std.proofs.Common.{◌≡◌, ◌∙◌, ap, ap₂, subst, sym, arith, List, true, length, take, drop, ◌++◌}
use Rattle.std.proofs.lemmas.Int.{ints}
use Rattle.log_fields.specs.declared.fault.Cause.TheVariants as cause
use Rattle.tube_store.specs.declared.VarId.{VarId}
use Rattle.mission_items.specs.Names.{are_distinct}
use Rattle.mission_items.specs.Valid.{AreVariables, IsPoint}
use Rattle.mission_log.proofs.Right.{four, unless_passed}
use Rattle.mission_log.proofs.points.take_range.Goals as goal

pub push-requires-clause-right : goal.push-requires-clause-right
push-requires-clause-right c =
    let d = c.args.draft.now in
    let vs = c.in_ok-vs.vs.items in
    let front : c.first_two.result ≡ take 2 vs = c.first_two.ensures ∙ ap (take 2) c.deref-2.ensures.value in
    let back : c.last_two.result ≡ drop 2 vs = c.last_two.ensures ∙ ap (drop 2) c.deref-3.ensures.value in
    let distinct : are_distinct vs ≡ true = ap are_distinct (sym c.deref-4.ensures.value) ∙ (sym c.are_distinct.ensures ∙ unless_passed c.are_distinct.result cause.Same c.in_ok-ensure.field-0 c.in_ok-ensure.ensures) in
    let size : length vs ≡ 4 = omega (arith, c.in_ok-vs.ensures.len, c.in_ok-found.ensures.len, c.deref.ensures.len) in
    let parts = four vs size in
    let w = c.in-Ok.ensures.within in
    let whole : c.first_two.result ++ c.last_two.result ≡ vs = ap₂ (λ (a b : List VarId). a ++ b) front back ∙ parts.0 in
    let named : AreVariables d.items (c.first_two.result ++ c.last_two.result) = subst (AreVariables d.items) (sym whole) (c.in_ok-vs.ensures.named, distinct) in (
      (omega (arith, ints, w.from_zero, w.in_order, w.bounded), omega (arith, ints, w.from_zero, w.in_order, w.bounded), omega (arith, ints, w.from_zero, w.in_order, w.bounded)),
      named,
      subst (λ (p : List VarId). IsPoint 2 p) (sym front) parts.1,
      subst (λ (p : List VarId). IsPoint 2 p) (sym back) parts.2,
    )
