use Rattle.std.proofs.Common.{◌<◌, List, [], ◌∷◌, ◌++◌, arith, ap, sym, subst, ◌∙◌, length, take}
use Rattle.mission_items.specs.declared.item.Item.{Item}
use Rattle.mission_items.proofs.Making.{length-variable_ranges}
use Rattle.mission_net.specs.Tables.{IsTableOf}
use Rattle.mission_net.proofs.Building.{first-variables, next-longer, next-taken}
use Rattle.mission_net.proofs.missions.table_of.Goals as goal

pub add-requires-clause-before : goal.add-requires-clause-before
add-requires-clause-before c = subst (λ (l : List Item). IsTableOf c.loop-i.table (take c.loop-i.i l)) (sym c.as_slice-items.ensures) c.loop-i.invariant

pub add-requires-clause-taken : goal.add-requires-clause-taken
add-requires-clause-taken c =
    let m = c.args.mission.now in
    let inside : c.loop-i.i < length m.items = omega (arith, c.loop-i-test.true, c.requires.within) in
    next-taken m c.requires.mission c.loop-i.i c.index-items-i.result c.as_slice-items.result.now c.as_slice-items.ensures c.index-items-i.is inside

pub add-requires-clause-few : goal.add-requires-clause-few
add-requires-clause-few c =
    let m = c.args.mission.now in
    let e = ap length c.loop-i.invariant.variables ∙ length-variable_ranges (take c.loop-i.i m.items) in
    omega (arith, e, first-variables m c.requires.mission c.loop-i.i)

pub loop-i-preserved : goal.loop-i-preserved
loop-i-preserved c =
    let m = c.args.mission.now in
    let i = c.loop-i.i in
    let x = c.index-items-i.result in
    let items = c.as_slice-items.result.now in
    let inside : i < length m.items = omega (arith, c.loop-i-test.true, c.requires.within) in
    subst (IsTableOf c.add.new.self) (sym (next-longer m c.requires.mission i x items c.as_slice-items.ensures c.index-items-i.is inside))
    (subst (λ (l : List Item). IsTableOf c.add.new.self (take i l ++ x ∷ [])) c.as_slice-items.ensures c.in_ok-add.ensures)
