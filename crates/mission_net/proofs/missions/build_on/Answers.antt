use Rattle.std.proofs.Common.{◌<◌, List, [], ◌∷◌, ◌++◌, arith, sym, subst, length, take}
use Rattle.mission_items.specs.declared.item.Item.{Item}
use Rattle.mission_net.specs.Records.{made, contracts_of}
use Rattle.mission_net.specs.Tables.{IsTableOf}
use Rattle.mission_net.specs.Building.{CanBuild, IsAdded}
use Rattle.mission_net.proofs.Building.{built-more, next-can, next-longer, next-right}
use Rattle.mission_net.proofs.missions.build_on.Goals as goal

pub add_item-requires-clause-table : goal.add_item-requires-clause-table
add_item-requires-clause-table c = subst (λ (l : List Item). IsTableOf c.loop-i.table (take c.loop-i.i l)) (sym c.as_slice-items.ensures) c.loop-i.invariant.known

pub add_item-requires-clause-next : goal.add_item-requires-clause-next
add_item-requires-clause-next c =
    let m = c.args.mission.now in
    let is = c.requires.mission in
    let i = c.loop-i.i in
    let x = c.index-items-i.result in
    let items = c.as_slice-items.result.now in
    let inside : i < length m.items = omega (arith, c.loop-i-test.true, c.requires.within) in
    let same = c.as_slice-items.ensures in
    let at = c.index-items-i.is in
    subst (λ (l : List Item). CanBuild (take i l) x c.loop-i.net) (sym same)
    (next-can m is i x c.loop-i.net (next-longer m is i x items same at inside) (next-right m is i x items same at inside) c.loop-i.invariant.holds)

pub loop-i-preserved : goal.loop-i-preserved
loop-i-preserved c =
    let m = c.args.mission.now in
    let is = c.requires.mission in
    let i = c.loop-i.i in
    let x = c.index-items-i.result in
    let items = c.as_slice-items.result.now in
    let inside : i < length m.items = omega (arith, c.loop-i-test.true, c.requires.within) in
    let same = c.as_slice-items.ensures in
    let at = c.index-items-i.is in
    built-more m.cuts m.items c.args.first i x c.args.net.now c.loop-i.net c.add_item.new.net c.loop-i.table c.add_item.new.table c.loop-i.auto.i inside (next-longer m is i x items same at inside) c.loop-i.invariant
    (subst (λ (l : List Item). IsTableOf c.add_item.new.table (take i l ++ x ∷ [])) same c.in_ok-add_item.ensures.table)
    (subst (λ (l : List Item). IsAdded (made (take i l) x) (contracts_of c.loop-i.net.store.shape.grid (take i l) x) c.loop-i.net c.add_item.new.net) same c.in_ok-add_item.ensures.added)
