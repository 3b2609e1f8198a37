use Rattle.std.proofs.Common.{◌≡◌, ◌<◌, List, ap, ◌∙◌, arith, get_or, length}
use Rattle.mission_items.specs.declared.item.Item.{Item}
use Rattle.tube_report.specs.Places.{Listed}
use Rattle.tube_report.proofs.Listing.{few_signals, few_variables, listed_more, listed_with}
use Rattle.tube_report.proofs.listed.Places.extend.Goals as goal

pub add-requires-clause-signals : goal.add-requires-clause-signals
add-requires-clause-signals c =
    let m = c.args.mission.now in
    let i = c.loop-i.i in
    let x = c.index-items-i.result in
    let inside : i < length m.items = omega (arith, c.loop-i-test.true, c.requires.within) in
    let at : x ≡ get_or m.items i x = c.index-items-i.is ∙ ap (λ (l : List Item). get_or l i x) c.as_slice-items.ensures in
    omega (arith, few_signals m i x at inside c.requires.signals, ap (λ (l : Listed). l.signals) c.loop-i.invariant)

pub add-requires-clause-variables : goal.add-requires-clause-variables
add-requires-clause-variables c =
    let m = c.args.mission.now in
    let i = c.loop-i.i in
    let x = c.index-items-i.result in
    let inside : i < length m.items = omega (arith, c.loop-i-test.true, c.requires.within) in
    let at : x ≡ get_or m.items i x = c.index-items-i.is ∙ ap (λ (l : List Item). get_or l i x) c.as_slice-items.ensures in
    omega (arith, few_variables m i x at inside c.requires.variables, ap (λ (l : Listed). l.variables) c.loop-i.invariant)

pub loop-i-preserved : goal.loop-i-preserved
loop-i-preserved c =
    let m = c.args.mission.now in
    let i = c.loop-i.i in
    let x = c.index-items-i.result in
    let inside : i < length m.items = omega (arith, c.loop-i-test.true, c.requires.within) in
    let at : x ≡ get_or m.items i x = c.index-items-i.is ∙ ap (λ (l : List Item). get_or l i x) c.as_slice-items.ensures in
    c.in_ok-add.ensures ∙ (ap (λ (l : Listed). listed_with l i x) c.loop-i.invariant ∙ listed_more m i x at inside)
