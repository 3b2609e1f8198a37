use Rattle.std.proofs.Common.{◌<◌, ◌+◌, ◌-◌, ◌/◌, length, map, sym, subst, ◌∙◌, refl, arith}
use Rattle.std.proofs.lemmas.List.{length-map}
use Rattle.tube_store.specs.Resets.{cell_in}
use Rattle.ctc_network.proofs.Among.{IsSought, read-cell, among-at, sought-first, sought-after, sought-before, sought-none}
use Rattle.ctc_network.proofs.using.is_among.Goals as goal

pub loop-first-init : goal.loop-first-init
loop-first-init c = subst (IsSought (map cell_in c.args.cells.now) c.args.cell.0 0) (length-map c.args.cells.now cell_in) (sought-first (map cell_in c.args.cells.now) c.args.cell.0)

pub bounds-cells-middle : goal.bounds-cells-middle
bounds-cells-middle c = omega (arith, c.loop-first-test.true, c.loop-first.invariant.within, length-map c.args.cells.now cell_in)

pub bounds-cells-middle-in-loop-first : goal.bounds-cells-middle-in-loop-first
bounds-cells-middle-in-loop-first c = omega (arith, c.loop-first-test.true, c.loop-first.invariant.within, length-map c.args.cells.now cell_in)

pub returns-then-at-cell : goal.returns-then-at-cell
returns-then-at-cell c =
    let middle = c.loop-first.first + (c.loop-first.end - c.loop-first.first) / 2 in
    let l : middle < length (map cell_in c.args.cells.now) = omega (arith, c.loop-first-test.true, c.loop-first.invariant.within) in
    (λ yes. among-at (map cell_in c.args.cells.now) c.args.cell.0 middle l (read-cell c.args.cells.now middle c.index-cells-middle.result l ∙ c.if-at-cell.true), λ there. refl)

pub loop-first-preserved-then-at-cell-2 : goal.loop-first-preserved-then-at-cell-2
loop-first-preserved-then-at-cell-2 c =
    let middle = c.loop-first.first + (c.loop-first.end - c.loop-first.first) / 2 in
    let l : middle < length (map cell_in c.args.cells.now) = omega (arith, c.loop-first-test.true, c.loop-first.invariant.within) in
    sought-after (map cell_in c.args.cells.now) c.args.cell.0 c.loop-first.first c.loop-first.end middle c.requires.rising c.loop-first.invariant (omega (arith, c.loop-first-test.true))
    (omega (arith, c.if-at-cell-2.true, read-cell c.args.cells.now middle c.index-cells-middle.result l))

pub loop-first-preserved : goal.loop-first-preserved
loop-first-preserved c =
    let middle = c.loop-first.first + (c.loop-first.end - c.loop-first.first) / 2 in
    let l : middle < length (map cell_in c.args.cells.now) = omega (arith, c.loop-first-test.true, c.loop-first.invariant.within) in
    let at = read-cell c.args.cells.now middle c.index-cells-middle.result l in
    sought-before (map cell_in c.args.cells.now) c.args.cell.0 c.loop-first.first c.loop-first.end middle c.requires.rising c.loop-first.invariant (omega arith) (omega (arith, c.loop-first-test.true))
    (omega (arith, c.if-at-cell-2.false, at)) (λ e. c.if-at-cell.false (sym at ∙ e))

pub returns : goal.returns
returns c = (
  λ yes. absurd (cc),
  λ there. absurd (sought-none (map cell_in c.args.cells.now) c.args.cell.0 c.loop-first.first c.loop-first.end c.loop-first.invariant c.loop-first-test.false there),
)
