use Rattle.std.proofs.Common.{arith, ◌+◌, ◌<◌, ◌≤◌, sym, subst, ◌∙◌}
use Rattle.tube_spec.specs.Span.{Span}
use Rattle.tube_spec.specs.Tick.{tick_place}
use Rattle.tube_store.proofs.OverTicks.{IsHullBefore, cells_from, hull-begun, hull-joined, hull-unmet, hull-end}
use Rattle.tube_store.proofs.hull_between.Goals as goal
use Rattle.tube_store.proofs.hull_between.Goals.{then-meets_tick, else-meets_tick}

pub loop-place-init : goal.loop-place-init
loop-place-init c =
    hull-begun c.args.cells.now c.args.grid.now c.args.base c.args.first c.args.last c.place_of-start.result c.index-cells-base.result c.requires.order c.place_of-start.ensures.place
    (omega (arith, c.place_of-start.ensures.among, c.requires.among)) c.index-cells-base.is

pub loop-place-preserved : goal.loop-place-preserved
loop-place-preserved c =
    let low : tick_place c.args.grid.now c.args.first < c.loop-place.place = omega arith in
    let high : c.loop-place.place ≤ tick_place c.args.grid.now c.args.last = omega arith in
    let next : Span → Type 0 = IsHullBefore (cells_from c.args.cells.now c.args.base) c.args.grid.now c.args.first c.args.last (c.loop-place.place + 1) in
    elim c.if-meets_tick.branch [
      | then-meets_tick w ↦
          subst next (sym (w.hull-is ∙ w.hull-hull.ensures.value))
          (hull-joined c.args.cells.now c.args.grid.now c.args.base c.args.first c.args.last c.loop-place.place c.loop-place.hull w.index-cells-base-then-meets_tick.result c.loop-place.invariant low high
          (c.meets_tick.ensures.yes w.if-meets_tick.true) (omega (arith, c.place_of-end.ensures.among, c.requires.among, high, c.place_of-end.ensures.place)) w.index-cells-base-then-meets_tick.is)
      | else-meets_tick w ↦
          subst next (sym w.hull-is)
          (hull-unmet (cells_from c.args.cells.now c.args.base) c.args.grid.now c.args.first c.args.last c.loop-place.place c.loop-place.hull c.loop-place.invariant c.requires.tick (c.meets_tick.ensures.no w.if-meets_tick.false))
    ]

pub returns : goal.returns
returns c = hull-end (cells_from c.args.cells.now c.args.base) c.args.grid.now c.args.first c.args.last c.loop-place.place c.loop-place.hull c.loop-place.invariant c.requires.order (omega arith)
