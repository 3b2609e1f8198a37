use Rattle.std.proofs.Common.{◌-◌, ◌<◌, List, length, arith, sym, subst}
use Rattle.tube_spec.specs.Span.{Span}
use Rattle.hull_tree.specs.Judging.{IsSmall, bounds_over}
use Rattle.hull_tree.proofs.Judgements.{small-over}
use Rattle.hull_tree.specs.Levels.{levels_of}
use Rattle.hull_tree.proofs.Blocks.{level-below, levels-length}
use Rattle.hull_tree.proofs.ranges.RangeTree.over.Goals as goal

pub over-requires-clause-level : goal.over-requires-clause-level
over-requires-clause-level c =
    let tree = c.self.invariant in
    let rows = levels_of c.self.inside.levels.items in
    let below : c.lowest_block-level.result.0 < length rows = level-below c.lowest_block-level.result.0 (length rows) c.lowest_block-level.result.2 c.args.last (length c.self.inside.ticks.items)
    c.lowest_block-level.ensures.side c.lowest_block-level.ensures.low (subst (λ (xs : List Span). c.args.last < length xs) (sym c.self.view_is) c.requires.within) tree.wide (omega (arith, tree.levels.some)) in
    omega (arith, below, levels-length c.self.inside.levels.items, c.deref-2.ensures.len)

pub returns-clause-small : goal.returns-clause-small
returns-clause-small c =
    subst IsSmall (sym c.over.ensures)
    (subst (λ (xs : List Span). IsSmall (bounds_over xs c.args.first (c.args.last - c.args.first))) (sym c.deref.ensures.value)
    (small-over c.self.inside.ticks.items c.args.first (c.args.last - c.args.first) c.self.invariant.bounded c.self.invariant.proper))
