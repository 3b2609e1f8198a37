use Rattle.std.proofs.Common.{[], ◌∷◌, arith, sym, slice_index, ◌∙◌}
use Rattle.ctc_delay.proofs.Counts.{cells-at, more-at, length-from_scope}
use Rattle.ctc_delay.proofs.from.DelayFromContractor.read.Goals as goal

pub returns-then-i-place_count : goal.returns-then-i-place_count
returns-then-i-place_count c =
    let s = c.args.store.now.shape in
    let me = c.args.self.now in
    c.cell_at_place.ensures.cell ∙ sym (cells-at s.grid (slice_index s.signals me.y.0) (slice_index s.vars me.tau.0 ∷ []) c.args.i (omega (arith, c.place_count.ensures.count, c.if-i-place_count.true)))

pub returns-else-i-place_count : goal.returns-else-i-place_count
returns-else-i-place_count c =
    let s = c.args.store.now.shape in
    let me = c.args.self.now in
    let count = length-from_scope s me.x.0 me.y.0 me.tau.0 in
    c.var.ensures.cell ∙ sym (more-at s.grid (slice_index s.signals me.y.0) (slice_index s.vars me.tau.0 ∷ []) c.args.i 0 (omega (arith, count, c.requires.below, c.place_count.ensures.count, c.if-i-place_count.false)))
