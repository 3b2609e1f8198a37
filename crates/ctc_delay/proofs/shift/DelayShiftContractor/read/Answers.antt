use Rattle.std.proofs.Common.{ℕ, ◌-◌, List, [], ◌∷◌, ◌++◌, arith, sym, slice_index, ◌∙◌}
use Rattle.ctc_delay.specs.Places.{place_count, signal_cells}
use Rattle.ctc_delay.proofs.Counts.{cells-at, more-at, length-shift_scope}
use Rattle.ctc_delay.proofs.shift.DelayShiftContractor.read.Goals as goal

pub returns-then-i-count : goal.returns-then-i-count
returns-then-i-count c =
    let s = c.args.store.now.shape in
    let me = c.args.self.now in
    let rest : List ℕ = signal_cells s.grid (slice_index s.signals me.y.0) ++ slice_index s.vars me.tau.0 ∷ [] in
    c.cell_at_place.ensures.cell ∙ sym (cells-at s.grid (slice_index s.signals me.x.0) rest c.args.i (omega (arith, c.place_count-count.ensures.count, c.if-i-count.true)))

pub returns-then-i-count-2 : goal.returns-then-i-count-2
returns-then-i-count-2 c =
    let s = c.args.store.now.shape in
    let me = c.args.self.now in
    let rest : List ℕ = signal_cells s.grid (slice_index s.signals me.y.0) ++ slice_index s.vars me.tau.0 ∷ [] in
    let past = c.args.i - c.place_count-count.result in
    c.cell_at_place-then-i-count-2.ensures.cell
    ∙ sym (cells-at s.grid (slice_index s.signals me.y.0) (slice_index s.vars me.tau.0 ∷ []) past (omega (arith, c.place_count-count.ensures.count, c.if-i-count-2.true, c.if-i-count.false)))
    ∙ sym (more-at s.grid (slice_index s.signals me.x.0) rest c.args.i past (omega (arith, c.place_count-count.ensures.count, c.if-i-count.false)))

pub returns-else-i-count-2 : goal.returns-else-i-count-2
returns-else-i-count-2 c =
    let s = c.args.store.now.shape in
    let me = c.args.self.now in
    let rest : List ℕ = signal_cells s.grid (slice_index s.signals me.y.0) ++ slice_index s.vars me.tau.0 ∷ [] in
    let all = length-shift_scope s me.x.0 me.y.0 me.tau.0 in
    let n = place_count s.grid in
    c.var.ensures.cell
    ∙ sym (more-at s.grid (slice_index s.signals me.y.0) (slice_index s.vars me.tau.0 ∷ []) n 0 (omega arith))
    ∙ sym (more-at s.grid (slice_index s.signals me.x.0) rest c.args.i n (omega (arith, all, c.requires.below, c.place_count-count.ensures.count, c.if-i-count-2.false)))
