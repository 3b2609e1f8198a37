use Rattle.std.proofs.Common.{arith, slice_index}
use Rattle.hull_tree.proofs.Filling.{none-yet, tube-ended}
use Rattle.hull_tree.proofs.ticks.ticks_of.Goals as goal

pub loop-slice-init : goal.loop-slice-init
loop-slice-init c =
    let s = c.args.store.now.shape in
    none-yet s c.args.store.now.box c.args.signal.0 (slice_index s.grid 0) c.in_ok-ticks.ticks.items c.known.ensures.shape.grid.starts c.in_ok-ticks.ensures.items

pub returns : goal.returns
returns c =
    let is = c.known.ensures.shape.grid in
    let done = tube-ended c.args.store.now.shape c.args.store.now.box c.args.signal.0 c.loop-slice.slice c.gate-cell.result.0 c.loop-slice.ticks.items c.push.new.self.items c.get-last.result is
    (omega (arith, c.slices-end.ensures)) c.loop-slice.invariant (omega (arith, c.gate-cell.ensures.cell)) c.get-last.ensures.value c.get-last.ensures.proper c.get-last.ensures.bounded c.in_ok-push.ensures.items in
    record { tube = done.made; len = done.len; proper = done.proper; bounded = done.bounded; short = is.ends }
