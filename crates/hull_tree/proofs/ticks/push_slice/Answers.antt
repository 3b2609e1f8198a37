use Rattle.std.proofs.Common.{arith, ◌-◌}
use Rattle.hull_tree.proofs.Filling.{slice-pushed}
use Rattle.hull_tree.proofs.ticks.push_slice.Goals as goal

pub returns : goal.returns
returns c =
    slice-pushed c.args.store.now.shape c.args.store.now.box c.args.signal.0 c.args.slice c.gate-cell.result.0 c.envelope-inner.result.0 (c.slice_width-count.result - 1) c.args.ticks.now.items c.push.new.self.items c.fill.new.ticks.items
    c.get-first.result c.get-envelope.result c.known.ensures.shape.grid c.requires.slice c.requires.begun c.gate-cell.ensures.cell c.envelope-inner.ensures.cell c.get-first.ensures.value c.get-envelope.ensures.value
    c.get-first.ensures.proper c.get-envelope.ensures.proper c.get-first.ensures.bounded c.get-envelope.ensures.bounded c.in_ok-push.ensures.items c.in_ok-fill.ensures (omega (arith, c.slice_width-count.ensures))
