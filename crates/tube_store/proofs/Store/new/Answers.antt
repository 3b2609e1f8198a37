use Rattle.tube_store.proofs.Kept.{no-cells-kept}
use Rattle.tube_store.proofs.Store.new.Goals as goal

pub invariant_of-result : goal.invariant_of-result
invariant_of-result c = simp (c.new.ensures.items, c.new-2.ensures.items, c.new-3.ensures.items, c.new-4.ensures.items, c.new-5.ensures.items) (no-cells-kept c.args.grid _ c.known.ensures)
