use Rattle.std.proofs.Common.{refl}
use Rattle.linked_cells.proofs.Gathered.{exactly-none, exactly-more}
use Rattle.linked_cells.proofs.linked.all_cells.Goals as goal

pub loop-k-init : goal.loop-k-init
loop-k-init c = exactly-none (λ k. Unit {0}) c.new-cells.result.items c.new-cells.ensures.items

pub loop-k-preserved : goal.loop-k-preserved
loop-k-preserved c = exactly-more (λ k. Unit {0}) c.loop-k.k c.loop-k.cells.items c.push.new.self.items _ refl c.in_ok-push.ensures.items c.loop-k.invariant tt
