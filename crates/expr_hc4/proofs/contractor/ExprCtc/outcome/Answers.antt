use Rattle.std.proofs.Common.{take, length}
use Rattle.ctc_core.proofs.Firing.{IsBox-of}
use Rattle.expr_hc4.specs.Places.{leaf_cells}
use Rattle.expr_hc4.proofs.Unchanged.{read-proper}
use Rattle.expr_hc4.proofs.contractor.ExprCtc.outcome.Goals as goal

pub outcome-requires-clause-proper : goal.outcome-requires-clause-proper
outcome-requires-clause-proper g c =
    let store = c.args.store.now in
    let leaves = c.leaves-leaves.result.now in
    read-proper store.box (take (length leaves) c.read_leaves.new.entries) (leaf_cells store.shape c.args.self.now.place leaves) c.requires.filled (IsBox-of store c.known.ensures) c.read_leaves.ensures.read
