use Rattle.tube_store.proofs.Resetting.{AreGiven}
use Rattle.tube_store.proofs.Store.reset.Given as goal

-- the cells up to the place have their intervals
abbrev pub invariant-loop-cell : goal.invariant-loop-cell
invariant-loop-cell l = AreGiven l.fn.self l.self l.cells l.cell-index
