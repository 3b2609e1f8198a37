use Rattle.linked_cells.specs.Chosen.{AreExactly}
use Rattle.linked_cells.proofs.linked.all_cells.Given as goal

-- the first cells
abbrev pub invariant-loop-k : goal.invariant-loop-k
invariant-loop-k l = AreExactly (λ k. Unit {0}) l.k l.cells.items
