use Rattle.linked_cells.specs.Classes.{JoinsBy}
use Rattle.linked_cells.proofs.Progress.{IsFromFirst}
use Rattle.linked_cells.proofs.joining.join_reads.Given as goal

-- the first cells are joined
abbrev pub invariant-loop-i : goal.invariant-loop-i
invariant-loop-i g l = JoinsBy (IsFromFirst l.to (g.C.Contractor.scope l.c l.store.shape) l.i) l.fn.parents l.parents
