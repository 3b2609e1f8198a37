use Rattle.std.proofs.Common.{map}
use Rattle.tube_spec.specs.Projection.{Projection}
use Rattle.linked_cells.specs.Classes.{JoinsBy}
use Rattle.linked_cells.proofs.Progress.{IsFromFirst}
use Rattle.linked_cells.proofs.joining.join_writes.Given as goal

-- the first cells are joined
abbrev pub invariant-loop-i : goal.invariant-loop-i
invariant-loop-i g l = JoinsBy (IsFromFirst l.to (map (λ (p : Projection). p.target) (g.C.Contractor.projections l.c l.store.shape)) l.i) l.fn.parents l.parents
