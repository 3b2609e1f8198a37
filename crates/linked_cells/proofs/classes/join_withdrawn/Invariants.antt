use Rattle.linked_cells.specs.Classes.{IsFromOne, JoinsBy}
use Rattle.linked_cells.specs.Chosen.{place_cells}
use Rattle.linked_cells.proofs.classes.join_withdrawn.Given as goal

-- the cells of the first of those withdrawn are joined with the number
abbrev pub invariant-loop-i : goal.invariant-loop-i
invariant-loop-i g l = JoinsBy (IsFromOne l.to (place_cells g.C.Contractor.projections g.C.Contractor.scope l.net.store.shape) l.net.contractors l.withdrawn l.i) l.fn.parents l.parents
