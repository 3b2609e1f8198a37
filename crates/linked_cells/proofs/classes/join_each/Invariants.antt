use Rattle.linked_cells.specs.Classes.{ShareOne, JoinsBy}
use Rattle.linked_cells.specs.Chosen.{place_cells}
use Rattle.linked_cells.proofs.classes.join_each.Given as goal

-- the cells of each of the first contractors are joined
abbrev pub invariant-loop-number : goal.invariant-loop-number
invariant-loop-number g l = JoinsBy (ShareOne (place_cells g.C.Contractor.projections g.C.Contractor.scope l.net.store.shape) l.net.contractors l.number) l.fn.parents l.parents
