use Rattle.std.proofs.Common.{IsTrue}
use Rattle.constraint_retraction.specs.Linked.{cells_of, IsResetIn}
use Rattle.constraint_retraction.proofs.LinkedCells.{reset-closed, linked-closed, linked-least, closed-same}
use Rattle.constraint_retraction.proofs.laws.linked_law.Goals as goal

pub returns-clause-closed : goal.returns-clause-closed
returns-clause-closed g c s left withdrawn = linked-closed (cells_of g.C.Contractor.projections g.C.Contractor.scope s) left withdrawn

pub returns-clause-least : goal.returns-clause-least
returns-clause-least g c s left withdrawn marks = linked-least (cells_of g.C.Contractor.projections g.C.Contractor.scope s) left withdrawn (λ k. IsTrue (marks k))

pub returns-clause-marks : goal.returns-clause-marks
returns-clause-marks g c s left withdrawn box marks same =
    let cells = cells_of g.C.Contractor.projections g.C.Contractor.scope s in
    closed-same cells left withdrawn (IsResetIn cells left withdrawn box) (λ k. IsTrue (marks k)) same (reset-closed cells left withdrawn box)
