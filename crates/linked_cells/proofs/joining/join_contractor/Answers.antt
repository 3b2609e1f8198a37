use Rattle.std.proofs.Common.{refl}
use Rattle.linked_cells.proofs.Progress.{from-one, both-none}
use Rattle.constraint_retraction.specs.Linked.{cells_of}
use Rattle.linked_cells.proofs.joining.join_contractor.Goals as goal

pub returns-in-Some : goal.returns-in-Some
returns-in-Some g c =
    from-one c.in-Some.first.0 (cells_of g.C.Contractor.projections g.C.Contractor.scope c.args.store.now.shape c.args.c.now) c.args.parents.now c.join_cells.new.parents c.in-Some.ensures.some c.join_cells.ensures

pub returns-in-None : goal.returns-in-None
returns-in-None g c = both-none (cells_of g.C.Contractor.projections g.C.Contractor.scope c.args.store.now.shape c.args.c.now) c.args.parents.now c.requires.down (c.in-None.ensures.none refl)
