use Rattle.ctc_network.proofs.Resets.{AreRoused}
use Rattle.ctc_network.proofs.rousing.rouse.Given as goal

-- the first contractors were asked
abbrev pub invariant-loop-number : goal.invariant-loop-number
invariant-loop-number g l = AreRoused g.C.Contractor.projections g.C.Contractor.scope g.C.Parted.parts l.store.shape l.cells l.contractors l.fn.waiting l.waiting l.fn.marks l.marks l.number
