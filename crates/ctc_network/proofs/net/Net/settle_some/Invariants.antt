use Rattle.std.proofs.Common.{◌≡◌, ◌+◌, ◌≤◌, IsSome, flat_map}
use Rattle.ctc_network.specs.Nets.{of_place, readers_of}
use Rattle.ctc_network.specs.Settling.{IsNarrowedBy}
use Rattle.cell_readers.specs.Costs.{potential}
use Rattle.ctc_network.proofs.net.Net.settle_some.Given as goal

-- no common fixpoint was lost, and steps and potential together never rose
abbrev pub invariant-loop-self : goal.invariant-loop-self
invariant-loop-self g l = record {
  contractors : l.self.contractors ≡ l.fn.self.contractors;
  narrowed : IsNarrowedBy (flat_map (λ c. of_place g.C.Contractor.projections c l.fn.self.store.shape) l.fn.self.contractors) l.fn.self.store l.self.store;
  some : IsSome l.self.store.box;
  steps : l.steps + potential (readers_of (of_place g.C.Contractor.scope) l.fn.self.store.shape l.fn.self.contractors) l.self.waiting l.self.store.box
      ≤ l.fn.steps + potential (readers_of (of_place g.C.Contractor.scope) l.fn.self.store.shape l.fn.self.contractors) l.fn.self.waiting l.fn.self.store.box;
}

abbrev pub decreases-loop-self : goal.decreases-loop-self
decreases-loop-self g l = potential (readers_of (of_place g.C.Contractor.scope) l.fn.self.store.shape l.fn.self.contractors) l.self.waiting l.self.store.box
