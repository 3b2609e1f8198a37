use Rattle.std.proofs.Common.{◌≡◌, ◌+◌, take, flat_map}
use Rattle.ctc_network.specs.Nets.{of_place}
use Rattle.ctc_network.specs.Settling.{Fires, IsNarrowedBy, contractors_at}
use Rattle.ctc_network.proofs.net.Net.replay.Given as goal

-- the contractors with the first numbers were fired
abbrev pub invariant-loop-id : goal.invariant-loop-id
invariant-loop-id g l = record {
  fired : Fires (flat_map (λ c. of_place g.C.Contractor.projections c l.fn.self.store.shape) (contractors_at l.fn.self.contractors (take l.id-index l.ids))) l.fn.self.store l.self.store l.answer;
  narrowed : IsNarrowedBy (flat_map (λ c. of_place g.C.Contractor.projections c l.fn.self.store.shape) l.fn.self.contractors) l.fn.self.store l.self.store;
  contractors : l.self.contractors ≡ l.fn.self.contractors;
  steps : l.steps ≡ l.fn.steps + l.id-index;
}
