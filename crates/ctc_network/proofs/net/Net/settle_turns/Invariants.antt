use Rattle.std.proofs.Common.{◌≡◌, ◌+◌, ◌*◌, ◌≤◌, IsFalse, IsNone, All, length}
use Rattle.cell_readers.specs.Costs.{lost_cost}
use Rattle.ctc_network.specs.Nets.{of_place, readers_of}
use Rattle.ctc_network.specs.Settling.{SettlesAs}
use Rattle.ctc_network.specs.declared.answers.Settled.TheVariants.{Fixpoint, Empty}
use Rattle.ctc_network.proofs.net.Net.settle_turns.Given as goal

-- so many turns were taken
abbrev pub invariant-loop-turn : goal.invariant-loop-turn
invariant-loop-turn g l = record {
  contractors : l.self.contractors ≡ l.fn.self.contractors;
  shape : l.self.store.shape ≡ l.fn.self.store.shape;
  settled : SettlesAs (λ c. of_place g.C.Contractor.projections c l.fn.self.store.shape) l.fn.self.contractors (l._turn * l.budget) l.fn.self.store l.self.store l.answer;
  resting : l.answer ≡ Fixpoint → All IsFalse l.self.waiting;
  emptied : IsNone l.fn.self.store.box → (l.answer ≡ Empty) × (l.self ≡ l.fn.self) × (l.steps ≡ l.fn.steps);
  bound : l.steps ≤ l.fn.steps + l._turn * length l.fn.self.contractors + lost_cost (readers_of (of_place g.C.Contractor.scope) l.fn.self.store.shape l.fn.self.contractors) l.fn.self.store.box l.self.store.box;
}
