use Rattle.std.proofs.Common.{◌≡◌, ◌+◌, ◌≤◌, count_by}
use Rattle.ctc_network.proofs.net.Net.seek.Given as goal

-- for each step so far one rests
abbrev pub invariant-loop-id : goal.invariant-loop-id
invariant-loop-id g l = record {
  store : l.self.store ≡ l.fn.self.store;
  contractors : l.self.contractors ≡ l.fn.self.contractors;
  steps : l.steps + count_by (λ w. w) l.self.waiting ≤ l.fn.steps + count_by (λ w. w) l.fn.self.waiting;
}

abbrev pub decreases-loop-id : goal.decreases-loop-id
decreases-loop-id g l = count_by (λ w. w) l.self.waiting
