use Rattle.std.proofs.Common.{◌≡◌, ◌+◌, ◌<◌, ◌≤◌, ℕ, Option, Some, IfSome, count_by, slice_get, take}
use Rattle.tube_spec.specs.Fixpoint.{IsFixpoint}
use Rattle.ctc_network.specs.Nets.{of_place}
use Rattle.traced_settling.proofs.sought.Given as goal

-- those before leave the box, and for each step so far one of them waits
abbrev pub invariant-loop-number : goal.invariant-loop-number
invariant-loop-number g l = record {
  rests : (k : ℕ) (c : Option g.row.C.Denot) → k < l.number → slice_get l.net.contractors k ≡ Some c → IfSome l.net.store.box (IsFixpoint (of_place g.C.Contractor.projections c l.net.store.shape));
  steps : l.steps ≤ l.fn.steps + count_by (λ w. w) (take l.number l.net.waiting);
}
