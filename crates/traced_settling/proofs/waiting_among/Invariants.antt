use Rattle.std.proofs.Common.{◌≡◌, ◌<◌, ◌≤◌, ℕ, Some, false, slice_get}
use Rattle.traced_settling.proofs.waiting_among.Given as goal

-- those before rest
abbrev pub invariant-loop-number : goal.invariant-loop-number
invariant-loop-number g l = (k : ℕ) → l.first ≤ k → k < l.number → slice_get l.net.waiting k ≡ Some false
