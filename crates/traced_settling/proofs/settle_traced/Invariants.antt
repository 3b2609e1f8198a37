use Rattle.std.proofs.Common.{◌≡◌, ◌+◌, ◌≤◌, length}
use Rattle.tube_spec.specs.Box.{measure_of}
use Rattle.traced_settling.proofs.Tracing.{IsTracing}
use Rattle.traced_settling.proofs.Waits.{left_over}
use Rattle.traced_settling.proofs.settle_traced.Given as goal

-- some were fired, those that narrowed are listed, and steps and what may still come never rose together
abbrev pub invariant-loop-id : goal.invariant-loop-id
invariant-loop-id g l = record {
  tracing : IsTracing g.C.Contractor.projections l.most l.fn.net l.net l.fired.items l.from;
  steps : l.steps + left_over (measure_of l.net.store.box) l.net.waiting ≤ l.fn.steps + left_over (measure_of l.fn.net.store.box) l.fn.net.waiting;
}

-- what may still come
abbrev pub decreases-loop-id : goal.decreases-loop-id
decreases-loop-id g l = left_over (measure_of l.net.store.box) l.net.waiting
