use Rattle.std.proofs.Common.{ℕ, ◌+◌}
use Rattle.tube_spec.specs.Box.{cell_at}
use Rattle.tube_store.proofs.OverTicks.{IsHullBefore}
use Rattle.tube_store.proofs.hull_between.Given as goal

abbrev pub invariant-loop-place : goal.invariant-loop-place
invariant-loop-place l = IsHullBefore (λ (p : ℕ). cell_at l.cells (l.base + p)) l.grid l.first l.last l.place l.hull
