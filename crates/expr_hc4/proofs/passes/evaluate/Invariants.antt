use Rattle.std.proofs.Common.{◌≡◌, ◌<◌, ℕ, List, true}
use Rattle.tube_spec.specs.Span.{Span}
use Rattle.tube_spec.specs.Box.{cell_at}
use Rattle.expr_values.specs.Operators.{is_bounded}
use Rattle.expr_hc4.specs.Programs.{AreValues}
use Rattle.expr_hc4.proofs.passes.evaluate.Given as goal

-- the nodes so far have their values
abbrev pub invariant-loop-i : goal.invariant-loop-i
invariant-loop-i l = (vs : List Span) → AreValues l.entries l.nodes vs → (k : ℕ) → k < l.i → (cell_at l.values k ≡ cell_at vs k) × (is_bounded (cell_at vs k) ≡ true)
