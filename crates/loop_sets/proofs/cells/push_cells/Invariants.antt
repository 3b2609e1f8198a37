use Rattle.std.proofs.Common.{◌≡◌, ◌-◌, ◌++◌}
use Rattle.loop_sets.specs.Cells.{column}
use Rattle.loop_sets.proofs.cells.push_cells.Given as goal

-- the cells of the run so far
abbrev pub invariant-loop-b : goal.invariant-loop-b
invariant-loop-b l = l.cells.items ≡ l.initial.cells.items ++ column l.run.a l.run.first (l.b - l.run.first)
