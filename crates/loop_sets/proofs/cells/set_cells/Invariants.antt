use Rattle.std.proofs.Common.{◌≡◌, take}
use Rattle.loop_sets.specs.Cells.{pairs_in}
use Rattle.loop_sets.proofs.cells.set_cells.Given as goal

-- the cells of the runs so far
abbrev pub invariant-loop-run : goal.invariant-loop-run
invariant-loop-run l = l.cells.items ≡ pairs_in (take l.run-index l.run-items)
