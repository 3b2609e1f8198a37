use Rattle.std.proofs.Common.{◌≡◌, ◌*◌, IfSome, take}
use Rattle.loop_degree.specs.Boundary.{IsSmall}
use Rattle.loop_sets.specs.Cells.{pairs_in}
use Rattle.loop_sets.specs.Turns.{sum_cells, cell_turns}
use Rattle.loop_sets.specs.Views.{label_by}
use Rattle.loop_sets.proofs.turns.set_turns.Given as goal

-- the turns of the runs so far
abbrev pub invariant-loop-run : goal.invariant-loop-run
invariant-loop-run l = record {
  sum : l.total ≡ sum_cells (cell_turns (label_by l.view) (pairs_in l.cells)) (pairs_in (take l.run-index l.cells));
  small : IfSome l.total (IsSmall (400000 * l.run-index));
}
