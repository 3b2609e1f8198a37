use Rattle.std.proofs.Common.{◌≡◌, ◌*◌, IfSome, take}
use Rattle.std.specs.List.{flat_map}
use Rattle.loop_degree.specs.Cells.{outer_sides}
use Rattle.loop_degree.specs.Boundary.{turns_of, IsSmall}
use Rattle.loop_degree.proofs.check.check_cells.Given as goal

-- the turns of the cells so far
abbrev pub invariant-loop-cell : goal.invariant-loop-cell
invariant-loop-cell l = record {
  sum : l.degree ≡ turns_of l.labels (flat_map (outer_sides l.cells) (take l.cell-index l.cells));
  small : IfSome l.degree (IsSmall (4 * l.cell-index));
}
