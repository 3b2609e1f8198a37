use Rattle.std.proofs.Common.{◌≡◌, take}
use Rattle.std.specs.List.{flat_map}
use Rattle.loop_degree.specs.Cells.{outer_sides, ends_of}
use Rattle.loop_degree.proofs.cells.boundary_corners.Given as goal

-- the ends of the outer sides of the cells so far
abbrev pub invariant-loop-cell : goal.invariant-loop-cell
invariant-loop-cell l = l.ends.items ≡ ends_of (flat_map (outer_sides l.cells) (take l.cell-index l.cells))
