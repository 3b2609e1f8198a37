use Rattle.std.proofs.Common.{ℕ, ◌≤◌, List, length, arith}
use Rattle.tube_spec.specs.Grid.{IsGrid, last_tick}
use Rattle.tube_spec.specs.Shape.{no_shape}
use Rattle.tube_spec.proofs.Hulls.{hull_box-is, owners-box, owners-below}
use Rattle.tube_spec.proofs.Ticks.{last-greatest}
use Rattle.tube_spec.proofs.assignment_hull_law.Goals as goal

some : (grid : List ℕ) → IsGrid grid → 1 ≤ length grid
some grid is = omega (arith, is.slices)

pub returns-clause-cells : goal.returns-clause-cells
returns-clause-cells c grid os a is = (hull_box-is grid os a (some grid is)).len

pub returns-clause-proper : goal.returns-clause-proper
returns-clause-proper c grid os a is = owners-box (last_tick grid) os (no_shape grid) a (last-greatest grid is.rising)

pub returns-clause-hull : goal.returns-clause-hull
returns-clause-hull c grid os a is = (hull_box-is grid os a (some grid is)).hull

pub returns-clause-below : goal.returns-clause-below
returns-clause-below c grid os a is inside = owners-below (last_tick grid) os (no_shape grid) a (last-greatest grid is.rising) inside
