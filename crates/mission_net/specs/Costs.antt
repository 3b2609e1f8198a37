-- How many steps a section may take: what its records add, and what its cells lose.
use Rattle.std.specs.Prelude.{ℕ, ◌+◌, List, Option, Some, None, length, take, drop}
use Rattle.tube_spec.specs.Span.{Span}
use Rattle.cell_readers.specs.Costs.{lost_cost}
use Rattle.ctc_network.specs.Nets.{readers_of}
use Rattle.any_ctc.specs.Constraints.{constraint_scope}
use Rattle.mission_items.specs.declared.item.Item.{Item}
use Rattle.mission_net.specs.Records.{shape_by, constraints_from, constraints}

-- how many of the constraints of records read a cell
abbrev pub readers_in : List ℕ → List Item → ℕ → ℕ
readers_in grid items cell = readers_of (λ c s. constraint_scope s c) (shape_by grid items) (constraints grid items) cell

-- A section that goes on after the first records, from the box at its start to its box: a step for each constraint that its further records add,
-- and for each cell the width that it lost times one more than how many constraints of all its records read it. Nothing from the empty box.
abbrev pub section_cost : List ℕ → List Item → ℕ → ℕ → Option (List Span) → Option (List Span) → ℕ
section_cost grid items first upto None box = 0
section_cost grid items first upto (Some xs) box =
    length (constraints_from grid (take first items) (drop first (take upto items))) + lost_cost (readers_in grid (take upto items)) (Some xs) box
