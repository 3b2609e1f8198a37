-- Cells that are given intervals of their own.
use Rattle.std.specs.Prelude.{ℕ, Option, Some, None, List, set}
use Rattle.tube_spec.specs.Span.{Span}
use Rattle.tube_store.specs.declared.CellId.{CellId}

-- the number of the cell that is given an interval
abbrev pub cell_in : CellId × Span → ℕ
cell_in r = (r.0).0

-- a box with another interval in the place of a cell's; the empty box stays empty
abbrev pub box_with : Option (List Span) → ℕ → Span → Option (List Span)
box_with None k to = None
box_with (Some xs) k to = Some (set xs k to)
