-- The projections of a relation at a place: each name leaf has one, on its cell.
use Rattle.std.specs.Prelude.{ℕ, ◌≤◌, List, length, slice_index, map, ℤ}
use Rattle.std.specs.List.{range_with_len}
use Rattle.tube_spec.specs.Span.{Span}
use Rattle.tube_spec.specs.Narrowing.{Narrowing}
use Rattle.tube_spec.specs.Grid.{last_tick}
use Rattle.tube_spec.specs.Shape.{Shape}
use Rattle.tube_spec.specs.Box.{cell_at}
use Rattle.tube_spec.specs.Projection.{Projection}
use Rattle.tube_spec.specs.Assignment.{Assignment, value_at, number_of}
use Rattle.expr_values.specs.Expressions.{Comparison}
use Rattle.expr_values.specs.Values.{IsTrueOf}
use Rattle.expr_values.specs.Targets.{entry_narrowing}
use Rattle.expr_hc4.specs.Places.{leaf_cells}
use Rattle.tube_names.specs.declared.leaves.Leaf.{Leaf}
use Rattle.tube_names.specs.declared.leaves.Leaf.TheVariants.{Sig, Var}
use Rattle.expr_hc4.specs.declared.places.Place.{Place}
use Rattle.expr_hc4.specs.declared.places.Place.TheVariants.{Gate, Envelope, Once}

-- a projection on each of the cells, of which f gives the formula by its number
abbrev pub cell_projections : List ℕ → (ℕ → List Span → Narrowing) → List Projection
cell_projections cells f = map (λ j. record { target = slice_index cells j; formula = f j }) (range_with_len 0 (length cells))

-- the intervals of the cells in a box
abbrev pub entries_at : List ℕ → List Span → List Span
entries_at cells xs = map (cell_at xs) cells

-- Each cell lies within what the comparison leaves of its entry, where the entries are the intervals of the cells.
abbrev pub expr_projections_at : List ℕ → Comparison → List Projection
expr_projections_at cells c = cell_projections cells (λ j xs. entry_narrowing (entries_at cells xs) c j)

abbrev pub expr_projections : Shape → Place → List Leaf → Comparison → List Projection
expr_projections s place leaves c = expr_projections_at (leaf_cells s place leaves) c

-- what an assignment gives to a leaf at a tick
abbrev pub leaf_number : Assignment → ℕ → Leaf → ℤ
leaf_number a k (Sig x) = value_at a x.0 k
leaf_number a k (Var v) = number_of a v.0

-- the relation holds of an assignment at a tick
abbrev pub HoldsAtTick : Assignment → List Leaf → Comparison → ℕ → Type 0
HoldsAtTick a leaves c k = IsTrueOf (map (leaf_number a k) leaves) c

-- What the relation says of an assignment: at gates and envelopes that it holds at every tick, and elsewhere that it holds.
abbrev pub SatisfiesAt : Shape → Place → Assignment → List Leaf → Comparison → Type 0
SatisfiesAt s (Gate i) a leaves c = (k : ℕ) → k ≤ last_tick s.grid → HoldsAtTick a leaves c k
SatisfiesAt s (Envelope i) a leaves c = (k : ℕ) → k ≤ last_tick s.grid → HoldsAtTick a leaves c k
SatisfiesAt s Once a leaves c = HoldsAtTick a leaves c 0
