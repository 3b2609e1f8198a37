-- The cells that the names of a relation have at a place.
use Rattle.std.specs.Prelude.{ℕ, ◌+◌, ◌<◌, List, length, slice_index, map, All}
use Rattle.tube_spec.specs.Shape.{Shape, gate_cell, envelope_cell}
use Rattle.tube_names.specs.declared.leaves.Leaf.{Leaf}
use Rattle.tube_names.specs.declared.leaves.Leaf.TheVariants.{Sig, Var}
use Rattle.tube_names.specs.Leaves.{first_uses}
use Rattle.expr_hc4.specs.declared.places.Place.{Place}
use Rattle.expr_hc4.specs.declared.places.Place.TheVariants.{Gate, Envelope, Once}

-- A signal has the gate or the envelope of the place, and a variable its one cell. No signal has a cell where a relation holds once.
abbrev pub leaf_cell : Shape → Place → Leaf → ℕ
leaf_cell s place (Var v) = slice_index s.vars v.0
leaf_cell s (Gate i) (Sig x) = gate_cell s x.0 i
leaf_cell s (Envelope i) (Sig x) = envelope_cell s x.0 i
leaf_cell s Once (Sig x) = 0

-- what a leaf names, and where, is of the shape
abbrev pub LeafFits : Shape → Place → Leaf → Type 0
LeafFits s place (Var v) = v.0 < length s.vars
LeafFits s (Gate i) (Sig x) = (x.0 < length s.signals) × (i < length s.grid)
LeafFits s (Envelope i) (Sig x) = (x.0 < length s.signals) × (i + 1 < length s.grid)
LeafFits s Once (Sig x) = ⊥

abbrev pub ExprFits : Shape → Place → List Leaf → Type 0
ExprFits s place leaves = All (LeafFits s place) leaves

-- the cells of the leaves, from the left
abbrev pub leaf_cells : Shape → Place → List Leaf → List ℕ
leaf_cells s place leaves = map (leaf_cell s place) leaves

-- the cells that a relation reads at a place, each leaf once
abbrev pub expr_scope : Shape → Place → List Leaf → List ℕ
expr_scope s place leaves = leaf_cells s place (first_uses leaves)
