-- The cells of a set, in rising order.
use Rattle.std.specs.Prelude.{ℕ, ◌<◌, ◌↔◌, Option, List, All, Contains, map}
use Rattle.std.specs.List.Sorted.{IsStrictlyIncreasing}
use Rattle.tube_spec.specs.Shape.{Shape}
use Rattle.tube_spec.specs.Projection.{Projection}
use Rattle.tube_store.specs.declared.CellId.{CellId}
use Rattle.constraint_retraction.specs.Linked.{cells_of, IsResetIn}
use Rattle.ctc_network.specs.Nets.{NetState, of_place}
use Rattle.ctc_network.specs.Settling.{contractors_at}
use Rattle.ctc_network.specs.declared.answers.CtcId.{CtcId}
use Rattle.linked_cells.specs.Places.{without}

abbrev pub number_in : CellId → ℕ
number_in c = c.0

-- the cells that a contractor reads or writes, and of a place with none no cell
abbrev pub place_cells : {C : Type 0} → (C → Shape → List Projection) → (C → Shape → List ℕ) → Shape → Option C → List ℕ
place_cells projections scope s o = cells_of (of_place projections) (of_place scope) s o

-- A cell of a net is linked to the contractors under these numbers: where the box is empty each cell, and else a cell of theirs, and each
-- cell of a contractor left that has a linked one.
abbrev pub IsLinkedIn : {C : Type 0} → (C → Shape → List Projection) → (C → Shape → List ℕ) → NetState C → List CtcId → ℕ → Type 0
IsLinkedIn projections scope n ids k = IsResetIn (place_cells projections scope n.store.shape) (without n.contractors ids) (contractors_at n.contractors ids) n.store.box k

-- exactly the cells below n of a set, each once and in rising order
pub record AreExactly (Holds : ℕ → Type 0) (n : ℕ) (cells : List CellId) : Type 0 where
  pub rising : IsStrictlyIncreasing (map number_in cells)
  pub named : All (λ k. k < n) (map number_in cells)
  pub exact : (k : ℕ) → k < n → Contains (map number_in cells) k ↔ Holds k
