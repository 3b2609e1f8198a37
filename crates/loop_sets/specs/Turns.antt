-- The turns along edges of which a function gives the labels.
use Rattle.std.specs.Prelude.{◌≡◌, ℕ, zero, suc, ◌+◌, ◌<◌, ◌≤◌, Bool, true, false, cond, Option, Some, None, List, [], ◌∷◌, length, ℤ, pos}
use Rattle.loop_degree.specs.declared.labels.Label.{Label}
use Rattle.loop_degree.specs.Pairs.{has}
use Rattle.loop_degree.specs.Cells.{Edge, outer_sides}
use Rattle.tplane_paver.specs.declared.runs.Run.{Run}
use Rattle.tplane_paver.specs.Runs.{run_at}
use Rattle.loop_degree.specs.Boundary.{turn_option, add_option}

-- the turn of an edge, nothing where an end has no label
abbrev pub turn_of : (ℕ × ℕ → Option Label) → ℕ × ℕ → ℕ × ℕ → Option ℤ
turn_of label p q = turn_option (label p) (label q)

-- the turns of edges added up, nothing where an end has no label
abbrev pub turns_along : (ℕ × ℕ → Option Label) → List Edge → Option ℤ
turns_along label [] = Some (pos 0)
turns_along label (e ∷ edges) = add_option (turn_of label e.from e.to) (turns_along label edges)

-- f b, f (b + 1) and so on added up, n of them
abbrev pub sum_along : (ℕ → Option ℤ) → ℕ → ℕ → Option ℤ
sum_along f b zero = Some (pos 0)
sum_along f b (suc n) = add_option (f b) (sum_along f (b + 1) n)

-- whether the cell of a row beside is in the list, if there is such a row
abbrev pub has_beside : List (ℕ × ℕ) → Option ℕ → ℕ → Bool
has_beside cells None b = false
has_beside cells (Some a) b = has cells (a, b)

-- the turn of a side, unless two cells share it
abbrev pub turn_unless : Bool → Option ℤ → Option ℤ
turn_unless shared turn = cond shared (Some (pos 0)) turn

-- the edge between the corners (a, b) and (a, b + 1), upward or back
abbrev pub upright : (ℕ × ℕ → Option Label) → ℕ → Bool → ℕ → Option ℤ
upright label a up b = cond up (turn_of label (a, b) (a, b + 1)) (turn_of label (a, b + 1) (a, b))

-- what g gives each cell, added up
abbrev pub sum_cells : (ℕ × ℕ → Option ℤ) → List (ℕ × ℕ) → Option ℤ
sum_cells g [] = Some (pos 0)
sum_cells g (c ∷ cells) = add_option (g c) (sum_cells g cells)

-- the row before
abbrev pub row_before : ℕ → Option ℕ
row_before zero = None
row_before (suc a) = Some a

-- the side of a cell towards a row beside, unless two cells share it
abbrev pub open_turn : (ℕ × ℕ → Option Label) → List (ℕ × ℕ) → Option ℕ → ℕ → Bool → ℕ → Option ℤ
open_turn label cells beside a up b = turn_unless (has_beside cells beside b) (upright label a up b)

-- the sides of a cell that it has alone
abbrev pub cell_turns : (ℕ × ℕ → Option Label) → List (ℕ × ℕ) → ℕ × ℕ → Option ℤ
cell_turns label cells c = turns_along label (outer_sides cells c)

-- from b to its last tick a run is of cells beside
pub record SharesFrom (cells : List (ℕ × ℕ)) (beside : Option ℕ) (b : ℕ) (r : Run) : Type 0 where
  pub last : b ≤ r.last
  pub shared : (k : ℕ) → b ≤ k → k ≤ r.last → has_beside cells beside k ≡ true

-- The runs before a place end before the pair (a, b), and the others do not.
pub record AreParted (runs : List Run) (a b place : ℕ) : Type 0 where
  pub early : (k : ℕ) → k < place → ((run_at runs k).a ≤ a) × ((run_at runs k).a ≡ a → (run_at runs k).last < b)
  pub late : (k : ℕ) → place ≤ k → k < length runs → (a ≤ (run_at runs k).a) × ((run_at runs k).a ≡ a → b ≤ (run_at runs k).last)
