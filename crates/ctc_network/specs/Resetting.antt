-- Resets: cells that are given intervals of their own, and who waits then.
use Rattle.std.specs.Prelude.{◌≡◌, ◌≢◌, ◌⊎◌, ◌↔◌, ℕ, Option, Some, List, ◌++◌, Bool, true, length, map, slice_get, All, Any, IfSome, Contains}
use Rattle.tube_spec.specs.Span.{Span}
use Rattle.tube_spec.specs.Shape.{Shape}
use Rattle.tube_spec.specs.Box.{cell_at}
use Rattle.tube_spec.specs.Projection.{Projection}
use Rattle.tube_store.specs.declared.CellId.{CellId}
use Rattle.tube_store.specs.Resets.{cell_in}

-- The box after a reset: each cell of the list has its interval, and where the box was not empty each other cell is as it was.
pub record IsResetTo (cells : List (CellId × Span)) (old : Option (List Span)) (new : List Span) : Type 0 where
  pub given : All (λ r. cell_at new (cell_in r) ≡ r.1) cells
  pub others : IfSome old (λ xs. (k : ℕ) → All (λ r. cell_in r ≢ k) cells → cell_at new k ≡ cell_at xs k)

-- a contractor reads or writes one of the cells
abbrev pub Uses : List (CellId × Span) → List ℕ → List Projection → Type 0
Uses cells scope ps = Any (Contains (map cell_in cells)) (scope ++ map (λ p. p.target) ps)

-- Those wait after a reset, and no others, that waited before, and those that read or write one of the cells.
pub record IsRoused {C : Type 0} (projections : C → Shape → List Projection) (scope : C → Shape → List ℕ) (s : Shape) (cs : List C) (cells : List (CellId × Span)) (before after : List Bool) : Type 0 where
  pub len : length after ≡ length before
  pub waits : (k : ℕ) (c : C) → slice_get cs k ≡ Some c → (slice_get after k ≡ Some true) ↔ ((slice_get before k ≡ Some true) ⊎ Uses cells (scope c s) (projections c s))
