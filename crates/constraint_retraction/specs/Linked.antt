-- The cells that are linked to contractors which are taken out.
use Rattle.std.specs.Prelude.{ℕ, Option, Some, None, List, ◌++◌, map, All, Any, Contains}
use Rattle.tube_spec.specs.Span.{Span}
use Rattle.tube_spec.specs.Shape.{Shape}
use Rattle.tube_spec.specs.Projection.{Projection}

-- the cells that a contractor reads or writes
abbrev pub cells_of : {C : Type 0} → (C → Shape → List Projection) → (C → Shape → List ℕ) → Shape → C → List ℕ
cells_of projections scope s c = scope c s ++ map (λ p. p.target) (projections c s)

-- A set of cells that holds all cells of the contractors withdrawn, and all cells of each contractor left of which it holds one.
pub record IsClosed {C : Type 0} (cells : C → List ℕ) (left withdrawn : List C) (Holds : ℕ → Type 0) : Type 0 where
  pub own : All (λ c. All Holds (cells c)) withdrawn
  pub along : All (λ c. Any Holds (cells c) → All Holds (cells c)) left

-- The linked cells, the least of these sets: a cell of a contractor withdrawn, and a cell that shares a contractor left with a linked one.
pub data IsLinked {C : Type 0} (cells : C → List ℕ) (left withdrawn : List C) : ℕ → Type 0 where
  Own : (c : C) (k : ℕ) → Contains withdrawn c → Contains (cells c) k → IsLinked cells left withdrawn k
  Along : (c : C) (j k : ℕ) → Contains left c → Contains (cells c) j → Contains (cells c) k → IsLinked cells left withdrawn j → IsLinked cells left withdrawn k

-- the cells that are reset: where the box is empty all, and else the linked ones
abbrev pub IsResetIn : {C : Type 0} → (C → List ℕ) → List C → List C → Option (List Span) → ℕ → Type 0
IsResetIn cells left withdrawn None k = Unit {0}
IsResetIn cells left withdrawn (Some xs) k = IsLinked cells left withdrawn k

-- a contractor is linked to a set of cells where it reads or writes one of them
abbrev pub HasLinked : {C : Type 0} → (C → List ℕ) → (ℕ → Type 0) → C → Type 0
HasLinked cells Holds c = Any Holds (cells c)
