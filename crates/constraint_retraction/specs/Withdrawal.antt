-- Contractors over cells, of which some are withdrawn and the others are left.
use Rattle.std.specs.Prelude.{ℕ, ◌⊎◌, ◌↔◌, Bool, IsTrue, Option, Some, List, flat_map, All, Contains}
use Rattle.tube_spec.specs.Span.{Span}
use Rattle.tube_spec.specs.Shape.{Shape}
use Rattle.tube_spec.specs.Projection.{Projection}
use Rattle.constraint_retraction.specs.Linked.{cells_of, IsClosed}

-- the projections of all contractors of a list
abbrev pub all_of : {C : Type 0} → (C → Shape → List Projection) → Shape → List C → List Projection
all_of projections s cs = flat_map (λ c. projections c s) cs

-- each contractor is left or withdrawn, and there are no others
abbrev pub ArePartsOf : {C : Type 0} → List C → List C → List C → Type 0
ArePartsOf {C} cs left withdrawn = (c : C) → Contains cs c ↔ (Contains left c ⊎ Contains withdrawn c)

-- Contractors that fit their cells at the starting intervals, parted into those left and those withdrawn, and the marks of a set of cells
-- that holds all cells of those withdrawn, and all cells of each one left of which it holds one.
pub record IsWithdrawal {C : Type 0} (projections : C → Shape → List Projection) (scope : C → Shape → List ℕ) (fits : C → Shape → Option (List Span) → Type 0)
    (s : Shape) (cs left withdrawn : List C) (start : List Span) (linked : ℕ → Bool) : Type 0 where
  pub fit : All (λ c. fits c s (Some start)) cs
  pub parts : ArePartsOf cs left withdrawn
  pub closed : IsClosed (cells_of projections scope s) left withdrawn (λ k. IsTrue (linked k))
