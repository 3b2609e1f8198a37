-- Classes of numbers that pairs of a relation make.
use Rattle.std.specs.Prelude.{◌≡◌, ℕ, ◌+◌, ◌<◌, ◌⊎◌, ◌↔◌, List, Contains, length, map, slice_index}
use Rattle.disjoint_sets.specs.Ways.{Joined, Maps}
use Rattle.disjoint_sets.specs.Trees.{IsParent, GoDown}
use Rattle.ctc_network.specs.declared.answers.CtcId.{CtcId}
use Rattle.linked_cells.specs.Places.{cells_under}

-- one number, and a cell of a list
abbrev pub IsFrom : ℕ → List ℕ → ℕ → ℕ → Type 0
IsFrom to cells x y = (x ≡ to) × Contains cells y

-- two cells of a list
abbrev pub AreBoth : List ℕ → ℕ → ℕ → Type 0
AreBoth cells x y = Contains cells x × Contains cells y

-- two cells of one of the contractors under the first n numbers
abbrev pub ShareOne : {K : Type 0} → (K → List ℕ) → List K → ℕ → ℕ → ℕ → Type 0
ShareOne cells cs n x y = (k : ℕ) × (k < n) × AreBoth (cells_under cells cs k) x y

-- one number, and a cell of a contractor under one of the first n numbers of a list
abbrev pub IsFromOne : {K : Type 0} → ℕ → (K → List ℕ) → List K → List CtcId → ℕ → ℕ → ℕ → Type 0
IsFromOne to cells cs ids n x y = (x ≡ to) × ((i : ℕ) × (i < n) × Contains (cells_under cells cs (slice_index (map (λ (id : CtcId). id.0) ids) i)) y)

-- a parent, or a pair of a relation
abbrev pub IsParentOrBy : List ℕ → (ℕ → ℕ → Type 0) → ℕ → ℕ → Type 0
IsParentOrBy parents T x y = IsParent parents x y ⊎ T x y

-- The trees of each pair of a relation are one tree, and no others are joined.
pub record JoinsBy (T : ℕ → ℕ → Type 0) (old new : List ℕ) : Type 0 where
  pub len : length new ≡ length old
  pub down : GoDown new
  pub joined : Maps T (IsParent new)
  pub there : Maps (IsParent old) (IsParent new)
  pub back : Maps (IsParent new) (IsParentOrBy old T)

-- Trees of cells and of one number above them, in whose tree are exactly the cells of a set.
pub record AreClasses (Holds : ℕ → Type 0) (top : ℕ) (parents : List ℕ) : Type 0 where
  pub len : length parents ≡ top + 1
  pub down : GoDown parents
  pub linked : (k : ℕ) → k < top → Joined (IsParent parents) k top ↔ Holds k
