-- Trees of numbers: each number has a parent, and the root of a tree is its own.
use Rattle.std.specs.Prelude.{◌≡◌, ℕ, ◌<◌, ◌≤◌, ◌⊎◌, List, length, slice_index}
use Rattle.disjoint_sets.specs.Ways.{Joined, Maps}

abbrev pub IsParent : List ℕ → ℕ → ℕ → Type 0
IsParent parents i j = (i < length parents) × (slice_index parents i ≡ j)

-- no parent is above its child
abbrev pub GoDown : List ℕ → Type 0
GoDown parents = (i : ℕ) → i < length parents → slice_index parents i ≤ i

-- two numbers are in one tree
abbrev pub AreInOne : List ℕ → ℕ → ℕ → Type 0
AreInOne parents i j = Joined (IsParent parents) i j

-- Other parents, but the same trees with the same roots.
pub record KeepsTrees (old new : List ℕ) : Type 0 where
  pub len : length new ≡ length old
  pub down : GoDown new
  pub roots : (i : ℕ) → slice_index old i ≡ i → slice_index new i ≡ i
  pub there : Maps (IsParent old) (IsParent new)
  pub back : Maps (IsParent new) (IsParent old)

-- the parents, and one edge more
abbrev pub IsParentOr : List ℕ → ℕ → ℕ → ℕ → ℕ → Type 0
IsParentOr parents i j x y = IsParent parents x y ⊎ ((x ≡ i) × (y ≡ j))

-- The trees of i and of j are one tree, and no others are joined.
pub record JoinsTrees (old new : List ℕ) (i j : ℕ) : Type 0 where
  pub len : length new ≡ length old
  pub down : GoDown new
  pub joined : Joined (IsParent new) i j
  pub there : Maps (IsParent old) (IsParent new)
  pub back : Maps (IsParent new) (IsParentOr old i j)
