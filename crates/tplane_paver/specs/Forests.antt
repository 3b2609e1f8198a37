-- Trees of runs that hang together.
use Rattle.std.specs.Prelude.{◌≡◌, ◌≢◌, ℕ, ◌+◌, ◌<◌, ◌≤◌, ◌⊎◌, List, [], ◌∷◌, ◌++◌, length, slice_index}
use Rattle.disjoint_sets.specs.Ways.{Joined, Maps}
use Rattle.disjoint_sets.specs.Trees.{IsParent, GoDown}
use Rattle.tplane_paver.specs.declared.runs.Run.{Run}
use Rattle.tplane_paver.specs.Runs.{run_at, IsBefore, AreInOrder}
use Rattle.tplane_paver.specs.Components.{set_at, HasRun}

-- two runs have pairs that are one, or neighbours
pub record Touch (r s : Run) : Type 0 where
  pub a_up : r.a ≤ s.a + 1
  pub a_down : s.a ≤ r.a + 1
  pub b_up : r.first ≤ s.last + 1
  pub b_down : s.first ≤ r.last + 1

-- one run comes before the other and before all that touch it
pub record IsClearOf (r s : Run) : Type 0 where
  pub rows : r.a + 1 ≤ s.a
  pub apart : r.a + 1 ≡ s.a → r.last + 1 < s.first

-- two runs of a list touch
abbrev pub Touching : List Run → ℕ → ℕ → Type 0
Touching runs i j = (i < length runs) × (j < length runs) × Touch (run_at runs i) (run_at runs j)

-- The trees join only runs that hang together, and those below m that touch are joined, and of those below i each that touches m.
pub record IsSweptTo (runs : List Run) (parents : List ℕ) (m i : ℕ) : Type 0 where
  pub len : length parents ≡ length runs
  pub down : GoDown parents
  pub sound : Maps (IsParent parents) (Touching runs)
  pub done : (j k : ℕ) → j < k → k < m → Touch (run_at runs j) (run_at runs k) → Joined (IsParent parents) j k
  pub near : (j : ℕ) → j < i → Touch (run_at runs j) (run_at runs m) → Joined (IsParent parents) j m

abbrev pub IsSwept : List Run → List ℕ → ℕ → Type 0
IsSwept runs parents m = IsSweptTo runs parents m 0

-- A run was put at the end of the set c, which was there, or is a new one after all others.
pub record AddsRun (old new : List (List Run)) (c : ℕ) (r : Run) : Type 0 where
  pub more : length old ≤ length new
  pub one : length new ≤ length old + 1
  pub has : c < length new
  pub only : (d : ℕ) → d < length new → (d < length old) ⊎ (d ≡ c)
  pub grows : set_at new c ≡ set_at old c ++ r ∷ []
  pub others : (d : ℕ) → d ≢ c → set_at new d ≡ set_at old d

-- The runs below i are gathered by label: each set has those of its label, and runs of one label hang together.
pub record AreGathered (runs : List Run) (parents : List ℕ) (i : ℕ) (labels : List ℕ) (sets : List (List Run)) : Type 0 where
  pub len : length labels ≡ i
  pub few : length sets ≤ i
  pub bound : (k : ℕ) → k < i → slice_index labels k < length sets
  pub same : (k : ℕ) → k < i → slice_index labels (slice_index parents k) ≡ slice_index labels k
  pub linked : (k l : ℕ) → k < i → l < i → slice_index labels k ≡ slice_index labels l → Joined (Touching runs) k l
  pub member : (c m : ℕ) → c < length sets → m < length (set_at sets c) → (k : ℕ) × (k < i) × (slice_index labels k ≡ c) × (run_at runs k ≡ run_at (set_at sets c) m)
  pub full : (k : ℕ) → k < i → HasRun (set_at sets (slice_index labels k)) (run_at runs k)
  pub some : (c : ℕ) → c < length sets → 1 ≤ length (set_at sets c)
  pub order : (c d : ℕ) → c < d → d < length sets → IsBefore (run_at (set_at sets c) 0) (run_at (set_at sets d) 0)
  pub room : (c : ℕ) → length (set_at sets c) ≤ i
  pub ordered : (c : ℕ) → c < length sets → AreInOrder (set_at sets c)
