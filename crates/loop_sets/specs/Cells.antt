-- The cells of a set of pairs.
use Rattle.std.specs.Prelude.{◌≡◌, ℕ, zero, suc, ◌+◌, ◌-◌, true, List, [], ◌∷◌, ◌++◌, ◌↔◌}
use Rattle.tplane_paver.specs.declared.runs.Run.{Run}
use Rattle.tplane_paver.specs.Runs.{InRuns}
use Rattle.loop_degree.specs.Pairs.{IsRising, has}
use Rattle.loop_degree.specs.Cells.{IsCornerOf}
use Rattle.loop_degree.specs.Degree.{IsValid}

-- A cell of a set: all its corners are valid pairs, and one of them is in the set.
pub record IsCellOf (runs : List Run) (gap last : ℕ) (c : ℕ × ℕ) : Type 0 where
  pub valid : (p : ℕ × ℕ) → IsCornerOf c p → IsValid gap last p
  pub in_set : (p : ℕ × ℕ) × IsCornerOf c p × InRuns runs p.0 p.1

-- All cells of a set, in rising order. There is one such list alone.
pub record AreCellsOf (runs : List Run) (gap last : ℕ) (cells : List (ℕ × ℕ)) : Type 0 where
  pub rising : IsRising cells
  pub same : (c : ℕ × ℕ) → (has cells c ≡ true) ↔ IsCellOf runs gap last c

-- the pairs (a, b), (a, b + 1) and so on, n of them
abbrev pub column : ℕ → ℕ → ℕ → List (ℕ × ℕ)
column a b zero = []
column a b (suc n) = (a, b) ∷ column a (b + 1) n

-- how many ticks a run has
abbrev pub ticks_in : Run → ℕ
ticks_in r = r.last + 1 - r.first

-- the pairs in runs, one by one
abbrev pub pairs_in : List Run → List (ℕ × ℕ)
pairs_in [] = []
pairs_in (r ∷ runs) = column r.a r.first (ticks_in r) ++ pairs_in runs
