-- The components of pairs under steps to the eight neighbours.
use Rattle.std.specs.Prelude.{◌≡◌, ℕ, zero, suc, ◌+◌, ◌<◌, ◌≤◌, List, [], length, slice_index_or}
use Rattle.tplane_paver.specs.declared.runs.Run.{Run}
use Rattle.tplane_paver.specs.Runs.{InRuns, run_at, IsBefore, AreInOrder}

-- two pairs are one, or neighbours
pub record IsBeside (a b c d : ℕ) : Type 0 where
  pub a_up : a ≤ c + 1
  pub a_down : c ≤ a + 1
  pub b_up : b ≤ d + 1
  pub b_down : d ≤ b + 1

-- a way of n steps from one pair to another, from neighbour to neighbour over pairs that are in
abbrev pub Reaches : (ℕ → ℕ → Type 0) → ℕ → ℕ → ℕ → ℕ → ℕ → Type 0
Reaches In zero a b c d = (a ≡ c) × (b ≡ d)
Reaches In (suc n) a b c d = (e : ℕ) × (f : ℕ) × In e f × IsBeside a b e f × Reaches In n e f c d

abbrev pub set_at : List (List Run) → ℕ → List Run
set_at sets i = slice_index_or sets i []

-- one of the runs is this one
abbrev pub HasRun : List Run → Run → Type 0
HasRun runs r = (i : ℕ) × (i < length runs) × (run_at runs i ≡ r)

-- the least and the greatest a of the pairs in the runs, and the least and the greatest b
pub record SpansA (runs : List Run) (least greatest : ℕ) : Type 0 where
  pub low : (a b : ℕ) → InRuns runs a b → least ≤ a
  pub high : (a b : ℕ) → InRuns runs a b → a ≤ greatest
  pub at_least : (b : ℕ) × InRuns runs least b
  pub at_greatest : (b : ℕ) × InRuns runs greatest b

pub record SpansB (runs : List Run) (least greatest : ℕ) : Type 0 where
  pub low : (a b : ℕ) → InRuns runs a b → least ≤ b
  pub high : (a b : ℕ) → InRuns runs a b → b ≤ greatest
  pub at_least : (a : ℕ) × InRuns runs a least
  pub at_greatest : (a : ℕ) × InRuns runs a greatest

-- The sets are the components of the pairs in the runs. Each run stands in one set, and no other run in any. Two pairs of one set reach
-- each other, and neighbours stand in the same set. No set is empty, and they come in the order of their least pairs.
pub record AreComponents (runs : List Run) (sets : List (List Run)) : Type 0 where
  pub sound : (i m : ℕ) → i < length sets → m < length (set_at sets i) → HasRun runs (run_at (set_at sets i) m)
  pub full : (k : ℕ) → k < length runs → (i : ℕ) × (i < length sets) × HasRun (set_at sets i) (run_at runs k)
  pub linked : (i a b c d : ℕ) → i < length sets → InRuns (set_at sets i) a b → InRuns (set_at sets i) c d → (n : ℕ) × Reaches (InRuns runs) n a b c d
  pub apart : (i j a b c d : ℕ) → i < length sets → j < length sets → InRuns (set_at sets i) a b → InRuns (set_at sets j) c d → IsBeside a b c d → i ≡ j
  pub some : (i : ℕ) → i < length sets → 1 ≤ length (set_at sets i)
  pub ordered : (i : ℕ) → i < length sets → AreInOrder (set_at sets i)
  pub order : (i j : ℕ) → i < j → j < length sets → IsBefore (run_at (set_at sets i) 0) (run_at (set_at sets j) 0)
