-- Lists of runs of pairs.
use Rattle.std.specs.Prelude.{◌≡◌, ℕ, ◌+◌, ◌-◌, ◌<◌, ◌≤◌, Bool, List, length, sum_by, IsTrue, ◌↔◌, slice_index_or}
use Rattle.tplane_paver.specs.declared.runs.Run.{Run}

-- the pair (a, b) lies in a run
pub record InRun (r : Run) (a b : ℕ) : Type 0 where
  pub row : r.a ≡ a
  pub first : r.first ≤ b
  pub last : b ≤ r.last

abbrev pub run_at : List Run → ℕ → Run
run_at runs i = slice_index_or runs i (record { a = 0; first = 0; last = 0 })

-- the pair lies in one of the runs
abbrev pub InRuns : List Run → ℕ → ℕ → Type 0
InRuns runs a b = (i : ℕ) × (i < length runs) × InRun (run_at runs i) a b

-- one run comes before the other, and in one row a pair between is in neither
pub record IsBefore (r s : Run) : Type 0 where
  pub rows : r.a ≤ s.a
  pub apart : r.a ≡ s.a → r.last + 1 < s.first

-- each run has a pair, and each comes before all later ones
pub record AreInOrder (runs : List Run) : Type 0 where
  pub some : (i : ℕ) → i < length runs → (run_at runs i).first ≤ (run_at runs i).last
  pub order : (i j : ℕ) → i < j → j < length runs → IsBefore (run_at runs i) (run_at runs j)

-- The runs hold exactly these pairs. They are maximal, since in one row no run touches the next.
pub record AreMaximalRuns (pairs : ℕ → ℕ → Bool) (runs : List Run) : Type 0 where
  pub ordered : AreInOrder runs
  pub same : (a b : ℕ) → InRuns runs a b ↔ IsTrue (pairs a b)

-- how many pairs are in the runs
abbrev pub pair_count : List Run → ℕ
pair_count runs = sum_by (λ r. r.last + 1 - r.first) runs
