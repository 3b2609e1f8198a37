-- The cells of a set as runs.
use Rattle.std.specs.Prelude.{◌≡◌, ℕ, ◌+◌, ◌-◌, ◌<◌, ◌≤◌, ◌⊎◌, Option, MatchOption, List, length}
use Rattle.tplane_paver.specs.declared.runs.Run.{Run}
use Rattle.tplane_paver.specs.Runs.{InRun, run_at}

-- a pair lies in the run, if there is one
abbrev pub InOption : Option Run → ℕ → ℕ → Type 0
InOption o a b = MatchOption o ⊥ (λ r. InRun r a b)

-- The corners of the cell (a, b) are valid, and one of its two ticks b and b + 1 is in the run.
pub record IsOver (r : Run) (gap last a b : ℕ) : Type 0 where
  pub apart : a + 1 + gap ≤ b
  pub within : b + 1 ≤ last
  pub low : r.first ≤ b + 1
  pub high : b ≤ r.last

-- The cell (a, b) is over one of the first n runs, which is of its row or of the next.
abbrev pub IsOverBelow : List Run → ℕ → ℕ → ℕ → ℕ → ℕ → Type 0
IsOverBelow runs n gap last a b =
    (i : ℕ) × (i < n) × (((run_at runs i).a ≡ a) ⊎ ((run_at runs i).a ≡ a + 1)) × IsOver (run_at runs i) gap last a b

abbrev pub IsOverSome : List Run → ℕ → ℕ → ℕ → ℕ → Type 0
IsOverSome runs gap last a b = IsOverBelow runs (length runs) gap last a b

-- each run has a pair
abbrev pub HavePairs : List Run → Type 0
HavePairs runs = (i : ℕ) → i < length runs → (run_at runs i).first ≤ (run_at runs i).last

-- one run begins no later than the other, by row and then by tick
pub record BeginsUpTo (r s : Run) : Type 0 where
  pub rows : r.a ≤ s.a
  pub ticks : r.a ≡ s.a → r.first ≤ s.first

-- each run of a list begins no later than this one
abbrev pub AllBeginUpTo : List Run → Run → Type 0
AllBeginUpTo runs s = (k : ℕ) → k < length runs → BeginsUpTo (run_at runs k) s

-- the beginnings of runs never fall
abbrev pub BeginInOrder : List Run → Type 0
BeginInOrder runs = (i j : ℕ) → i ≤ j → j < length runs → BeginsUpTo (run_at runs i) (run_at runs j)

-- The last run of a list is of this one's row, and overlaps or touches it.
pub record JoinsLast (runs : List Run) (s : Run) : Type 0 where
  pub some : 0 < length runs
  pub row : (run_at runs (length runs - 1)).a ≡ s.a
  pub near : s.first ≤ (run_at runs (length runs - 1)).last + 1
