-- Step bounds over runs of cells.
use Rattle.std.specs.Prelude.{ℕ, ◌<◌, ◌≤◌, List, length, ℤ, pos, ◌+ℤ◌, ◌≤ℤ◌, slice_index_or}
use Rattle.std.specs.Int.{int_max}
use Rattle.tplane_paver.specs.declared.runs.Run.{Run}
use Rattle.tplane_paver.specs.Runs.{run_at}

-- the step at a tick, 0 past the last
abbrev pub step_at : List ℤ → ℕ → ℤ
step_at steps k = slice_index_or steps k (pos 0)

-- steps from 0 to 1,000,000,000
abbrev pub AreSteps : List ℤ → Type 0
AreSteps steps = (k : ℕ) → (pos 0 ≤ℤ step_at steps k) × (step_at steps k ≤ℤ pos 1000000000)

-- the greater of a number and of what f gives both ticks of a pair
abbrev pub greater_sum : (ℕ → ℤ) → ℤ → ℕ × ℕ → ℤ
greater_sum f top c = int_max top (f c.0 +ℤ f c.1)

-- all ticks of the runs are before this one
abbrev pub EndBefore : List Run → ℕ → Type 0
EndBefore runs n = (i : ℕ) → i < length runs → ((run_at runs i).a < n) × ((run_at runs i).last < n)

-- no sum of f at a and f at a tick of a range is above a number
abbrev pub AreTopped : (ℕ → ℤ) → ℕ → ℤ → ℕ → ℕ → Type 0
AreTopped f a top first last = (k : ℕ) → first ≤ k → k ≤ last → (f a +ℤ f k) ≤ℤ top
