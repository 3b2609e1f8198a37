-- Where a tick stands in a grid.
use Rattle.std.specs.Prelude.{◌≡◌, ◌≢◌, ℕ, ◌+◌, ◌<◌, ◌≤◌, List, length, slice_index, Option, MatchOption}

-- the last slice that begins at the tick or before it
pub record IsSliceOf (grid : List ℕ) (tick i : ℕ) : Type 0 where
  pub among : i + 1 < length grid
  pub begins : slice_index grid i ≤ tick
  pub greatest : (j : ℕ) → j + 1 < length grid → slice_index grid j ≤ tick → j ≤ i

-- the boundary at the tick, or none where no boundary is there
abbrev pub IsGateOf : List ℕ → ℕ → Option ℕ → Type 0
IsGateOf grid tick answer =
    MatchOption answer ((i : ℕ) → i < length grid → slice_index grid i ≢ tick) (λ i. (i < length grid) × (slice_index grid i ≡ tick))
