-- The grid of a clock: the boundary ticks of its slices.
use Rattle.std.specs.Prelude.{◌≡◌, ℕ, ◌+◌, ◌-◌, ◌<◌, ◌≤◌, List, length, slice_index}
use Rattle.tube_spec.specs.Limits.{most_ticks}

-- Boundaries that rise from tick 0 to at most tick 100,000, with a slice between each two neighbours.
pub record IsGrid (grid : List ℕ) : Type 0 where
  pub slices : 2 ≤ length grid
  pub short : length grid ≤ most_ticks + 1
  pub starts : slice_index grid 0 ≡ 0
  pub rising : (i : ℕ) → i + 1 < length grid → slice_index grid i < slice_index grid (i + 1)
  pub ends : slice_index grid (length grid - 1) ≤ most_ticks

-- the last tick of the clock
abbrev pub last_tick : List ℕ → ℕ
last_tick grid = slice_index grid (length grid - 1)
