-- The places of ticks among the cells of a signal.
use Rattle.std.specs.Prelude.{◌≡◌, ℕ, ◌≤◌, List}
use Rattle.tube_spec.specs.Grid.{last_tick}
use Rattle.tube_spec.specs.Tick.{tick_place}

-- some tick of the clock is at the place
pub record MeetsTick (grid : List ℕ) (place : ℕ) : Type 0 where
  pub tick : ℕ
  pub within : tick ≤ last_tick grid
  pub there : tick_place grid tick ≡ place
