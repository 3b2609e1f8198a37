-- Lists of cuts: what makes a grid of them, and the cuts of slices of one width.
use Rattle.std.specs.Prelude.{◌≡◌, ◌≢◌, ℕ, zero, suc, ◌+◌, ◌*◌, ◌<◌, ◌≤◌, ◌⊎◌, List, [], ◌∷◌, ◌++◌, length, slice_index}
use Rattle.std.specs.Int.{div_ceil}
use Rattle.tube_spec.specs.Limits.{most_ticks}
use Rattle.tube_spec.specs.Grid.{last_tick}

-- two cuts at least, from tick 0 to at most tick 100,000
pub record HasEnds (cuts : List ℕ) : Type 0 where
  pub enough : 2 ≤ length cuts
  pub starts : slice_index cuts 0 ≡ 0
  pub ends : last_tick cuts ≤ most_ticks

-- fewer than two cuts, or a first one that is not 0, or a last one above 100,000
abbrev pub HasBadEnds : List ℕ → Type 0
HasBadEnds cuts = (length cuts < 2) ⊎ (slice_index cuts 0 ≢ 0) ⊎ (most_ticks < last_tick cuts)

-- some cut is not above the one before
abbrev pub HasFall : List ℕ → Type 0
HasFall cuts = (i : ℕ) × (i + 1 < length cuts) × (slice_index cuts (i + 1) ≤ slice_index cuts i)

-- 0, width, 2 * width and so on, n of them
abbrev pub multiples : ℕ → ℕ → List ℕ
multiples width zero = []
multiples width (suc n) = multiples width n ++ n * width ∷ []

-- 0, width, 2 * width and so on below ticks, and then ticks
abbrev pub uniform_cuts : ℕ → ℕ → List ℕ
uniform_cuts ticks width = multiples width (div_ceil ticks width) ++ ticks ∷ []
