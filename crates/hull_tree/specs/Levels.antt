-- The levels of a tree over ticks: at each level the hulls of blocks of one side, which is twice that of the level below.
use Rattle.std.specs.Prelude.{◌≡◌, ℕ, ◌+◌, ◌-◌, ◌*◌, ◌/◌, ◌^◌, ◌<◌, ◌≤◌, List, [], Vec, map, min, length, slice_index_or, vec_items}
use Rattle.std.specs.declared.alloc.Global.{Global}
use Rattle.tube_spec.specs.Limits.{most_ticks}
use Rattle.tube_spec.specs.Span.{Span}
use Rattle.tube_spec.specs.Box.{IsBox, AreBounded}
use Rattle.hull_tree.specs.declared.hulls.Bounds.{Bounds}
use Rattle.hull_tree.specs.Judging.{both, bounds_over}

-- over the ticks from a on, before tick end
abbrev pub bounds_before : List Span → ℕ → ℕ → Bounds
bounds_before xs a end = bounds_over xs a (end - 1 - a)

-- One level: block i holds the hull over the ticks from i * side on, as far as there are ticks and before (i + 1) * side.
pub record IsLevel (xs : List Span) (side : ℕ) (row : List Bounds) : Type 0 where
  pub few : (i : ℕ) → i < length row → i * side < length xs
  pub all : (i : ℕ) → i * side < length xs → i < length row
  pub hulls : (i : ℕ) (d : Bounds) → i * side < length xs → slice_index_or row i d ≡ bounds_before xs (i * side) (min (i * side + side) (length xs))

-- the levels as lists
abbrev pub levels_of : List (Vec Bounds Global) → List (List Bounds)
levels_of levels = map vec_items levels

abbrev pub level_at : List (List Bounds) → ℕ → List Bounds
level_at levels k = slice_index_or levels k []

-- the levels as far as they go, of which the two lowest are left out
pub record AreLevels (xs : List Span) (levels : List (List Bounds)) : Type 0 where
  pub some : 3 ≤ length levels
  pub each : (k : ℕ) → 2 ≤ k → k < length levels → IsLevel xs (2 ^ k) (level_at levels k)

-- what holds of every tree over the intervals of ticks: the last level has one block
pub record IsTree (xs : List Span) (rows : List (List Bounds)) : Type 0 where
  pub some : 1 ≤ length xs
  pub short : length xs ≤ most_ticks + 1
  pub proper : IsBox xs
  pub bounded : AreBounded xs
  pub levels : AreLevels xs rows
  pub wide : length xs ≤ 2 ^ (length rows - 1)

-- A level from the one below: each two neighbours joined, and a last one that stands alone as it is.
pub record IsHalved (row above : List Bounds) : Type 0 where
  pub len : length above ≡ (length row + 1) / 2
  pub joined : (i : ℕ) (d : Bounds) → 2 * i + 1 < length row → slice_index_or above i d ≡ both (slice_index_or row (2 * i) d) (slice_index_or row (2 * i + 1) d)
  pub alone : (i : ℕ) (d : Bounds) → 2 * i + 1 ≡ length row → slice_index_or above i d ≡ slice_index_or row (2 * i) d
