-- Tables of the greatest numbers over ranges of places.
use Rattle.std.specs.Prelude.{ℕ, ◌+◌, ◌*◌, ◌<◌, ◌≤◌, Option, Some, None, List, length, ℤ, pos, neg_ℤ, ◌-ℤ◌, ◌≤ℤ◌, slice_index_or}
use Rattle.std.specs.Int.{int_max}
use Rattle.tube_spec.specs.Span.{Span, natural}
use Rattle.loop_sets.specs.declared.table.Level.{Level}

-- the number at a place, 0 past the last
abbrev pub number_at : List ℤ → ℕ → ℤ
number_at values k = slice_index_or values k (pos 0)

-- from -1,000,000,000 to 1,000,000,000
abbrev pub IsSmallNumber : ℤ → Type 0
IsSmallNumber z = (neg_ℤ (pos 1000000000) ≤ℤ z) × (z ≤ℤ pos 1000000000)

abbrev pub AreSmall : List ℤ → Type 0
AreSmall values = (k : ℕ) → IsSmallNumber (number_at values k)

-- a small number that no number from a place to another is above
pub record IsTop (values : List ℤ) (first last : ℕ) (top : ℤ) : Type 0 where
  pub over : (k : ℕ) → first ≤ k → k ≤ last → number_at values k ≤ℤ top
  pub small : IsSmallNumber top

-- The tops of a level are small, and none of the numbers of the block that begins at a place is above its top.
pub record IsLevel (values : List ℤ) (level : Level) : Type 0 where
  pub over : (i k : ℕ) → i < length level.tops.items → i ≤ k → k < i + level.side → number_at values k ≤ℤ number_at level.tops.items i
  pub small : AreSmall level.tops.items

-- how many numbers a block has, but the last one
abbrev pub block_side : ℕ
block_side = 32

-- a place is in a block
abbrev pub IsInBlock : ℕ → ℕ → Type 0
IsInBlock i k = (block_side * i ≤ k) × (k < block_side * i + block_side)

-- The numbers in blocks: of each block a small number that none of its numbers is above.
pub record AreBlockTops (values tops : List ℤ) : Type 0 where
  pub over : (i k : ℕ) → k < length values → IsInBlock i k → number_at values k ≤ℤ number_at tops i
  pub small : AreSmall tops
  pub all : length values ≤ block_side * length tops
  pub few : length tops ≤ length values

-- what the greatest change from an interval to others is not below: no lower bound of them is above the first number, and no opposite of
-- an upper bound above the second
abbrev pub reach_of : Span → Option ℤ → Option ℤ → ℕ
reach_of at (Some lower) (Some upper) = natural (int_max (neg_ℤ upper -ℤ at.lo) (at.hi -ℤ lower))
reach_of at (Some lower) None = 0
reach_of at None upper = 0
