-- The maximal runs of a row, how many there are, and the list of all runs.
use Rattle.std.specs.Prelude.{◌≡◌, ℕ, zero, suc, ◌+◌, ◌<◌, ◌≤◌, Bool, true, false, not, ◌&&◌, List, [], ◌∷◌, length, IsTrue, ◌⊎◌, ◌↔◌, ◌++◌, map, slice_index_or, sum_by}
use Rattle.tplane_paver.specs.declared.rows.Stretch.{Stretch}
use Rattle.tplane_paver.specs.declared.runs.Run.{Run}

-- a number lies in a stretch
pub record IsIn (r : Stretch) (b : ℕ) : Type 0 where
  pub first : r.first ≤ b
  pub last : b ≤ r.last

-- one number begins a run where it is in f and the number before is not
abbrev pub begins : (ℕ → Bool) → ℕ → Bool
begins f zero = f zero
begins f (suc n) = f (suc n) && not (f n)

abbrev pub one_if : Bool → ℕ
one_if true = 1
one_if false = 0

-- how many maximal runs f has below n
abbrev pub starts : (ℕ → Bool) → ℕ → ℕ
starts f zero = 0
starts f (suc n) = starts f n + one_if (begins f n)

-- g 0 + g 1 + .. below n
abbrev pub sum_below : (ℕ → ℕ) → ℕ → ℕ
sum_below g zero = 0
sum_below g (suc n) = g zero + sum_below (λ i. g (suc i)) n

-- how many maximal runs the pairs have, row by row
abbrev pub runs_count : (ℕ → ℕ → Bool) → ℕ → ℕ
runs_count pairs n = sum_below (λ a. starts (pairs a) n) n

-- a number lies in one of the stretches
abbrev pub IsInSome : List Stretch → ℕ → Type 0
IsInSome [] b = ⊥
IsInSome (r ∷ rest) b = IsIn r b ⊎ IsInSome rest b

-- stretches that hold a number, from low on, in rising order, none touching the next
abbrev pub RisesFrom : ℕ → List Stretch → Type 0
RisesFrom low [] = Unit {0}
RisesFrom low (r ∷ rest) = (low ≤ r.first) × (r.first ≤ r.last) × RisesFrom (r.last + 2) rest

-- The stretches are the maximal runs of f, in rising order.
pub record AreRuns (f : ℕ → Bool) (row : List Stretch) : Type 0 where
  pub rises : RisesFrom 0 row
  pub same : (b : ℕ) → IsInSome row b ↔ IsTrue (f b)

-- a row of a list of rows
abbrev pub row_at : List (List Stretch) → ℕ → List Stretch
row_at rows a = slice_index_or rows a []

-- the rows are the maximal runs of all pairs, row by row
pub record ArePaved (pairs : ℕ → ℕ → Bool) (n : ℕ) (rows : List (List Stretch)) : Type 0 where
  pub len : length rows ≡ n
  pub runs : (a : ℕ) → a < n → AreRuns (pairs a) (row_at rows a)
  pub none : (a b : ℕ) → n ≤ a → IsTrue (pairs a b) → ⊥
  pub count : sum_by length rows ≡ runs_count pairs n

-- the stretches of one row as runs
abbrev pub row_runs : ℕ → List Stretch → List Run
row_runs a row = map (λ s. record { a = a; first = s.first; last = s.last }) row

-- the runs of the first n rows, in rising order
abbrev pub runs_below : List (List Stretch) → ℕ → List Run
runs_below rows zero = []
runs_below rows (suc n) = runs_below rows n ++ row_runs n (row_at rows n)
