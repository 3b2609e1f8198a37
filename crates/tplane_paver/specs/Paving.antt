-- Rows of runs that grow while squares are judged.
use Rattle.std.specs.Prelude.{◌≡◌, ℕ, zero, suc, ◌+◌, ◌<◌, ◌≤◌, Bool, false, cond, ◌≢◌, List, [], ◌∷◌, Vec, map, vec_items, length, reverse, nat_eq, sum_by, Result, Ok, Err}
use Rattle.std.specs.declared.alloc.Global.{Global}
use Rattle.tplane_paver.specs.declared.rows.Stretch.{Stretch}
use Rattle.tplane_paver.specs.Rows.{row_at}
use Rattle.tplane_paver.specs.declared.paving.PaveFault.{PaveFault}
use Rattle.tplane_paver.specs.declared.paving.PaveFault.TheVariants.{Crowded, NoMemory}
use Rattle.tube_spec.specs.Limits.{most_runs}

-- a fact where there are too many runs
abbrev pub IfCrowded : {T : Type 0} → Result T PaveFault → Type 0 → Type 0
IfCrowded (Ok x) p = Unit {0}
IfCrowded (Err Crowded) p = p
IfCrowded (Err NoMemory) p = Unit {0}

-- the rows as lists
abbrev pub rows_of : List (Vec Stretch Global) → List (List Stretch)
rows_of rows = map vec_items rows

-- The runs of a row, the last one first, with the numbers from first to last, which come after them.
abbrev pub grown : List Stretch → ℕ → ℕ → List Stretch
grown [] first last = record { first = first; last = last } ∷ []
grown (r ∷ rest) first last =
    cond (nat_eq (r.last + 1) first) (record { first = r.first; last = last } ∷ rest) (record { first = first; last = last } ∷ r ∷ rest)

-- whether the last run ends right before a number
abbrev pub joins : List Stretch → ℕ → Bool
joins [] first = false
joins (r ∷ rest) first = nat_eq (r.last + 1) first

-- The numbers from first to last were put at the end of a row, and no other row changed.
pub record Puts (old new : List (List Stretch)) (a first last : ℕ) : Type 0 where
  pub len : length new ≡ length old
  pub row : (l : List Stretch) → row_at old a ≡ reverse l → row_at new a ≡ reverse (grown l first last)
  pub others : (i : ℕ) → i ≢ a → row_at new i ≡ row_at old i

-- the maximal runs of f below n, the last one first
abbrev pub runs_down : (ℕ → Bool) → ℕ → List Stretch
runs_down f zero = []
runs_down f (suc n) = cond (f n) (grown (runs_down f n) n n) (runs_down f n)

-- the row of a has the runs of the pairs below m
abbrev pub IsDone : (ℕ → ℕ → Bool) → List (List Stretch) → ℕ → ℕ → Type 0
IsDone pairs rows a m = row_at rows a ≡ reverse (runs_down (pairs a) m)

-- Each of the n rows has the runs below some number.
abbrev pub AreBegun : (ℕ → ℕ → Bool) → ℕ → List (List Stretch) → Type 0
AreBegun pairs n rows = (a : ℕ) → a < n → (m : ℕ) × IsDone pairs rows a m

-- The rows from a to before a_end, as far as they are below n, have the runs below b_end now. No other row changed.
pub record Advances (pairs : ℕ → ℕ → Bool) (n : ℕ) (old new : List (List Stretch)) (a a_end b_end : ℕ) : Type 0 where
  pub len : length new ≡ length old
  pub inside : (i : ℕ) → a ≤ i → i < a_end → i < n → IsDone pairs new i b_end
  pub before : (i : ℕ) → i < a → row_at new i ≡ row_at old i
  pub beyond : (i : ℕ) → a_end ≤ i → row_at new i ≡ row_at old i

-- the rows from a to before a_end, as far as they are below n, stand at b
abbrev pub StandAt : (ℕ → ℕ → Bool) → ℕ → List (List Stretch) → ℕ → ℕ → ℕ → Type 0
StandAt pairs n rows a a_end b = (i : ℕ) → a ≤ i → i < a_end → i < n → IsDone pairs rows i b

-- What holds of the rows and of the number of runs between two squares.
pub record IsWork (pairs : ℕ → ℕ → Bool) (n : ℕ) (rows : List (List Stretch)) (count : ℕ) : Type 0 where
  pub len : length rows ≡ n
  pub counted : count ≡ sum_by length rows
  pub room : count ≤ most_runs
  pub begun : AreBegun pairs n rows
