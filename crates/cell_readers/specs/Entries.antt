-- Lists of numbers that stand in one table, each entry with the place of the one before it.
use Rattle.std.specs.Prelude.{◌≡◌, ℕ, zero, suc, ◌<◌, ◌≤◌, ◌↔◌, All, Bool, true, false, not, ◌||◌, List, [], ◌∷◌, length, cond, count_by, nat_eq, slice_index, slice_index_or}
use Rattle.std.specs.List.{list_any, filter, Contains}
use Rattle.cell_readers.specs.declared.chain.Entry.{Entry}

abbrev pub no_entry : Entry
no_entry = record { number = 0; before = 0 }

-- each entry leads to one before it
abbrev pub Falls : List Entry → Type 0
Falls entries = (k : ℕ) → (slice_index_or entries k no_entry).before ≤ k

-- at most so many numbers from a place on
abbrev pub walk : ℕ → List Entry → ℕ → List ℕ
walk zero entries place = []
walk (suc most) entries zero = []
walk (suc most) entries (suc k) = (slice_index_or entries k no_entry).number ∷ walk most entries (slice_index_or entries k no_entry).before

-- the numbers from a place on
abbrev pub chain : List Entry → ℕ → List ℕ
chain entries place = walk place entries place

-- a place in a table whose entries fall, or the end
pub record IsPlace (entries : List Entry) (place : ℕ) : Type 0 where
  pub falls : Falls entries
  pub within : place ≤ length entries

-- the table, with the place where the list of each cell begins, and how many contractors were added
pub record AreChained (entries : List Entry) (heads : List ℕ) (contractors : ℕ) : Type 0 where
  pub falls : Falls entries
  pub within : (cell : ℕ) → slice_index heads cell ≤ length entries
  pub numbers : All (λ (e : Entry). e.number < contractors) entries
  pub few : length entries ≤ 4000000000

-- a cell is among those that a contractor reads
abbrev pub reads_cell : List ℕ → ℕ → Bool
reads_cell scope cell = list_any (nat_eq cell) scope

-- a number is the first of a list
abbrev pub begins : ℕ → List ℕ → Bool
begins n [] = false
begins n (m ∷ ms) = nat_eq m n

-- a number at the front of a list, unless it is there already
abbrev pub noted : ℕ → List ℕ → List ℕ
noted n ns = cond (begins n ns) ns (n ∷ ns)

-- how often a number stands in a list
abbrev pub times : ℕ → List ℕ → ℕ
times n ms = count_by (λ m. nat_eq m n) ms

-- a list without a number
abbrev pub without : ℕ → List ℕ → List ℕ
without n ms = filter (λ m. not (nat_eq m n)) ms

-- from one list to another a number was dropped, once or more or not at all
pub record Drops (n : ℕ) (old new : List ℕ) : Type 0 where
  pub others : without n new ≡ without n old
  pub no_more : times n new ≤ times n old

-- the number in the entry with an index
abbrev pub number_at : List Entry → ℕ → ℕ
number_at entries k = (slice_index_or entries k no_entry).number

-- What contracts see: for each cell the numbers of those that read it, how many entries there are, how many contractors, and for how
-- many entries there is memory.
pub record Table : Type 0 where
  pub readers : List (List ℕ)
  pub entries : ℕ
  pub contractors : ℕ
  pub room : ℕ

-- those that read a cell
abbrev pub readers_at : List (List ℕ) → ℕ → List ℕ
readers_at readers cell = slice_index_or readers cell []

-- the list of a cell has exactly the numbers of those that read it, each once
pub record AreReaders (scopes readers : List (List ℕ)) : Type 0 where
  pub exact : (cell n : ℕ) → Contains (readers_at readers cell) n ↔ ((n < length scopes) × (reads_cell (slice_index_or scopes n []) cell ≡ true))
  pub count : (cell : ℕ) → length (readers_at readers cell) ≡ count_by (λ scope. reads_cell scope cell) scopes
  pub once : (cell n : ℕ) → times n (readers_at readers cell) ≤ 1

-- a number comes to the front of the list of each cell that it reads, and the other lists stay
pub record AddsReader (old : List (List ℕ)) (number : ℕ) (scope : List ℕ) (new : List (List ℕ)) : Type 0 where
  pub length : length new ≡ length old
  pub lists : (cell : ℕ) → readers_at new cell ≡ cond (reads_cell scope cell) (number ∷ readers_at old cell) (readers_at old cell)

-- who waits afterwards waited before or is among some numbers
pub record AreAwake (numbers : List ℕ) (old new : List Bool) : Type 0 where
  pub length : length new ≡ length old
  pub waits : (k : ℕ) → slice_index_or new k false ≡ (reads_cell numbers k || slice_index_or old k false)

-- a number is among those that read a cell
abbrev pub is_reader : List (List ℕ) → ℕ → ℕ → Bool
is_reader readers k cell = list_any (nat_eq k) (readers_at readers cell)

-- who waits afterwards waited before or reads one of the cells
pub record WakesReaders (readers : List (List ℕ)) (cells : List ℕ) (old new : List Bool) : Type 0 where
  pub length : length new ≡ length old
  pub waits : (k : ℕ) → slice_index_or new k false ≡ (slice_index_or old k false || list_any (is_reader readers k) cells)
