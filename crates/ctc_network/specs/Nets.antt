-- What contracts see of a net.
use Rattle.std.specs.Prelude.{◌≡◌, ℕ, ◌≤◌, Option, Some, None, List, [], Bool, true, map, length, All, IfSome, IsSome, IsSomeAnd, is_some, sum_by, count_by, slice_get}
use Rattle.tube_spec.specs.Limits.{most_reads}
use Rattle.tube_spec.specs.Span.{Span}
use Rattle.tube_spec.specs.Shape.{Shape}
use Rattle.tube_spec.specs.Projection.{Projection}
use Rattle.tube_store.specs.State.{State, IsStore, no_cells}
use Rattle.cell_readers.specs.Entries.{Table, AreReaders, reads_cell}
use Rattle.cell_readers.specs.Waking.{AreAtRest}
use Rattle.part_marks.specs.Marks.{Marked}
use Rattle.part_marks.specs.Nets.{AreBeside, AreMarked}

-- the store, what stands under each number that was given, and beside it whether it waits
pub record Places (K : Type 0) : Type 0 where
  pub store : State
  pub contractors : List K
  pub waiting : List Bool

-- A net: under each number that was given stands a contractor, or none where it was taken out.
abbrev pub NetState : Type 0 → Type 0
NetState C = Places (Option C)

-- what a contractor has at its place: its projections, or its scope; a place with none has nothing
abbrev pub of_place : {C X : Type 0} → (C → Shape → List X) → Option C → Shape → List X
of_place f None s = []
of_place f (Some c) s = f c s

-- a contractor fits at its place; a place with none fits always
abbrev pub fits_place : {C : Type 0} → (C → Shape → Option (List Span) → Type 0) → Option C → Shape → Option (List Span) → Type 0
fits_place fits None s b = Unit {0}
fits_place fits (Some c) s b = fits c s b

-- a number is of the net where a contractor stands under it
abbrev pub IsThere : {C : Type 0} → List (Option C) → ℕ → Type 0
IsThere cs k = IsSomeAnd (slice_get cs k) IsSome

-- who waits is of the net
abbrev pub AreThere : {C : Type 0} → List (Option C) → List Bool → Type 0
AreThere cs waiting = (k : ℕ) → slice_get waiting k ≡ Some true → IsThere cs k

-- how many contractors there are
abbrev pub count_there : {C : Type 0} → List (Option C) → ℕ
count_there cs = count_by is_some cs

-- a net with no cell and no contractor
abbrev pub no_net : {C : Type 0} → List ℕ → NetState C
no_net grid = record { store = no_cells grid; contractors = []; waiting = [] }

-- whether a contractor reads a cell
abbrev pub reads_by : {C : Type 0} → (C → Shape → List ℕ) → Shape → C → ℕ → Bool
reads_by scope s c cell = reads_cell (scope c s) cell

-- how many of the contractors read a cell
abbrev pub readers_of : {C : Type 0} → (C → Shape → List ℕ) → Shape → List C → ℕ → ℕ
readers_of scope s cs cell = count_by (λ c. reads_cell (scope c s) cell) cs

-- the cells that each contractor reads, added up
abbrev pub entries_of : {C : Type 0} → (C → Shape → List ℕ) → Shape → List C → ℕ
entries_of scope s cs = sum_by (λ c. length (scope c s)) cs

-- what holds of the places of every net: above all, each contractor that does not wait leaves the box
pub record ArePlaces {C : Type 0} (projections : C → Shape → List Projection) (scope : C → Shape → List ℕ) (fits : C → Shape → Option (List Span) → Type 0) (n : Places C) : Type 0 where
  pub store : IsStore n.store
  pub few : length n.contractors ≤ 4000000000
  pub beside : length n.waiting ≡ length n.contractors
  pub fit : All (λ c. fits c n.store.shape n.store.box) n.contractors
  pub entries : entries_of scope n.store.shape n.contractors ≤ most_reads
  pub rest : AreAtRest (λ c. projections c n.store.shape) n.contractors n.waiting n.store.box

-- what holds of every net: it is so of its places, and who waits is there
pub record IsNet {C : Type 0} (projections : C → Shape → List Projection) (scope : C → Shape → List ℕ) (fits : C → Shape → Option (List Span) → Type 0) (n : NetState C) : Type 0 where
  pub places : ArePlaces (of_place projections) (of_place scope) (fits_place fits) n
  pub there : AreThere n.contractors n.waiting

-- no cell is touched, unless the box is empty
abbrev pub IsDrained : State → Type 0
IsDrained s = IfSome s.box (λ xs. s.touched ≡ [])

-- the places between two calls: the readers of what became narrower were woken
pub record IsSettlable {C : Type 0} (projections : C → Shape → List Projection) (scope : C → Shape → List ℕ) (fits : C → Shape → Option (List Span) → Type 0) (n : Places C) : Type 0 where
  pub net : ArePlaces projections scope fits n
  pub drained : IsDrained n.store

-- the table has exactly the readers of each cell
pub record IsTableOf (scopes : List (List ℕ)) (table : Table) (entries : ℕ) : Type 0 where
  pub readers : AreReaders scopes table.readers
  pub contractors : table.contractors ≡ length scopes
  pub sum : entries ≡ sum_by (λ scope. length scope) scopes

-- The invariant of the places, with the table of the readers of its cells, and how many cells are read, those of each contractor added up.
pub record IsKept {C : Type 0} (projections : C → Shape → List Projection) (scope : C → Shape → List ℕ) (fits : C → Shape → Option (List Span) → Type 0)
    (n : Places C) (table : Table) (entries : ℕ) : Type 0 where
  pub state : IsSettlable projections scope fits n
  pub table_of : IsTableOf (map (λ c. scope c n.store.shape) n.contractors) table entries

-- the invariant of a net, with how many contractors there are
pub record IsNetKept {C : Type 0} (projections : C → Shape → List Projection) (scope : C → Shape → List ℕ) (fits : C → Shape → Option (List Span) → Type 0)
    (n : NetState C) (table : Table) (entries many : ℕ) : Type 0 where
  pub kept : IsKept (of_place projections) (of_place scope) (fits_place fits) n table entries
  pub there : AreThere n.contractors n.waiting
  pub count : many ≡ count_there n.contractors

-- Beside each contractor stand the marks of its parts: where the box is not empty, it is stable under each part that is not marked.
pub record HasMarks {C : Type 0} (parts : C → Shape → ℕ) (part : C → Shape → ℕ → List Projection) (store : State) (cs : List (Option C)) (marks : List Marked) : Type 0 where
  pub len : length marks ≡ length cs
  pub beside : AreBeside parts store.shape cs marks
  pub clean : AreMarked parts part store.shape store.box cs marks

-- the invariant of a net with the marks of its contractors' parts
pub record IsNetMarked {C : Type 0} (projections : C → Shape → List Projection) (scope : C → Shape → List ℕ) (fits : C → Shape → Option (List Span) → Type 0)
    (parts : C → Shape → ℕ) (part : C → Shape → ℕ → List Projection) (n : NetState C) (table : Table) (entries many : ℕ) (ms : List Marked) : Type 0 where
  pub net : IsNetKept projections scope fits n table entries many
  pub marks : HasMarks parts part n.store n.contractors ms
