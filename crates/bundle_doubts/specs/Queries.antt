-- What is doubted of the queries of a bundle, over the printed box of its last section.
use Rattle.std.specs.Prelude.{◌≡◌, ◌≢◌, ℕ, ◌+◌, ◌<◌, ◌⊎◌, false, true, Option, Some, None, List, Contains, ℤ, pos, length, slice_get}
use Rattle.hull_tree.specs.Plane.{Plane, is_possible, is_sure, plane_of}
use Rattle.loop_degree.specs.Boundary.{IsLabelledBoundary}
use Rattle.loop_degree.specs.Cells.{IsCornerOf}
use Rattle.loop_degree.specs.Degree.{IsReached, IsValid, change_in}
use Rattle.loop_degree.specs.Labels.{LabelHolds, degree_of, label_at}
use Rattle.loop_degree.specs.Steps.{step_bound_of}
use Rattle.loop_degree.specs.declared.labels.Label.{Label}
use Rattle.loop_report.specs.Loops.{greatest_by, least_by}
use Rattle.loop_sets.specs.declared.finding.Finding.TheVariants.{Sure, Degree}
use Rattle.mission_items.specs.declared.item.Item.{Item}
use Rattle.mission_loops.specs.Queries.{queries, rates_of}
use Rattle.tplane_paver.specs.Runs.{InRuns, IsBefore, pair_count, run_at}
use Rattle.tplane_paver.specs.declared.runs.Run.{Run}
use Rattle.tube_names.specs.declared.queries.Query.{Query}
use Rattle.tube_spec.specs.Grid.{last_tick}
use Rattle.tube_spec.specs.Span.{Span}
use Rattle.tube_spec.specs.Tick.{at_tick}
use Rattle.bundle_text.specs.declared.bundle.TracedQuery.{TracedQuery}
use Rattle.bundle_text.specs.declared.bundle.TracedSet.{TracedSet}
use Rattle.bundle_doubts.specs.Printed.{signals_alone}

-- ---- which queries are due

-- The query at a place, from 0, is due: its number is its place, from 1, and the records have a query of that number.
pub record IsAsked (items : List Item) (told : List TracedQuery) (k : ℕ) (t : TracedQuery) (q : Query) : Type 0 where
  pub at : slice_get told k ≡ Some t
  pub numbered : t.number ≡ k + 1
  pub there : slice_get (queries items) k ≡ Some q

-- at a place the queries are not those of the records: one stands there that isn't due, or they end there, and the records have more
abbrev pub IsOther : List Item → List TracedQuery → ℕ → Type 0
IsOther items told k =
    ((t : TracedQuery) × (slice_get told k ≡ Some t) × ((q : Query) → IsAsked items told k t q → ⊥)) ⊎ ((k ≡ length told) × (k < length (queries items)))

-- ---- of a set

-- the runs rise by row and then by tick, and two of one row neither touch nor overlap
abbrev pub DoRise : List Run → Type 0
DoRise runs = (i j : ℕ) → i < j → j < length runs → IsBefore (run_at runs i) (run_at runs j)

-- a run holds a pair that isn't valid
abbrev pub HoldsInvalid : ℕ → ℕ → List Run → Type 0
HoldsInvalid gap last runs = (a b : ℕ) × InRuns runs a b × (IsValid gap last (a, b) → ⊥)

-- the line of a set has the count and the spans of its runs
pub record IsSummed (t : TracedSet) : Type 0 where
  pub pairs : t.pairs ≡ pair_count t.runs
  pub a : t.a ≡ (least_by (λ r. r.a) t.runs, greatest_by (λ r. r.a) t.runs)
  pub b : t.b ≡ (least_by (λ r. r.first) t.runs, greatest_by (λ r. r.last) t.runs)

-- the pair of a set that is proved as sure isn't in its runs, or isn't sure
abbrev pub IsUnsure : Plane → TracedSet → Type 0
IsUnsure p t = (a b : ℕ) × (t.finding ≡ Sure a b) × ((InRuns t.runs a b → ⊥) ⊎ (is_sure p a b ≡ false))

-- a set is printed that the box isn't known to have: over the empty box no set is due
abbrev pub OfSet : List ℕ → List Item → Option (List Span) → Query → TracedSet → Type 0
OfSet grid items None q t = Unit {0}
OfSet grid items (Some xs) q t =
    (DoRise t.runs → ⊥) ⊎ (HoldsInvalid q.gap (last_tick grid) t.runs ⊎ ((IsSummed t → ⊥) ⊎ IsUnsure (plane_of (signals_alone grid items) xs q) t))

-- ---- of the degree of a set, over a box that isn't empty

-- a cell has a corner that isn't valid
abbrev pub HasInvalid : ℕ → ℕ → TracedSet → Type 0
HasInvalid gap last t = (c p : ℕ × ℕ) × Contains t.cells c × IsCornerOf c p × (IsValid gap last p → ⊥)

-- a cell has a corner that is possible, and stands outside the runs
abbrev pub HasStray : Plane → TracedSet → Type 0
HasStray p t = (c e : ℕ × ℕ) × Contains t.cells c × IsCornerOf c e × (is_possible p e.0 e.1 ≡ true) × (InRuns t.runs e.0 e.1 → ⊥)

-- a corner line has a tick above the last
abbrev pub IsOffClock : ℕ → TracedSet → Type 0
IsOffClock last t = (l : ℕ × ℕ × Label) × Contains t.corners l × ((last < l.0) ⊎ (last < l.1))

-- the step bounds of the cells, for both signals of the query
abbrev pub bound_of : List ℕ → List Item → List Span → ℕ → TracedSet → ℤ
bound_of grid items xs x t = step_bound_of (at_tick (signals_alone grid items) xs) x (rates_of items x) t.cells

-- a corner line has a label that does not hold under these bounds
abbrev pub IsMislabelled : List ℕ → List Item → List Span → Query → TracedSet → Type 0
IsMislabelled grid items xs q t =
    (l : ℕ × ℕ × Label) × Contains t.corners l
    × (LabelHolds (bound_of grid items xs q.x.0 t) (bound_of grid items xs q.y.0 t) l.2
    (change_in (at_tick (signals_alone grid items) xs) q.x.0 (l.0, l.1)) (change_in (at_tick (signals_alone grid items) xs) q.y.0 (l.0, l.1)) → ⊥)

-- the cells and corners have the printed degree, and it isn't 0
pub record IsTurned (t : TracedSet) (degree : ℤ) : Type 0 where
  pub boundary : IsLabelledBoundary t.cells t.corners
  pub degree_is : degree ≡ degree_of t.cells (label_at t.corners)
  pub some : degree ≢ pos 0

abbrev pub OfCells : List ℕ → List Item → List Span → Query → TracedSet → ℤ → Type 0
OfCells grid items xs q t degree =
    HasInvalid q.gap (last_tick grid) t
    ⊎ (HasStray (plane_of (signals_alone grid items) xs q) t
    ⊎ (IsOffClock (last_tick grid) t
    ⊎ (IsMislabelled grid items xs q t
    ⊎ ((IsReached q (bound_of grid items xs q.x.0 t) (bound_of grid items xs q.y.0 t) → ⊥)
    ⊎ (IsTurned t degree → ⊥)))))

-- of a set that is proved by its degree
abbrev pub OfDegree : List ℕ → List Item → Option (List Span) → Query → TracedSet → Type 0
OfDegree grid items None q t = ⊥
OfDegree grid items (Some xs) q t = (degree : ℤ) × (t.finding ≡ Degree degree) × OfCells grid items xs q t degree
