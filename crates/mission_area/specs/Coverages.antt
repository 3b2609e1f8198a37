-- What is told of the area that a query's sensor saw, over the box of a section.
use Rattle.std.specs.Prelude.{◌≡◌, ℕ, ◌<◌, List, [], ◌∷◌, Option, Some, None, ℤ, IfSome}
use Rattle.tube_spec.specs.Span.{Span, Holds}
use Rattle.tube_spec.specs.Shape.{Shape}
use Rattle.tube_spec.specs.Assignment.{Assignment}
use Rattle.tube_names.specs.declared.queries.Query.{Query}
use Rattle.area_paver.specs.Charts.{Chart, IsChart, mark_of, points_of, window_x, window_y}
use Rattle.area_paver.specs.Lattice.{coordinate, most_points}
use Rattle.area_paver.specs.Laws.{SeenBy}
use Rattle.area_paver.specs.declared.chart.Mark.TheVariants.{Never, Seen}
use Rattle.area_report.specs.declared.coverage.Coverage.{Coverage}
use Rattle.area_report.specs.declared.coverage.Coverage.TheVariants as coverage
use Rattle.mission_items.specs.declared.item.Item.{Item}
use Rattle.mission_net.specs.Records.{shape_by, SatisfiesAll}

-- ---- by the box

-- the lattice of a query over a box has more points than a chart may have
abbrev pub IsCrowded : Shape → List Span → Query → ℤ → Type 0
IsCrowded s xs q step = most_points < points_of s xs q step

-- Over a box that is there the query is crowded, or it has its chart.
abbrev pub IsCharted : Shape → List Span → Query → ℤ → Coverage → Type 0
IsCharted s xs q step coverage.Empty = ⊥
IsCharted s xs q step coverage.Crowded = IsCrowded s xs q step
IsCharted s xs q step (coverage.Charted c) = (IsCrowded s xs q step → ⊥) × IsChart s xs q step c

-- Over the empty box there is nothing to tell.
abbrev pub IsCoveredOver : Shape → Option (List Span) → Query → ℤ → Coverage → Type 0
IsCoveredOver s None q step told = told ≡ coverage.Empty
IsCoveredOver s (Some xs) q step told = IsCharted s xs q step told

-- ---- of every trajectory

-- An assignment sees each point of a chart that is marked as seen, and none that is marked as never seen.
pub record KeepsMarks (s : Shape) (w : Assignment) (q : Query) (c : Chart) : Type 0 where
  pub seen : (i j : ℕ) → i < c.columns.count → j < c.rows.count → mark_of c i j ≡ Seen → SeenBy s w q (coordinate c.columns i) (coordinate c.rows j)
  pub never : (i j : ℕ) → i < c.columns.count → j < c.rows.count → mark_of c i j ≡ Never → SeenBy s w q (coordinate c.columns i) (coordinate c.rows j) → ⊥

-- The marks hold of each assignment that satisfies the records. Where the box is told to be empty, none satisfies them.
abbrev pub MarksHold : List ℕ → List Item → Query → Coverage → Type 0
MarksHold grid items q coverage.Empty = (w : Assignment) → SatisfiesAll grid w items → ⊥
MarksHold grid items q coverage.Crowded = Unit {0}
MarksHold grid items q (coverage.Charted c) = (w : Assignment) → SatisfiesAll grid w items → KeepsMarks (shape_by grid items) w q c

-- no assignment that satisfies the records sees a place outside the window
abbrev pub WindowHolds : List ℕ → List Item → Query → List Span → Type 0
WindowHolds grid items q xs =
    (w : Assignment) → SatisfiesAll grid w items → (p r : ℤ) → SeenBy (shape_by grid items) w q p r
    → Holds (window_x (shape_by grid items) xs q) p × Holds (window_y (shape_by grid items) xs q) r

-- ---- both

-- What is told of the area of a query over the box of the section of these records: its chart, or that it is crowded or the box empty. What is
-- marked holds of every trajectory, and none sees a place outside the window.
pub record IsCoverage (grid : List ℕ) (items : List Item) (box : Option (List Span)) (step : ℤ) (q : Query) (told : Coverage) : Type 0 where
  pub over : IsCoveredOver (shape_by grid items) box q step told
  pub marks : MarksHold grid items q told
  pub window : IfSome box (WindowHolds grid items q)

-- what is told of the first of some queries, in order
abbrev pub AreCoverages : List ℕ → List Item → Option (List Span) → ℤ → List Query → List Coverage → Type 0
AreCoverages grid items box step qs [] = Unit {0}
AreCoverages grid items box step [] (told ∷ more) = ⊥
AreCoverages grid items box step (q ∷ qs) (told ∷ more) = IsCoverage grid items box step q told × AreCoverages grid items box step qs more
