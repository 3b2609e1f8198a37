-- What marks, windows and lattices say.
use Rattle.std.specs.Prelude.{◌≡◌, ◌↔◌, ℕ, ◌<◌, List, length, ℤ, pos, ◌*ℤ◌, ◌≤ℤ◌}
use Rattle.tube_spec.specs.Span.{Span, Holds}
use Rattle.tube_spec.specs.Grid.{IsGrid, last_tick}
use Rattle.tube_spec.specs.Shape.{Shape}
use Rattle.tube_spec.specs.Box.{IsBelow, IsBox}
use Rattle.tube_spec.specs.Assignment.{Assignment, value_at, IsHull}
use Rattle.tube_names.specs.declared.queries.Query.{Query}
use Rattle.area_paver.specs.Survey.{Survey, Sees, survey_of, IsMark}
use Rattle.area_paver.specs.Lattice.{axis_of, coordinate}
use Rattle.area_paver.specs.Charts.{window_x, window_y}
use Rattle.area_paver.specs.declared.chart.Mark.{Mark}
use Rattle.area_paver.specs.declared.chart.Mark.TheVariants.{Never, Seen}

-- the trajectory of a query's two signals sees a place
abbrev pub SeenBy : Shape → Assignment → Query → ℤ → ℤ → Type 0
SeenBy s w q p r = Sees q (last_tick s.grid) (value_at w q.x.0) (value_at w q.y.0) p r

-- An assignment, and what a box tells of a place: one that is marked as seen it sees, one that is marked as never seen it does not, and
-- it sees none outside the window.
pub record Tells (s : Shape) (box : List Span) (q : Query) (w : Assignment) (p r : ℤ) : Type 0 where
  pub seen : IsMark (survey_of s box q) p r Seen → SeenBy s w q p r
  pub never : IsMark (survey_of s box q) p r Never → SeenBy s w q p r → ⊥
  pub window_x : SeenBy s w q p r → Holds (window_x s box q) p
  pub window_y : SeenBy s w q p r → Holds (window_y s box q) r

-- a box tells of each place what holds of every assignment whose hull lies below it
abbrev pub AreaLaw : Type 0
AreaLaw = (s : Shape) (w : Assignment) (hull box : List Span) (q : Query) → IsGrid s.grid → IsHull s w hull → IsBelow hull box → q.x.0 < length s.signals → q.y.0 < length s.signals
    → pos 0 ≤ℤ q.radius → (p r : ℤ) → Tells s box q w p r

-- the numbers of an axis are the multiples of the step in the window
abbrev pub LatticeLaw : Type 0
LatticeLaw = (step : ℤ) (window : Span) (p : ℤ) → pos 1 ≤ℤ step
    → (((m : ℤ) × (p ≡ m *ℤ step)) × Holds window p) ↔ ((k : ℕ) × (k < (axis_of step window).count) × (coordinate (axis_of step window) k ≡ p))

-- a place has one mark
abbrev pub MarkLaw : Type 0
MarkLaw = (v : Survey) (p r : ℤ) (m n : Mark) → IsBox v.xs → IsBox v.ys → IsMark v p r m → IsMark v p r n → m ≡ n
