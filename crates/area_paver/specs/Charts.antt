-- The chart of a survey: a mark for each point of a lattice.
use Rattle.std.specs.Prelude.{◌≡◌, ℕ, ◌*◌, ◌^◌, ◌<◌, List, [], Vec, Bool, cond, length, map, ℤ, slice_index_or, vec_items}
use Rattle.std.specs.declared.alloc.Global.{Global}
use Rattle.tube_spec.specs.Span.{Span}
use Rattle.tube_spec.specs.Shape.{Shape}
use Rattle.tube_names.specs.declared.queries.Query.{Query}
use Rattle.area_paver.specs.Survey.{Survey, survey_of, IsMark}
use Rattle.area_paver.specs.Lattice.{signal_hull, widened, axis_of, coordinate, IsAxis}
use Rattle.area_paver.specs.declared.chart.Mark.{Mark}
use Rattle.area_paver.specs.declared.axis.Axis.{Axis}
use Rattle.area_paver.specs.declared.chart.Mark.TheVariants.{Open}

-- columns from the west and rows from the south, and lines of marks: one for each row or, turned, for each column
pub record Chart : Type 0 where
  pub columns : Axis
  pub rows : Axis
  pub turned : Bool
  pub lines : List (List Mark)

-- a mark of lines that lie one above the other
abbrev pub mark_in : List (List Mark) → ℕ → ℕ → Mark
mark_in lines line place = slice_index_or (slice_index_or lines line []) place Open

-- the mark in a column and a row, of lines that are rows or, turned, columns
abbrev pub mark_by : Bool → List (List Mark) → ℕ → ℕ → Mark
mark_by turned lines column row = cond turned (mark_in lines column row) (mark_in lines row column)

abbrev pub mark_of : Chart → ℕ → ℕ → Mark
mark_of c column row = mark_by c.turned c.lines column row

-- the window of a query in the one coordinate and in the other: the hull of the signal's cells, wider by the radius at both ends
abbrev pub window_x : Shape → List Span → Query → Span
window_x s box q = widened q.radius (signal_hull s box q.x.0)

abbrev pub window_y : Shape → List Span → Query → Span
window_y s box q = widened q.radius (signal_hull s box q.y.0)

-- how many points the lattice of a query has
abbrev pub points_of : Shape → List Span → Query → ℤ → ℕ
points_of s box q step = (axis_of step (window_x s box q)).count * (axis_of step (window_y s box q)).count

-- the chart has a column and a row for each multiple of two axes, and each point has its mark
pub record IsChartOver (v : Survey) (a b : Axis) (c : Chart) : Type 0 where
  pub columns : c.columns ≡ a
  pub rows : c.rows ≡ b
  pub marks : (i j : ℕ) → i < a.count → j < b.count → IsMark v (coordinate a i) (coordinate b j) (mark_of c i j)

-- the chart of a query over a box: its axes are the multiples of the step in the window
abbrev pub IsChart : Shape → List Span → Query → ℤ → Chart → Type 0
IsChart s box q step c = IsChartOver (survey_of s box q) (axis_of step (window_x s box q)) (axis_of step (window_y s box q)) c

-- there are so many lines, each of so many marks
pub record AreLines (lines : List (List Mark)) (n m : ℕ) : Type 0 where
  pub count : length lines ≡ n
  pub long : (i : ℕ) → i < n → length (slice_index_or lines i []) ≡ m

-- the marks of vectors
abbrev pub marks_of : List (Vec Mark Global) → List (List Mark)
marks_of lines = map vec_items lines

-- what holds of every chart: its axes are few, and there is a mark for each point
pub record IsFull (c : Chart) : Type 0 where
  pub columns : IsAxis c.columns
  pub rows : IsAxis c.rows
  pub narrow : c.columns.count < 2 ^ 32
  pub low : c.rows.count < 2 ^ 32
  pub lines : AreLines c.lines (cond c.turned c.columns.count c.rows.count) (cond c.turned c.rows.count c.columns.count)
