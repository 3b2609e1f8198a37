-- The invariant of a store.
use Rattle.std.specs.Prelude.{◌≡◌, ℕ, Bool, List, length, sum_by}
use Rattle.tube_spec.specs.Span.{Span, width_of}
use Rattle.tube_spec.specs.Shape.{Shape, IsShape}
use Rattle.tube_spec.specs.Box.{IsBox, AreBounded}
use Rattle.tube_store.specs.Touched.{AreTouched}

-- the cells of a shape, beside them the marks of the touched ones, and their widths added up
pub record IsKept (shape : Shape) (cells : List Span) (marks : List Bool) (touched : List ℕ) (capacity total : ℕ) : Type 0 where
  pub layout : IsShape shape
  pub proper : IsBox cells
  pub bounded : AreBounded cells
  pub beside : length marks ≡ length cells
  pub ring : AreTouched marks touched capacity
  pub widths : total ≡ sum_by width_of cells
