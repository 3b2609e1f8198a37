-- Lines of a section, compared with those that are due.
use Rattle.std.specs.Prelude.{◌≡◌, ◌≢◌, ℕ, ◌<◌, Some, List, [], length, slice_index_or, pos}
use Rattle.mission_items.specs.declared.item.Item.{Item}
use Rattle.tube_report.specs.declared.section.Verdict.{Verdict}
use Rattle.tube_report.specs.declared.section.Verdict.TheVariants as verdict
use Rattle.tube_spec.specs.Shape.{Shape}
use Rattle.tube_spec.specs.Span.{Span, IsWithin, point}
use Rattle.report_reader.specs.Described.{box_lines}
use Rattle.report_reader.specs.declared.section.Line.{Line}
use Rattle.report_reader.specs.declared.section.Line.TheVariants as line

-- a line without its bounds: 0 stands in their place
abbrev pub bare : Line → Line
bare (line.Signal name) = line.Signal name
bare (line.Gate tick range) = line.Gate tick (point (pos 0))
bare (line.Slice from to range) = line.Slice from to (point (pos 0))
bare (line.Var name range) = line.Var name (point (pos 0))

-- the bounds of a line; a signal's first line has none, for which 0 stands
abbrev pub bounds : Line → Span
bounds (line.Signal name) = point (pos 0)
bounds (line.Gate tick range) = range
bounds (line.Slice from to range) = range
bounds (line.Var name range) = range

-- the line at a place, from 0
abbrev pub line_at : List Line → ℕ → Line
line_at lines k = slice_index_or lines k (line.Signal [])

-- lines are those of others, but for their bounds
pub record AreButForBounds (lines due : List Line) : Type 0 where
  pub many : length lines ≡ length due
  pub each : (k : ℕ) → k < length lines → bare (line_at lines k) ≡ bare (line_at due k)

-- the bounds of each line hold those of the line at its place among the others
abbrev pub Hold : List Line → List Line → Type 0
Hold lines others = (k : ℕ) → k < length lines → IsWithin (bounds (line_at others k)) (bounds (line_at lines k))

-- The lines that a section of these records has under a verdict, with 0 for all bounds: none where it is empty, and else those of its signals and
-- its named variables.
abbrev pub due_lines : List Item → Shape → Verdict → List Line
due_lines items s verdict.Empty = []
due_lines items s verdict.Settled = box_lines items s (Some [])
due_lines items s verdict.Spent = box_lines items s (Some [])

-- Lines under a verdict cover a box: the verdict isn't that it is empty, and each printed interval holds that of its cell.
pub record Cover (items : List Item) (s : Shape) (v : Verdict) (lines : List Line) (xs : List Span) : Type 0 where
  pub some : v ≢ verdict.Empty
  pub hold : Hold lines (box_lines items s (Some xs))
