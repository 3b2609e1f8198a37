-- The section that a written report describes.
use Rattle.std.specs.Prelude.{◌≡◌, ℕ, ◌+◌, ◌-◌, ◌≤◌, true, Option, Some, None, IfSome, List, [], ◌∷◌, ◌++◌, length, slice_index, flat_map}
use Rattle.std.specs.List.{AllByRecursion, range_with_len}
use Rattle.log_spelling.specs.Names.{is_name}
use Rattle.log_spelling.specs.References.{reference_text}
use Rattle.log_spelling.specs.declared.reference.Part.TheVariants.{X, Y}
use Rattle.mission_items.specs.Names.{declared}
use Rattle.mission_items.specs.declared.decl.Decl.{Decl}
use Rattle.mission_items.specs.declared.decl.Decl.TheVariants as decl
use Rattle.mission_items.specs.declared.item.Item.{Item}
use Rattle.tube_report.specs.declared.section.Verdict.{Verdict}
use Rattle.tube_spec.specs.Box.{AreBounded, IsBox, cell_at}
use Rattle.tube_spec.specs.Grid.{IsGrid}
use Rattle.tube_spec.specs.Shape.{Shape, envelope_cell, gate_cell}
use Rattle.tube_spec.specs.Span.{Span}
use Rattle.report_reader.specs.declared.section.Line.{Line}
use Rattle.report_reader.specs.declared.section.Line.TheVariants as line
use Rattle.report_reader.specs.declared.section.Section.{Section}

-- the gate of a signal at a boundary
abbrev pub gate_at : Shape → List Span → ℕ → ℕ → Line
gate_at s xs signal i = line.Gate (slice_index s.grid i) (cell_at xs (gate_cell s signal i))

-- a slice of a signal, and the gate on its right
abbrev pub slice_lines : Shape → List Span → ℕ → ℕ → List Line
slice_lines s xs signal i = line.Slice (slice_index s.grid i) (slice_index s.grid (i + 1)) (cell_at xs (envelope_cell s signal i)) ∷ gate_at s xs signal (i + 1) ∷ []

-- a signal: its name, its first gate, and its slices
abbrev pub signal_lines : Shape → List Span → List ℕ × Decl → List Line
signal_lines s xs (name, decl.Signal x range) = line.Signal name ∷ gate_at s xs x.0 0 ∷ flat_map (slice_lines s xs x.0) (range_with_len 0 (length s.grid - 1))
signal_lines s xs other = []

-- a variable, or both coordinates of a beacon
abbrev pub variable_lines : Shape → List Span → List ℕ × Decl → List Line
variable_lines s xs (name, decl.Variable v range) = line.Var name (cell_at xs (slice_index s.vars v.0)) ∷ []
variable_lines s xs (name, decl.Beacon place first x y) =
    line.Var (reference_text name X) (cell_at xs (slice_index s.vars first.0)) ∷ line.Var (reference_text name Y) (cell_at xs (slice_index s.vars (first.0 + 1))) ∷ []
variable_lines s xs other = []

-- every signal and then every named variable in order of declaration; none of the empty box
abbrev pub box_lines : List Item → Shape → Option (List Span) → List Line
box_lines items s None = []
box_lines items s (Some xs) = flat_map (signal_lines s xs) (declared items) ++ flat_map (variable_lines s xs) (declared items)

abbrev pub described : List Item → ℕ → Verdict → Shape → Option (List Span) → Section
described items number verdict s box = record { number = number; verdict = verdict; lines = box_lines items s box }

-- what holds where a run writes a section: its number, the grid and the box of every store, and names that are spelled as names
pub record CanBeWritten (items : List Item) (number : ℕ) (s : Shape) (cells : Option (List Span)) : Type 0 where
  pub from_one : 1 ≤ number
  pub to_million : number ≤ 1000000
  pub grid : IsGrid s.grid
  pub box : IfSome cells (λ xs. IsBox xs × AreBounded xs)
  pub names : AllByRecursion (λ d. is_name d.0 ≡ true) (declared items)
