-- The text of a section of the report.
use Rattle.std.specs.Prelude.{ℕ, ◌+◌, ◌-◌, ◌*◌, Bool, Option, Some, None, List, [], ◌++◌, length, slice_index, flat_map, map, sum_by, if◌then◌else◌}
use Rattle.std.specs.List.{range_with_len}
use Rattle.tube_spec.specs.Span.{Span, width_of}
use Rattle.tube_spec.specs.Shape.{Shape, gate_cell, envelope_cell}
use Rattle.tube_spec.specs.Box.{cell_at}
use Rattle.tube_spec.specs.Tick.{join_over}
use Rattle.mission_items.specs.Names.{declared}
use Rattle.mission_items.specs.declared.decl.Decl.{Decl}
use Rattle.mission_items.specs.declared.decl.Decl.TheVariants as decl
use Rattle.mission_items.specs.declared.item.Item.{Item}
use Rattle.log_spelling.specs.References.{reference_text}
use Rattle.log_spelling.specs.declared.reference.Part.TheVariants.{X, Y}
use Rattle.tube_report.specs.Lines.{first_line, last_line, signal_line, gate_line, slice_line, var_line, brief_line}
use Rattle.tube_report.specs.declared.section.Verdict.{Verdict}

-- ---- a signal in full: gate 0, and then each slice with the gate on its right

-- the line of a signal's gate at a boundary
abbrev pub gate_text : Shape → List Span → ℕ → ℕ → List ℕ
gate_text s xs signal i = gate_line (slice_index s.grid i) (cell_at xs (gate_cell s signal i))

-- the line of a signal's envelope over a slice
abbrev pub envelope_text : Shape → List Span → ℕ → ℕ → List ℕ
envelope_text s xs signal i = slice_line (slice_index s.grid i) (slice_index s.grid (i + 1)) (cell_at xs (envelope_cell s signal i))

abbrev pub slice_text : Shape → List Span → ℕ → ℕ → List ℕ
slice_text s xs signal i = envelope_text s xs signal i ++ gate_text s xs signal (i + 1)

unfoldable pub tube_text : Shape → List Span → List ℕ → ℕ → List ℕ
tube_text s xs name signal =
    signal_line name ++ (gate_text s xs signal 0 ++ flat_map (slice_text s xs signal) (range_with_len 0 (length s.grid - 1)))

-- ---- a signal in brief: the least lower and the greatest upper bound over its cells, and the sum of their widths

-- the cell of a signal at a place, in the order gate 0, envelope 0, gate 1 and so on
abbrev pub tube_cell : Shape → List Span → ℕ → ℕ → Span
tube_cell s xs signal k = cell_at xs (slice_index s.signals signal + k)

-- the least span that holds each cell of a signal, and the cells' widths added up
abbrev pub tube_range : Shape → List Span → ℕ → Span
tube_range s xs signal = join_over (tube_cell s xs signal) 0 (2 * length s.grid - 2)

abbrev pub tube_width : Shape → List Span → ℕ → ℕ
tube_width s xs signal = sum_by width_of (map (tube_cell s xs signal) (range_with_len 0 (2 * length s.grid - 1)))

unfoldable pub brief_text : Shape → List Span → List ℕ → ℕ → List ℕ
brief_text s xs name signal = brief_line name (tube_range s xs signal) (tube_width s xs signal)

-- ---- a section

-- what is written of a declared name among the signals
abbrev pub signal_text : Shape → List Span → Bool → List ℕ × Decl → List ℕ
signal_text s xs brief (name, decl.Signal x range) = if brief then brief_text s xs name x.0 else tube_text s xs name x.0
signal_text s xs brief other = []

-- the line of a variable
abbrev pub variable_line : Shape → List Span → List ℕ → ℕ → List ℕ
variable_line s xs name v = var_line name (cell_at xs (slice_index s.vars v))

-- what is written of a declared name among the variables: a beacon has one for each coordinate
abbrev pub variable_text : Shape → List Span → List ℕ × Decl → List ℕ
variable_text s xs (name, decl.Variable v range) = variable_line s xs name v.0
variable_text s xs (name, decl.Beacon place first x y) =
    variable_line s xs (reference_text name X) first.0 ++ variable_line s xs (reference_text name Y) (first.0 + 1)
variable_text s xs other = []

-- the signals in order of declaration, and then the named variables in order of declaration; nothing for the empty box
abbrev pub box_text : List Item → Shape → Option (List Span) → Bool → List ℕ
box_text items s None brief = []
box_text items s (Some xs) brief = flat_map (signal_text s xs brief) (declared items) ++ flat_map (variable_text s xs) (declared items)

unfoldable pub section_text : List Item → ℕ → Verdict → Shape → Option (List Span) → Bool → List ℕ
section_text items number verdict s box brief = first_line number verdict ++ (box_text items s box brief ++ last_line number)
