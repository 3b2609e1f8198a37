-- The text of a section, from what it says.
use Rattle.std.specs.Prelude.{◌≡◌, ℕ, ◌≤◌, List, [], ◌∷◌, ◌++◌, true, flat_map, map}
use Rattle.std.specs.List.{AllByRecursion}
use Rattle.tube_spec.specs.Limits.{most_ticks}
use Rattle.log_spelling.specs.Names.{is_name}
use Rattle.tube_report.specs.Lines.{first_line, last_line, signal_line, gate_line, slice_line, var_line}
use Rattle.report_reader.specs.Words.{IsInterval, IsReference}
use Rattle.report_reader.specs.declared.lines.Head.{Head}
use Rattle.report_reader.specs.declared.section.Line.{Line}
use Rattle.report_reader.specs.declared.section.Line.TheVariants as line
use Rattle.report_reader.specs.declared.section.Section.{Section}

-- names are spelled as names, ticks are at most 100,000, and bounds make an interval
abbrev pub IsLine : Line → Type 0
IsLine (line.Signal name) = is_name name ≡ true
IsLine (line.Gate tick range) = (tick ≤ most_ticks) × IsInterval range
IsLine (line.Slice from to range) = (from ≤ most_ticks) × (to ≤ most_ticks) × IsInterval range
IsLine (line.Var name range) = IsReference name × IsInterval range

-- the text of a line, its end included
abbrev pub line_text : Line → List ℕ
line_text (line.Signal name) = signal_line name
line_text (line.Gate tick range) = gate_line tick range
line_text (line.Slice from to range) = slice_line from to range
line_text (line.Var name range) = var_line name range

-- a section that a report may have: any number of lines in any order, whatever the verdict
pub record IsSection (s : Section) : Type 0 where
  pub from_one : 1 ≤ s.number
  pub to_million : s.number ≤ 1000000
  pub lines : AllByRecursion IsLine s.lines

-- the text of a section
abbrev pub text_of : Section → List ℕ
text_of s = first_line s.number s.verdict ++ (flat_map line_text s.lines ++ last_line s.number)

-- the same, line by line
abbrev pub lines_of : Section → List (List ℕ)
lines_of s = first_line s.number s.verdict ∷ (map line_text s.lines ++ last_line s.number ∷ [])

-- a text that is some section's
abbrev pub IsSectionText : List ℕ → Type 0
IsSectionText bytes = (s : Section) × IsSection s × (text_of s ≡ bytes)

-- the first line of a section with a number from 1 to 1,000,000
abbrev pub head_text : Head → List ℕ
head_text head = first_line head.number head.verdict

abbrev pub IsHead : Head → Type 0
IsHead head = (1 ≤ head.number) × (head.number ≤ 1000000)
