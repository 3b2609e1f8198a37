-- What is true of every section's text.
use Rattle.std.specs.Prelude.{◌≡◌, ℕ, Option, false, List}
use Rattle.mission_items.specs.declared.item.Item.{Item}
use Rattle.tube_report.specs.Sections.{section_text}
use Rattle.tube_report.specs.declared.section.Verdict.{Verdict}
use Rattle.tube_spec.specs.Shape.{Shape}
use Rattle.tube_spec.specs.Span.{Span}
use Rattle.report_reader.specs.Breaks.{BreaksFirst}
use Rattle.report_reader.specs.Described.{CanBeWritten, described}
use Rattle.report_reader.specs.Sections.{IsSection, text_of}
use Rattle.report_reader.specs.declared.section.Section.{Section}

-- what a run writes of a section without brief is the text of the section that it describes
abbrev pub WrittenIsRead : Type 0
WrittenIsRead =
    (items : List Item) (number : ℕ) (verdict : Verdict) (s : Shape) (box : Option (List Span)) → CanBeWritten items number s box
    → IsSection (described items number verdict s box) × (text_of (described items number verdict s box) ≡ section_text items number verdict s box false)

-- a text is that of one section at most
abbrev pub TextsAreOne : Type 0
TextsAreOne = (a b : Section) → IsSection a → IsSection b → text_of a ≡ text_of b → a ≡ b

-- a text has one first line that breaks it at most
abbrev pub FirstIsOne : Type 0
FirstIsOne = (bytes : List ℕ) (m n : ℕ) → BreaksFirst bytes m → BreaksFirst bytes n → m ≡ n
