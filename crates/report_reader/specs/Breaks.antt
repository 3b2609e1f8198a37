-- Where a text breaks that is no section's.
use Rattle.std.specs.Prelude.{◌≡◌, ℕ, ◌-◌, ◌≤◌, ◌==◌, List, [], ◌∷◌, ◌++◌, length, take, if◌then◌else◌}
use Rattle.report_reader.specs.Sections.{IsSection, IsSectionText, lines_of}
use Rattle.report_reader.specs.declared.section.Section.{Section}
use Rattle.report_reader.specs.declared.section.SectionFault.{SectionFault}
use Rattle.report_reader.specs.declared.section.SectionFault.TheVariants as fault

abbrev pub onto_line : ℕ → List (List ℕ) → List (List ℕ)
onto_line c [] = []
onto_line c (line ∷ lines) = (c ∷ line) ∷ lines

-- the whole lines of a text, each with the byte 10 that ends it; an unfinished last one is none
abbrev pub whole_lines : List ℕ → List (List ℕ)
whole_lines [] = []
whole_lines (c ∷ cs) = if c == 10 then (c ∷ []) ∷ whole_lines cs else onto_line c (whole_lines cs)

-- lines with which some section begins
abbrev pub BeginsSection : List (List ℕ) → Type 0
BeginsSection front = (s : Section) × IsSection s × (rest : List (List ℕ)) × (lines_of s ≡ front ++ rest)

-- The first line, from 1 on, that breaks a text: some section begins with the lines before it, and it is missing, or unfinished, or
-- none begins with it too.
pub record BreaksFirst (bytes : List ℕ) (n : ℕ) : Type 0 where
  pub from_one : 1 ≤ n
  pub near : n - 1 ≤ length (whole_lines bytes)
  pub before : BeginsSection (take (n - 1) (whole_lines bytes))
  pub here : n ≤ length (whole_lines bytes) → ¬ (BeginsSection (take n (whole_lines bytes)))

-- Why a text is not read: it is no section's, and this is the first line that breaks it.
abbrev pub IsFault : List ℕ → SectionFault → Type 0
IsFault bytes (fault.BadSection n) = ¬ (IsSectionText bytes) × BreaksFirst bytes n
IsFault bytes fault.NoMemory = Unit {0}
