-- The bytes in which a section may stand.
use Rattle.std.specs.Prelude.{◌≡◌, ℕ, List, ◌++◌}
use Rattle.report_reader.specs.Sections.{IsSection, text_of}
use Rattle.report_reader.specs.declared.section.Section.{Section}

-- the front of some bytes that is the section, where one stands in front
pub record IsPiece (bytes front rest : List ℕ) : Type 0 where
  pub whole : front ++ rest ≡ bytes
  pub only : (a : Section) (others : List ℕ) → IsSection a → text_of a ++ others ≡ bytes → (text_of a ≡ front) × (others ≡ rest)
