-- What a run prints of the sections of an accepted mission, read back.
use Rattle.std.specs.Prelude.{◌≡◌, ℕ, ◌+◌, List, Some, false, slice_get}
use Rattle.mission_items.specs.declared.mission.Mission.{Mission}
use Rattle.mission_items.specs.Valid.{IsMission}
use Rattle.mission_net.specs.Records.{shape_by}
use Rattle.section_report.specs.Sections as sections
use Rattle.section_report.specs.Texts as texts
use Rattle.report_reader.specs.Described.{described}
use Rattle.report_reader.specs.Sections.{IsSection, text_of}
use Rattle.report_reader.specs.declared.section.Section.{Section}

-- what a section with a number says: its verdict, and a line for each cell of what its records declare by a name
abbrev pub section_described : Mission → ℕ → sections.Section → Section
section_described m number d = described (sections.items_of m d) number (texts.verdict_of d.answer) (shape_by m.cuts (sections.items_of m d)) d.box

-- Each of the first sections of an accepted mission, numbered from 1, is written as the text of the section that it describes, which a report may have.
abbrev pub SectionsAreRead : Type 0
SectionsAreRead =
    (m : Mission) (budget : ℕ) (ds : List sections.Section) (i : ℕ) (d : sections.Section) → IsMission m → sections.AreSections m budget ds → slice_get ds i ≡ Some d
    → IsSection (section_described m (i + 1) d) × (text_of (section_described m (i + 1) d) ≡ texts.text_of m false (i + 1) d)
