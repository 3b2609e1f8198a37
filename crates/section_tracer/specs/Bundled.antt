-- Traced sections as a bundle has them.
use Rattle.std.specs.Prelude.{◌≡◌, ℕ, ◌+◌, List, [], ◌∷◌, ◌++◌, Option, Some, flat_map, map}
use Rattle.std.specs.List.{AllByRecursion}
use Rattle.ctc_network.specs.declared.answers.CtcId.{CtcId}
use Rattle.mission_items.specs.declared.mission.Mission.{Mission}
use Rattle.mission_items.specs.Valid.{IsMission}
use Rattle.report_law.specs.Reading.{section_described}
use Rattle.section_report.specs.Sections.{AreSections}
use Rattle.bundle_text.specs.Bundles.{IsTracedSection, section_text}
use Rattle.bundle_text.specs.declared.bundle.TracedSection.{TracedSection}
use Rattle.section_tracer.specs.Firings.{TracedPart, FiringsGoOn, most_firings, sections_in}
use Rattle.section_tracer.specs.Texts.{traces_text}

-- a section with its number: the numbers that are listed, and what its text says
abbrev pub section_traced : Mission → ℕ → TracedPart → TracedSection
section_traced m number t = record { fired = map (λ (id : CtcId). id.0) t.fired; section = section_described m number t.section }

abbrev pub traced_sections : Mission → ℕ → List TracedPart → List TracedSection
traced_sections m number [] = []
traced_sections m number (t ∷ ts) = section_traced m number t ∷ traced_sections m (number + 1) ts

-- The first sections of an accepted mission, as they are traced and written, are sections that a bundle may have, with its text.
abbrev pub SectionsAreBundled : Type 0
SectionsAreBundled =
    (m : Mission) (ts : List TracedPart) → IsMission m → AreSections m most_firings (sections_in ts) → FiringsGoOn m 0 (Some []) ts
    → AllByRecursion IsTracedSection (traced_sections m 1 ts) × (flat_map section_text (traced_sections m 1 ts) ≡ traces_text m ts)
