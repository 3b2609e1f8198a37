-- What is written of traced sections.
use Rattle.std.specs.Prelude.{ℕ, ◌+◌, false, List, [], ◌∷◌, ◌++◌, length, flat_map}
use Rattle.ctc_network.specs.declared.answers.CtcId.{CtcId}
use Rattle.mission_items.specs.declared.mission.Mission.{Mission}
use Rattle.section_report.specs.Texts.{text_of}
use Rattle.bundle_text.specs.Bundles.{fire_text}
use Rattle.bundle_text.specs.Lines.{line_text}
use Rattle.bundle_text.specs.declared.lines.BundleLine.TheVariants as kind
use Rattle.section_tracer.specs.Firings.{TracedPart}

-- how many firings are listed of a section, and each of them
abbrev pub fires_text : ℕ → List CtcId → List ℕ
fires_text number fired = line_text (kind.Fires number (length fired)) ++ flat_map (λ (id : CtcId). fire_text id.0) fired

-- a section with its number: its firings, and then its text
abbrev pub traced_text : Mission → ℕ → TracedPart → List ℕ
traced_text m number t = fires_text number t.fired ++ text_of m false number t.section

abbrev pub traced_from : Mission → ℕ → List TracedPart → List ℕ
traced_from m number [] = []
traced_from m number (t ∷ ts) = traced_text m number t ++ traced_from m (number + 1) ts

-- sections one after another, numbered from 1
abbrev pub traces_text : Mission → List TracedPart → List ℕ
traces_text m ts = traced_from m 1 ts
