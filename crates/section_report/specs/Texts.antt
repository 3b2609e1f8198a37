-- What is written of sections.
use Rattle.std.specs.Prelude.{ℕ, ◌+◌, Bool, List, [], ◌∷◌, ◌++◌}
use Rattle.ctc_network.specs.declared.answers.Settled.{Settled}
use Rattle.ctc_network.specs.declared.answers.Settled.TheVariants as answer
use Rattle.mission_items.specs.declared.mission.Mission.{Mission}
use Rattle.mission_net.specs.Records.{shape_by}
use Rattle.tube_report.specs.Sections.{section_text}
use Rattle.tube_report.specs.declared.section.Verdict.{Verdict}
use Rattle.tube_report.specs.declared.section.Verdict.TheVariants as verdict
use Rattle.section_report.specs.Sections.{Section, items_of}

-- the verdict of a section, by the answer of settling
abbrev pub verdict_of : Settled → Verdict
verdict_of answer.Fixpoint = verdict.Settled
verdict_of answer.Empty = verdict.Empty
verdict_of (answer.Spent id) = verdict.Spent

-- the text of a section with a number: over its records, with its verdict and its box
abbrev pub text_of : Mission → Bool → ℕ → Section → List ℕ
text_of m brief number d = section_text (items_of m d) number (verdict_of d.answer) (shape_by m.cuts (items_of m d)) d.box brief

abbrev pub texts_from : Mission → Bool → ℕ → List Section → List ℕ
texts_from m brief number [] = []
texts_from m brief number (d ∷ ds) = text_of m brief number d ++ texts_from m brief (number + 1) ds

-- the texts of sections one after another, numbered from 1
abbrev pub report_text : Mission → Bool → List Section → List ℕ
report_text m brief ds = texts_from m brief 1 ds
