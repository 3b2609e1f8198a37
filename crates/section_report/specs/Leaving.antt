-- What settling and writing the sections of a mission leaves.
use Rattle.std.specs.Prelude.{◌≡◌, ℕ, ◌+◌, ◌≤◌, List, [], ◌∷◌, ◌++◌, Option, Ok, OnOk, IsFalse, All, length}
use Rattle.tube_io.specs.Sends.{Sends}
use Rattle.tube_io.specs.declared.whole.WriteFault.{WriteFault}
use Rattle.ctc_network.specs.Nets.{NetState}
use Rattle.ctc_network.specs.declared.answers.Settled.TheVariants as answer
use Rattle.mission_items.specs.declared.mission.Mission.{Mission}
use Rattle.mission_net.specs.Building.{IsNetOf}
use Rattle.any_ctc.specs.declared.AnyCtc.{AnyCtc}
use Rattle.section_report.specs.Sections.{Section, items_of, section_of, AreSections, AreSectionsTo, AreUnspent, AreAll, sections_cost}
use Rattle.section_report.specs.Texts.{report_text}
use Rattle.section_report.specs.declared.part.LastSection.{LastSection}
use Rattle.section_report.specs.declared.part.Choices.{Choices}

-- Sections up to a last one were settled. Their texts were written one after another, and all that are reported, or the sink failed and a prefix of
-- them was written. The net is that of the last section, at its box. From one count of steps to the other no more were taken than the sections may cost.
pub record IsReported {K : Type 0} (written : K → Option (List ℕ)) (flushed : K → Option ℕ) (faults : K → ℕ) (m : Mission) (chosen : Choices) (old new : K) (before now : ℕ)
    (net : NetState AnyCtc) (section : LastSection) : Type 0 where
  pub earlier : List Section
  pub last : Section
  pub here : last ≡ section_of section.upto section.end net.store.box
  pub within : section.upto ≤ length m.items
  pub sections : AreSectionsTo m chosen.budget earlier last
  pub all : OnOk section.written (AreAll m earlier last)
  pub numbered : section.number ≡ length earlier + 1
  pub text : Sends written flushed faults (report_text m chosen.brief (earlier ++ last ∷ [])) old new section.written
  pub holds : IsNetOf m.cuts (items_of m last) net
  pub resting : section.end.answer ≡ answer.Fixpoint → All IsFalse net.waiting
  pub cost : now ≤ before + sections_cost m (earlier ++ last ∷ [])

-- Memory ran out after some first sections, of which none was spent and all texts were written, within the steps that they may cost.
pub record IsCutShort {K : Type 0} (written : K → Option (List ℕ)) (flushed : K → Option ℕ) (faults : K → ℕ) (m : Mission) (chosen : Choices) (old new : K) (before now : ℕ) : Type 0 where
  pub done : List Section
  pub sections : AreSections m chosen.budget done
  pub unspent : AreUnspent done
  pub text : Sends {T = Unit {0}} {E = WriteFault} written flushed faults (report_text m chosen.brief done) old new (Ok tt)
  pub cost : now ≤ before + sections_cost m done
