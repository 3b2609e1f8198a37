-- What tracing the sections of a mission leaves.
use Rattle.std.specs.Prelude.{◌≡◌, ℕ, ◌+◌, ◌≤◌, List, [], ◌∷◌, ◌++◌, Option, Some, Ok, OnOk, length}
use Rattle.tube_io.specs.Sends.{Sends}
use Rattle.tube_io.specs.declared.whole.WriteFault.{WriteFault}
use Rattle.ctc_network.specs.Nets.{NetState}
use Rattle.any_ctc.specs.declared.AnyCtc.{AnyCtc}
use Rattle.mission_items.specs.declared.mission.Mission.{Mission}
use Rattle.mission_net.specs.Building.{IsNetOf}
use Rattle.section_report.specs.Sections.{items_of, section_of, AreSections, AreSectionsTo, AreUnspent, AreAll}
use Rattle.section_report.specs.declared.part.LastSection.{LastSection}
use Rattle.section_tracer.specs.Firings.{TracedPart, FiringsGoOn, most_firings, sections_in}
use Rattle.section_tracer.specs.Texts.{traces_text}

-- The sections of a mission up to a last one, with 4,000,000 as the budget, and their firings.
pub record AreTracedTo (m : Mission) (earlier : List TracedPart) (last : TracedPart) : Type 0 where
  pub sections : AreSectionsTo m most_firings (sections_in earlier) last.section
  pub firings : FiringsGoOn m 0 (Some []) (earlier ++ last ∷ [])

-- Sections up to a last one were traced. They were written one after another, and all that are due, or the sink failed and a prefix of them was
-- written. The net is that of the last section, at its box.
pub record IsTraced {K : Type 0} (written : K → Option (List ℕ)) (flushed : K → Option ℕ) (faults : K → ℕ) (m : Mission) (old new : K) (net : NetState AnyCtc) (section : LastSection) : Type 0 where
  pub earlier : List TracedPart
  pub last : TracedPart
  pub here : last.section ≡ section_of section.upto section.end net.store.box
  pub within : section.upto ≤ length m.items
  pub traced : AreTracedTo m earlier last
  pub all : OnOk section.written (AreAll m (sections_in earlier) last.section)
  pub numbered : section.number ≡ length earlier + 1
  pub text : Sends written flushed faults (traces_text m (earlier ++ last ∷ [])) old new section.written
  pub holds : IsNetOf m.cuts (items_of m last.section) net

-- Memory ran out after some first sections, of which none was spent, and all were written with their firings.
pub record IsCutShort {K : Type 0} (written : K → Option (List ℕ)) (flushed : K → Option ℕ) (faults : K → ℕ) (m : Mission) (old new : K) : Type 0 where
  pub done : List TracedPart
  pub sections : AreSections m most_firings (sections_in done)
  pub unspent : AreUnspent (sections_in done)
  pub firings : FiringsGoOn m 0 (Some []) done
  pub text : Sends {T = Unit {0}} {E = WriteFault} written flushed faults (traces_text m done) old new (Ok tt)
