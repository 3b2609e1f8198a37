-- What telling of the queries leaves, after the sections were written up to a last one.
use Rattle.std.specs.Prelude.{◌≡◌, ℕ, ◌⊎◌, ◌++◌, List, Option, Ok, OnOk, IsErr, length, take}
use Rattle.tube_spec.specs.Span.{Span}
use Rattle.tube_io.specs.Sends.{Sends}
use Rattle.tube_io.specs.declared.whole.WriteFault.{WriteFault}
use Rattle.tube_names.specs.declared.queries.Query.{Query}
use Rattle.mission_items.specs.declared.mission.Mission.{Mission}
use Rattle.section_report.specs.declared.part.LastSection.{LastSection}
use Rattle.mission_loops.specs.declared.writing.Findings.{Findings}
use Rattle.codac_run.specs.declared.plan.Plan.{Plan}
use Rattle.codac_run.specs.Told.{Told, count_told, told_text, last_sets}
use Rattle.codac_run.specs.Tails.{told_queries, AreToldBy}

-- the queries of which something is told among the records of the last section
abbrev pub queries_of : Mission → Plan → LastSection → List Query
queries_of m plan section = told_queries plan.tail (take section.upto m.items)

-- What is told of the first queries follows what was written of the sections, and nothing is told where these were not all written. Where all was
-- written, so are all these queries.
pub record AreToldAfter {K : Type 0} (written : K → Option (List ℕ)) (flushed : K → Option ℕ) (faults : K → ℕ) (m : Mission) (plan : Plan) (section : LastSection)
    (box : Option (List Span)) (old new : K) (findings : Findings) : Type 0 where
  pub told : Told
  pub are_told : AreToldBy plan.tail m.cuts (take section.upto m.items) box told
  pub all : OnOk findings.written (count_told told ≡ length (queries_of m plan section))
  pub told_last : (count_told told ≡ 0) ⊎ (section.written ≡ Ok tt)
  pub sections : IsErr section.written → IsErr findings.written
  pub last : OnOk findings.written (findings.last ≡ last_sets told)
  pub text : (before : List ℕ) (start : K) → Sends written flushed faults before start old section.written
      → Sends written flushed faults (before ++ told_text plan.sections.brief told) start new findings.written

-- Memory ran out after what is told of some first queries was written, behind the sections.
pub record AreCutShortAfter {K : Type 0} (written : K → Option (List ℕ)) (flushed : K → Option ℕ) (faults : K → ℕ) (m : Mission) (plan : Plan) (section : LastSection)
    (box : Option (List Span)) (old new : K) : Type 0 where
  pub told : Told
  pub are_told : AreToldBy plan.tail m.cuts (take section.upto m.items) box told
  pub sections : section.written ≡ Ok tt
  pub text : (before : List ℕ) (start : K) → Sends written flushed faults before start old section.written
      → Sends {T = Unit {0}} {E = WriteFault} written flushed faults (before ++ told_text plan.sections.brief told) start new (Ok tt)
