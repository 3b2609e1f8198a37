-- What writing the findings of a section leaves.
use Rattle.std.specs.Prelude.{◌≡◌, ℕ, Bool, List, Option, Ok, OnOk, length}
use Rattle.tube_spec.specs.Span.{Span}
use Rattle.tube_io.specs.Sends.{Sends}
use Rattle.tube_io.specs.declared.whole.WriteFault.{WriteFault}
use Rattle.mission_items.specs.declared.item.Item.{Item}
use Rattle.loop_report.specs.declared.found.Found.{Found}
use Rattle.mission_loops.specs.Queries.{queries}
use Rattle.mission_loops.specs.Findings.{AreTold}
use Rattle.mission_loops.specs.Texts.{findings_text, last_told}
use Rattle.mission_loops.specs.declared.writing.Findings.{Findings}

-- All queries of the records were told and written, or the sink failed and a prefix of what is told of the first ones was written.
pub record AreWritten {K : Type 0} (written : K → Option (List ℕ)) (flushed : K → Option ℕ) (faults : K → ℕ) (grid : List ℕ) (items : List Item)
    (box : Option (List Span)) (brief : Bool) (old new : K) (findings : Findings) : Type 0 where
  pub told : List (Option (List Found))
  pub are_told : AreTold grid items box (queries items) told
  pub all : OnOk findings.written (length told ≡ length (queries items))
  pub text : Sends written flushed faults (findings_text brief told) old new findings.written
  pub last : OnOk findings.written (findings.last ≡ last_told told)

-- Memory ran out after some first queries, of which all texts were written.
pub record AreCutShort {K : Type 0} (written : K → Option (List ℕ)) (flushed : K → Option ℕ) (faults : K → ℕ) (grid : List ℕ) (items : List Item)
    (box : Option (List Span)) (brief : Bool) (old new : K) : Type 0 where
  pub told : List (Option (List Found))
  pub are_told : AreTold grid items box (queries items) told
  pub text : Sends {T = Unit {0}} {E = WriteFault} written flushed faults (findings_text brief told) old new (Ok tt)
