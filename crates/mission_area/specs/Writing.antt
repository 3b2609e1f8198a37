-- What writing the areas of a section leaves.
use Rattle.std.specs.Prelude.{◌≡◌, ℕ, Bool, List, Option, Ok, OnOk, Result, ℤ, length}
use Rattle.tube_spec.specs.Span.{Span}
use Rattle.tube_io.specs.Sends.{Sends}
use Rattle.tube_io.specs.declared.whole.WriteFault.{WriteFault}
use Rattle.tube_names.specs.declared.queries.Query.{Query}
use Rattle.area_report.specs.Areas.{area_text}
use Rattle.area_report.specs.declared.coverage.Coverage.{Coverage}
use Rattle.mission_items.specs.declared.item.Item.{Item}
use Rattle.mission_loops.specs.Queries.{queries}
use Rattle.mission_area.specs.Coverages.{AreCoverages, IsCoverage}
use Rattle.mission_area.specs.Texts.{coverages_text}

-- The area of a query was told, and its text with this number was sent.
abbrev pub IsToldAs : {K : Type 0} → (K → Option (List ℕ)) → (K → Option ℕ) → (K → ℕ) → List ℕ → List Item → Option (List Span) → ℤ → Query → ℕ → Bool → K → K → Result (Unit {0}) WriteFault → Type 0
IsToldAs written flushed faults grid items box step q number brief old new result =
    (told : Coverage) × IsCoverage grid items box step q told × Sends written flushed faults (area_text number told brief) old new result

-- All queries of the records were told and written, or the sink failed and a prefix of what is told of the first ones was written.
pub record AreWritten {K : Type 0} (written : K → Option (List ℕ)) (flushed : K → Option ℕ) (faults : K → ℕ) (grid : List ℕ) (items : List Item)
    (box : Option (List Span)) (step : ℤ) (brief : Bool) (old new : K) (result : Result (Unit {0}) WriteFault) : Type 0 where
  pub told : List Coverage
  pub are_told : AreCoverages grid items box step (queries items) told
  pub all : OnOk result (length told ≡ length (queries items))
  pub text : Sends written flushed faults (coverages_text brief told) old new result

-- Memory ran out after some first queries, of which all texts were written.
pub record AreCutShort {K : Type 0} (written : K → Option (List ℕ)) (flushed : K → Option ℕ) (faults : K → ℕ) (grid : List ℕ) (items : List Item)
    (box : Option (List Span)) (step : ℤ) (brief : Bool) (old new : K) : Type 0 where
  pub told : List Coverage
  pub are_told : AreCoverages grid items box step (queries items) told
  pub text : Sends {T = Unit {0}} {E = WriteFault} written flushed faults (coverages_text brief told) old new (Ok tt)
