-- What is told of the queries after the sections of a report, and its text.
use Rattle.std.specs.Prelude.{ℕ, Bool, List, Option, None, length}
use Rattle.area_report.specs.declared.coverage.Coverage.{Coverage}
use Rattle.loop_report.specs.declared.found.Found.{Found}
use Rattle.mission_area.specs.Texts.{coverages_text}
use Rattle.mission_loops.specs.Texts.{findings_text, last_told}

-- what is found of each query's loops, or what is told of the area that each query's sensor saw
pub data Told : Type 0 where
  Sets : List (Option (List Found)) → Told
  Coverages : List Coverage → Told

-- of how many queries something is told
abbrev pub count_told : Told → ℕ
count_told (Sets told) = length told
count_told (Coverages told) = length told

-- the texts of the queries one after another, numbered from 1
abbrev pub told_text : Bool → Told → List ℕ
told_text brief (Sets told) = findings_text brief told
told_text brief (Coverages told) = coverages_text brief told

-- the sets of the last query, none where there is no query, or where areas are told
abbrev pub last_sets : Told → Option (List Found)
last_sets (Sets told) = last_told told
last_sets (Coverages told) = None
