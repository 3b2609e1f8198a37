-- What the definitions of the text say, in other words.
use Rattle.std.specs.Prelude.{◌≤◌, List, length}
use Rattle.tplane_paver.specs.Components.{SpansA, SpansB}
use Rattle.tplane_paver.specs.Runs.{AreInOrder}
use Rattle.tplane_paver.specs.declared.runs.Run.{Run}
use Rattle.loop_report.specs.Loops.{greatest_by, least_by}

-- the printed ticks are the least and the greatest of the pairs
abbrev pub PrintedTicksAreEnds : Type 0
PrintedTicksAreEnds =
    (runs : List Run) → AreInOrder runs → 1 ≤ length runs
    → SpansA runs (least_by (λ r. r.a) runs) (greatest_by (λ r. r.a) runs) × SpansB runs (least_by (λ r. r.first) runs) (greatest_by (λ r. r.last) runs)
