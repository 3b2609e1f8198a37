-- What is told of the area of a query is true of every trajectory.
use Rattle.std.specs.Prelude.{ℕ, List, Option, IfSome, ℤ, take}
use Rattle.std.specs.List.{Contains}
use Rattle.tube_spec.specs.Span.{Span}
use Rattle.tube_names.specs.declared.queries.Query.{Query}
use Rattle.area_report.specs.declared.coverage.Coverage.{Coverage}
use Rattle.mission_items.specs.declared.mission.Mission.{Mission}
use Rattle.mission_items.specs.Valid.{IsMission}
use Rattle.mission_loops.specs.Queries.{queries}
use Rattle.mission_net.specs.Records.{shape_by, Encloses}
use Rattle.mission_area.specs.Coverages.{IsCoveredOver, MarksHold, WindowHolds}

-- Over a box that encloses the first records of a mission, what is told of the area of one of their queries holds of the assignments that satisfy
-- them: each sees what is marked as seen, none what is marked as never seen, and none a place outside the window. Where the box is told to be empty,
-- there is none.
abbrev pub AreasLaw : Type 0
AreasLaw =
    (m : Mission) (upto : ℕ) (box : Option (List Span)) (q : Query) (step : ℤ) (told : Coverage)
    → IsMission m → Contains (queries (take upto m.items)) q → Encloses m.cuts (take upto m.items) box
    → IsCoveredOver (shape_by m.cuts (take upto m.items)) box q step told
    → MarksHold m.cuts (take upto m.items) q told × IfSome box (WindowHolds m.cuts (take upto m.items) q)
