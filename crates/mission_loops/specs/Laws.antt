-- What is told of a query is true of every trajectory.
use Rattle.std.specs.Prelude.{ℕ, List, Option, IfSome, All, take}
use Rattle.std.specs.List.{Contains}
use Rattle.tube_spec.specs.Span.{Span}
use Rattle.tube_names.specs.declared.queries.Query.{Query}
use Rattle.loop_report.specs.declared.found.Found.{Found}
use Rattle.mission_items.specs.declared.item.Item.{Item}
use Rattle.mission_items.specs.declared.mission.Mission.{Mission}
use Rattle.mission_items.specs.Valid.{IsMission}
use Rattle.mission_net.specs.Records.{shape_by, Encloses}
use Rattle.mission_loops.specs.Queries.{queries}
use Rattle.mission_loops.specs.Findings.{IsTold, IsToldOver, HoldRevisits, IsProved, SpanRevisits}

-- Over a box that encloses the first records of a mission, what is told of one of their queries holds all revisits of the assignments that
-- satisfy them, and where something is found of a set each of these assignments has a revisit in it.
abbrev pub LoopsLaw : Type 0
LoopsLaw =
    (m : Mission) (upto : ℕ) (box : Option (List Span)) (q : Query) (told : Option (List Found))
    → IsMission m → Contains (queries (take upto m.items)) q → Encloses m.cuts (take upto m.items) box
    → IsToldOver (take upto m.items) (shape_by m.cuts (take upto m.items)) box q told
    → IfSome told (HoldRevisits m.cuts (take upto m.items) q) × IfSome told (All (IsProved m.cuts (take upto m.items) q))

-- What is told of a query has each revisit of these assignments in the printed spans of one of its sets.
abbrev pub SpansLaw : Type 0
SpansLaw =
    (grid : List ℕ) (items : List Item) (box : Option (List Span)) (q : Query) (told : Option (List Found)) → IsTold grid items box q told → IfSome told (SpanRevisits grid items q)
