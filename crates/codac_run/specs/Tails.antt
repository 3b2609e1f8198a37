-- What the tail of a plan tells after the sections of a report: of which queries, and what it costs.
use Rattle.std.specs.Prelude.{◌≡◌, ℕ, ◌≤◌, List, [], Option, length, pos}
use Rattle.tube_spec.specs.Span.{Span}
use Rattle.tube_names.specs.declared.queries.Query.{Query}
use Rattle.area_paver.specs.Lattice.{greatest_step}
use Rattle.mission_area.specs.Coverages.{AreCoverages}
use Rattle.mission_items.specs.declared.item.Item.{Item}
use Rattle.mission_items.specs.declared.mission.Mission.{Mission}
use Rattle.mission_loops.specs.Queries.{queries}
use Rattle.mission_loops.specs.Findings.{AreTold}
use Rattle.mission_loops.specs.Cost.{TakesAtMost}
use Rattle.mission_net.specs.Records.{shape_by}
use Rattle.section_report.specs.Sections.{Section, items_of, sections_cost}
use Rattle.codac_run.specs.Told.{Told, Sets, Coverages, count_told}
use Rattle.codac_run.specs.declared.plan.Tail.{Tail}
use Rattle.codac_run.specs.declared.plan.Tail.TheVariants as tail
use Rattle.codac_run.specs.declared.plan.Plan.{Plan}

-- the queries of which something is told
abbrev pub told_queries : Tail → List Item → List Query
told_queries tail.Nothing items = []
told_queries tail.Findings items = queries items
told_queries (tail.Areas step) items = queries items

-- those of them whose plane of pairs is paved
abbrev pub paved_queries : Tail → List Item → List Query
paved_queries tail.Nothing items = []
paved_queries tail.Findings items = queries items
paved_queries (tail.Areas step) items = []

-- What a tail tells of the first queries of some records over a box: nothing, what is found of their loops, or what is told of their areas.
abbrev pub AreToldBy : Tail → List ℕ → List Item → Option (List Span) → Told → Type 0
AreToldBy tail.Nothing grid items box told = told ≡ Sets []
AreToldBy tail.Findings grid items box (Sets told) = AreTold grid items box (queries items) told
AreToldBy tail.Findings grid items box (Coverages told) = ⊥
AreToldBy (tail.Areas step) grid items box (Sets told) = ⊥
AreToldBy (tail.Areas step) grid items box (Coverages told) = AreCoverages grid items box (pos step) (queries items) told

-- the same over the box of a section of the mission
abbrev pub AreToldOf : Mission → Plan → Section → Told → Type 0
AreToldOf m plan last told = AreToldBy plan.tail m.cuts (items_of m last) last.box told

-- they are all of these queries
abbrev pub AreAllTold : Mission → Plan → Section → Told → Type 0
AreAllTold m plan last told = count_told told ≡ length (told_queries plan.tail (items_of m last))

-- So many steps are at most what these sections may cost, the last of which is told of, and for each query that is paved one, and four for each
-- square judged Mixed.
abbrev pub AreStepsOf : Mission → Plan → List Section → Section → ℕ → Type 0
AreStepsOf m plan sections last used = TakesAtMost (shape_by m.cuts (items_of m last)) last.box (paved_queries plan.tail (items_of m last)) (sections_cost m sections) used

-- the step of a tail that tells of areas lies from 1 to the greatest
abbrev pub CanTell : Tail → Type 0
CanTell tail.Nothing = Unit {0}
CanTell tail.Findings = Unit {0}
CanTell (tail.Areas step) = (1 ≤ step) × (step ≤ greatest_step)
