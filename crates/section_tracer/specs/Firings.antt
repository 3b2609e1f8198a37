-- The sections of a mission, each with the firings that are listed of it.
use Rattle.std.specs.Prelude.{◌≡◌, ℕ, ◌+◌, ◌<◌, ◌≤◌, true, List, [], ◌∷◌, Option, Some, IsNone, IsSome, All, length, map, flat_map, slice_index_or}
use Rattle.tube_spec.specs.Span.{Span}
use Rattle.tube_spec.specs.Box.{measure_of}
use Rattle.tube_spec.specs.Fixpoint.{KeepsFixpoints}
use Rattle.tube_spec.specs.Projection.{Projection}
use Rattle.ctc_network.specs.declared.answers.CtcId.{CtcId}
use Rattle.any_ctc.specs.Constraints.{constraint_projections}
use Rattle.mission_items.specs.declared.item.Item.{Item}
use Rattle.mission_items.specs.declared.mission.Mission.{Mission}
use Rattle.mission_net.specs.Records.{contractors_of, shape_by}
use Rattle.section_report.specs.Sections.{Section, items_of, is_spent, started_box, AreSectionsTo}

-- how many firings are listed of a section, at most
abbrev pub most_firings : ℕ
most_firings = 4000000

-- a section, and the numbers of the contractors whose firings are listed of it, in the order of the firings
pub record TracedPart : Type 0 where
  pub section : Section
  pub fired : List CtcId

abbrev pub sections_in : List TracedPart → List Section
sections_in ts = map (λ (t : TracedPart). t.section) ts

-- the projections of the contractor with a number, among those of the records
abbrev pub fired_projections : List ℕ → List Item → CtcId → List Projection
fired_projections grid items id = flat_map (constraint_projections (shape_by grid items)) (slice_index_or (contractors_of grid items) id.0 [])

-- What is listed of a section that goes on from the box of the one before: numbers of contractors of its records, no more than may be, each of
-- which took one from the measure at least. They are as many as may be where the section is spent, and none after an empty box. They are enough for the
-- section's box: every common fixpoint of the listed contractors below the box at which it starts lies below it.
pub record AreFirings (m : Mission) (first : ℕ) (box : Option (List Span)) (t : TracedPart) : Type 0 where
  pub there : All (λ (id : CtcId). id.0 < length (contractors_of m.cuts (items_of m t.section))) t.fired
  pub numbers : All (λ (id : CtcId). id.0 < 4000000000) t.fired
  pub few : length t.fired ≤ most_firings
  pub measured : IsSome t.section.box → measure_of t.section.box + length t.fired ≤ t.section.began
  pub spent : is_spent t.section.answer ≡ true → length t.fired ≡ most_firings
  pub emptied : IsNone box → t.fired ≡ []
  pub enough : KeepsFixpoints (flat_map (fired_projections m.cuts (items_of m t.section)) t.fired) (started_box m first box t.section.upto) t.section.box

-- the same of each section, which goes on from the one before it
abbrev pub FiringsGoOn : Mission → ℕ → Option (List Span) → List TracedPart → Type 0
FiringsGoOn m first box [] = Unit {0}
FiringsGoOn m first box (t ∷ ts) = AreFirings m first box t × FiringsGoOn m t.section.upto t.section.box ts
