-- The sections of a mission: which records each takes, and what each is.
use Rattle.std.specs.Prelude.{◌≡◌, ℕ, ◌+◌, ◌<◌, ◌≤◌, ◌⊎◌, Bool, true, false, List, [], ◌∷◌, ◌++◌, Option, Some, IfSome, IsNone, length, map, take, drop, All, if◌then◌else◌}
use Rattle.tube_spec.specs.Span.{Span}
use Rattle.tube_spec.specs.Box.{AreBounded, IsBox, box_more, measure_of}
use Rattle.tube_spec.specs.Owner.{start_of}
use Rattle.ctc_network.specs.declared.answers.Settled.{Settled}
use Rattle.ctc_network.specs.declared.answers.Settled.TheVariants as answer
use Rattle.mission_items.specs.declared.item.Item.{Item}
use Rattle.mission_items.specs.declared.item.Item.TheVariants as item
use Rattle.mission_items.specs.declared.mission.Mission.{Mission}
use Rattle.mission_net.specs.Records.{owners_from, Encloses}
use Rattle.mission_net.specs.Building.{IsSectionAs, IsSpentAs}
use Rattle.mission_net.specs.Costs.{section_cost}
use Rattle.mission_net.specs.declared.section.SectionEnd.{SectionEnd}

-- ---- which records a section takes

-- whether a record ends a section
abbrev pub is_settle : Item → Bool
is_settle item.Settle = true
is_settle other = false

-- how many records stand before each `settle`, where so many stand before all of these
abbrev pub settles_from : ℕ → List Item → List ℕ
settles_from before [] = []
settles_from before (r ∷ rs) = (if is_settle r then before ∷ [] else []) ++ settles_from (before + 1) rs

-- How many records each section takes: those before the first `settle`, those before the second, and so on; and the last section takes all.
abbrev pub section_ends : List Item → List ℕ
section_ends items = settles_from 0 items ++ length items ∷ []

-- ---- what a section is

-- a section that was settled: how many records it takes, how its settling ended, its box, and the measure of the box before
pub record Section : Type 0 where
  pub upto : ℕ
  pub answer : Settled
  pub box : Option (List Span)
  pub began : ℕ

-- the records that a section is of
abbrev pub items_of : Mission → Section → List Item
items_of m d = take d.upto m.items

abbrev pub section_of : ℕ → SectionEnd → Option (List Span) → Section
section_of upto end box = record { upto = upto; answer = end.answer; box = box; began = end.began }

-- What a section is, by its records alone: its box is the greatest common fixpoint, or empty exactly where there is none, or it was spent with its
-- cause and lost no common fixpoint. It encloses every assignment that satisfies the records. No measure is above 2,000,000 cells' greatest widths, and the cells of a box
-- that is not empty have numbers, all within the bound.
pub record IsSectionOf (m : Mission) (budget : ℕ) (d : Section) : Type 0 where
  pub greatest : IsSectionAs m.cuts (items_of m d) d.box d.answer
  pub encloses : Encloses m.cuts (items_of m d) d.box
  pub cause : IsSpentAs m.cuts (items_of m d) d.box d.began budget d.answer
  pub small : d.began ≤ 2000000000000000
  pub proper : IfSome d.box (λ xs. IsBox xs × AreBounded xs)

-- the box at which a section starts: that of the section before, which took the first records, with the new cells at their declared ranges
abbrev pub started_box : Mission → ℕ → Option (List Span) → ℕ → Option (List Span)
started_box m first box upto = box_more box (start_of m.cuts (owners_from (take first m.items) (drop first (take upto m.items))))

-- A section goes on from the one before it: there its measure begins, and where that one is empty it is empty.
pub record GoesOn (m : Mission) (first : ℕ) (box : Option (List Span)) (d : Section) : Type 0 where
  pub starts : d.began ≡ measure_of (started_box m first box d.upto)
  pub emptied : IsNone box → d.answer ≡ answer.Empty

-- each of these sections goes on from the one before it
abbrev pub GoOn : Mission → ℕ → Option (List Span) → List Section → Type 0
GoOn m first box [] = Unit {0}
GoOn m first box (d ∷ ds) = GoesOn m first box d × GoOn m d.upto d.box ds

-- how many steps a section may take that goes on from the one before it
abbrev pub cost_of : Mission → ℕ → Option (List Span) → Section → ℕ
cost_of m first box d = section_cost m.cuts m.items first d.upto (started_box m first box d.upto) d.box

abbrev pub costs_from : Mission → ℕ → Option (List Span) → List Section → ℕ
costs_from m first box [] = 0
costs_from m first box (d ∷ ds) = cost_of m first box d + costs_from m d.upto d.box ds

-- How many steps the first sections of a mission may take, each of which goes on from the one before it.
abbrev pub sections_cost : Mission → List Section → ℕ
sections_cost m ds = costs_from m 0 (Some []) ds

-- whether settling gave up
abbrev pub is_spent : Settled → Bool
is_spent (answer.Spent id) = true
is_spent other = false

-- The first sections of a mission: each takes the records of its place and is what they make it, and they go on from each other, the first from a
-- box of no cells.
pub record AreSections (m : Mission) (budget : ℕ) (ds : List Section) : Type 0 where
  pub ends : (rest : List ℕ) × (map (λ (d : Section). d.upto) ds ++ rest ≡ section_ends m.items)
  pub each : All (IsSectionOf m budget) ds
  pub go_on : GoOn m 0 (Some []) ds

-- none of these sections was spent
abbrev pub AreUnspent : List Section → Type 0
AreUnspent ds = All (λ (d : Section). is_spent d.answer ≡ false) ds

-- The sections up to a last one. Only that may be spent.
pub record AreSectionsTo (m : Mission) (budget : ℕ) (earlier : List Section) (last : Section) : Type 0 where
  pub sections : AreSections m budget (earlier ++ last ∷ [])
  pub unspent : AreUnspent earlier

-- they are all that are reported: up to the last section of the mission, or to a spent one
abbrev pub AreAll : Mission → List Section → Section → Type 0
AreAll m earlier last = (map (λ (d : Section). d.upto) (earlier ++ last ∷ []) ≡ section_ends m.items) ⊎ (is_spent last.answer ≡ true)

-- Each section of a mission that is come to starts at a measure below the budget.
abbrev pub StartsBelow : Mission → ℕ → Type 0
StartsBelow m budget = (earlier : List Section) (last : Section) → AreSectionsTo m budget earlier last → last.began < budget
