-- What is doubted of the sections of a bundle, whose log is a mission.
use Rattle.std.specs.Prelude.{◌≡◌, ◌≢◌, ℕ, ◌+◌, ◌<◌, ◌⊎◌, Some, IsNone, List, Contains, length, take, slice_get}
use Rattle.mission_items.specs.declared.mission.Mission.{Mission}
use Rattle.mission_items.specs.declared.item.Item.{Item}
use Rattle.mission_net.specs.Records.{IsSection, contractors_of, shape_by}
use Rattle.section_report.specs.Sections.{section_ends}
use Rattle.tube_report.specs.declared.section.Verdict.TheVariants as verdict
use Rattle.tube_spec.specs.Span.{Span}
use Rattle.bundle_text.specs.declared.bundle.TracedSection.{TracedSection}
use Rattle.bundle_doubts.specs.declared.Doubt.{Doubt}
use Rattle.bundle_doubts.specs.declared.Doubt.TheVariants as doubt
use Rattle.bundle_doubts.specs.Doubts.{Placed}
use Rattle.bundle_doubts.specs.Lines.{AreButForBounds, Cover, due_lines}

-- no section before a place, from 0, is printed as spent
abbrev pub NoneSpent : List TracedSection → ℕ → Type 0
NoneSpent printed k = (j : ℕ) (s : TracedSection) → j < k → slice_get printed j ≡ Some s → s.section.verdict ≢ verdict.Spent

-- The section at a place, from 0, is due, and takes so many records: its number is its place, from 1, the log has a section of that number, and
-- none before it is printed as spent.
pub record IsDue (m : Mission) (printed : List TracedSection) (k : ℕ) (s : TracedSection) (upto : ℕ) : Type 0 where
  pub at : slice_get printed k ≡ Some s
  pub numbered : s.section.number ≡ k + 1
  pub there : slice_get (section_ends m.items) k ≡ Some upto
  pub unspent : NoneSpent printed k

-- ---- of its firings

-- a number is that of no contractor of the records' net
abbrev pub IsNoContractor : List ℕ → List Item → ℕ → Type 0
IsNoContractor grid items id = IsNone (slice_get (contractors_of grid items) id)

-- the section is due, and a listed number is no contractor of its net
abbrev pub FiresNone : Mission → List TracedSection → ℕ → Type 0
FiresNone m printed k =
    (s : TracedSection) × (upto : ℕ) × IsDue m printed k s upto × (id : ℕ) × Contains s.fired id × IsNoContractor m.cuts (take upto m.items) id

-- ---- of its text

-- a section stands there, and isn't due
abbrev pub IsUndue : Mission → List TracedSection → ℕ → Type 0
IsUndue m printed k = (s : TracedSection) × (slice_get printed k ≡ Some s) × ((upto : ℕ) → IsDue m printed k s upto → ⊥)

-- no section is printed as spent, and there are fewer than the log has; this is the place of the first that lacks
pub record IsMissing (m : Mission) (printed : List TracedSection) (k : ℕ) : Type 0 where
  pub place : k ≡ length printed
  pub unspent : NoneSpent printed k
  pub fewer : k < length (section_ends m.items)

-- the lines are not, but for their bounds, those of the section under its printed verdict
abbrev pub IsUnlike : Mission → List TracedSection → ℕ → Type 0
IsUnlike m printed k =
    (s : TracedSection) × (upto : ℕ) × IsDue m printed k s upto
    × (AreButForBounds s.section.lines (due_lines (take upto m.items) (shape_by m.cuts (take upto m.items)) s.section.verdict) → ⊥)

-- the section of the records is not the empty box, and it is printed as empty, or a printed interval does not hold that of its cell
abbrev pub IsUncovered : Mission → List TracedSection → ℕ → Type 0
IsUncovered m printed k =
    (s : TracedSection) × (upto : ℕ) × IsDue m printed k s upto × (xs : List Span) × IsSection m.cuts (take upto m.items) (Some xs)
    × (Cover (take upto m.items) (shape_by m.cuts (take upto m.items)) s.section.verdict s.section.lines xs → ⊥)

-- ---- both

-- a doubt of the section at a place, from 0
abbrev pub OfSection : Mission → List TracedSection → ℕ → Doubt → Type 0
OfSection m printed k doubt.Fire = FiresNone m printed k
OfSection m printed k doubt.Cover = IsUndue m printed k ⊎ (IsMissing m printed k ⊎ (IsUnlike m printed k ⊎ IsUncovered m printed k))
OfSection m printed k doubt.Form = ⊥
OfSection m printed k doubt.Log = ⊥
OfSection m printed k doubt.Set = ⊥
OfSection m printed k doubt.Degree = ⊥

-- a doubt in its place, among those of sections: at the number of a section, from 1
abbrev pub SectionDoubt : Mission → List TracedSection → Placed → Type 0
SectionDoubt m printed p = (k : ℕ) × (p.at ≡ k + 1) × (p.set ≡ 0) × OfSection m printed k p.doubt
