-- What is doubted of bytes that are to be a bundle's.
use Rattle.std.specs.Prelude.{◌≡◌, ℕ, ◌+◌, ◌-◌, ◌⊎◌, Option, Some, Ok, Err, List, length, take, slice_get}
use Rattle.log_fields.specs.declared.fault.Cause.{Cause}
use Rattle.mission_items.specs.declared.item.Item.{Item}
use Rattle.mission_items.specs.declared.mission.Mission.{Mission}
use Rattle.mission_log.specs.Log.{log_of}
use Rattle.tube_names.specs.declared.queries.Query.{Query}
use Rattle.tube_spec.specs.Span.{Span}
use Rattle.bundle_text.specs.Bundles.{IsBundle, bundle_text}
use Rattle.bundle_text.specs.declared.bundle.Bundle.{Bundle}
use Rattle.bundle_text.specs.declared.bundle.TracedQuery.{TracedQuery}
use Rattle.bundle_text.specs.declared.bundle.TracedSection.{TracedSection}
use Rattle.bundle_text.specs.declared.bundle.TracedSet.{TracedSet}
use Rattle.bundle_doubts.specs.declared.Checked.{Checked}
use Rattle.bundle_doubts.specs.declared.Checked.TheVariants.{Yes, No}
use Rattle.bundle_doubts.specs.declared.Doubt.{Doubt}
use Rattle.bundle_doubts.specs.declared.Doubt.TheVariants as doubt
use Rattle.bundle_doubts.specs.Doubts.{IsFirst, Placed}
use Rattle.bundle_doubts.specs.Printed.{IsPrinted}
use Rattle.bundle_doubts.specs.Queries.{IsAsked, IsOther, OfDegree, OfSet}
use Rattle.bundle_doubts.specs.Sections.{IsDue, OfSection}

-- ---- of the queries

-- The records and the printed box of the last section that is printed, which is due.
pub record IsLast (m : Mission) (b : Bundle) (items : List Item) (box : Option (List Span)) : Type 0 where
  pub section : TracedSection
  pub upto : ℕ
  pub due : IsDue m b.sections (length b.sections - 1) section upto
  pub records : items ≡ take upto m.items
  pub printed : IsPrinted m.cuts items section.section box

-- a query that is due has a set at a place, from 0
pub record HasSet (items : List Item) (told : List TracedQuery) (k : ℕ) (q : Query) (j : ℕ) (t : TracedSet) : Type 0 where
  pub query : TracedQuery
  pub asked : IsAsked items told k query q
  pub sets : List TracedSet
  pub has_sets : query.sets ≡ Some sets
  pub there : slice_get sets j ≡ Some t

-- a doubt of the set at a place of the query at a place, both from 0
abbrev pub OfQuery : List ℕ → List Item → Option (List Span) → Query → TracedSet → Doubt → Type 0
OfQuery grid items box q t doubt.Set = OfSet grid items box q t
OfQuery grid items box q t doubt.Degree = OfDegree grid items box q t
OfQuery grid items box q t doubt.Form = ⊥
OfQuery grid items box q t doubt.Log = ⊥
OfQuery grid items box q t doubt.Fire = ⊥
OfQuery grid items box q t doubt.Cover = ⊥

-- the queries are not those of the records, at the number of this one, from 1
abbrev pub OtherDoubt : List Item → List TracedQuery → Placed → Type 0
OtherDoubt items told p = (k : ℕ) × (p ≡ record { doubt = doubt.Set; at = k + 1; set = 0 }) × IsOther items told k

-- something is doubted of a set of a query, both by their numbers, from 1
abbrev pub SetDoubt : List ℕ → List Item → Option (List Span) → List TracedQuery → Placed → Type 0
SetDoubt grid items box told p =
    (k j : ℕ) × (p.at ≡ k + 1) × (p.set ≡ j + 1) × (q : Query) × (t : TracedSet) × HasSet items told k q j t × OfQuery grid items box q t p.doubt

abbrev pub QueryDoubt : Mission → Bundle → Placed → Type 0
QueryDoubt m b p =
    (items : List Item) × (box : Option (List Span)) × IsLast m b items box × (OtherDoubt items b.queries p ⊎ SetDoubt m.cuts items box b.queries p)

-- ---- of all

-- the bundle whose text these bytes are
pub record IsTextOf (bytes : List ℕ) (b : Bundle) : Type 0 where
  pub bundle : IsBundle b
  pub text : bundle_text b ≡ bytes

-- a doubt in its place, among those of a bundle's sections and queries, whose log is a mission
abbrev pub MissionDoubt : List ℕ → (Mission → Bundle → Type 0) → Type 0
MissionDoubt bytes Of = (b : Bundle) × IsTextOf bytes b × (m : Mission) × (log_of b.log ≡ Ok m) × Of m b

abbrev pub OfForm : List ℕ → Placed → Type 0
OfForm bytes p = (p.at ≡ 0) × (p.set ≡ 0) × ((b : Bundle) → IsTextOf bytes b → ⊥)

abbrev pub OfLog : List ℕ → Placed → Type 0
OfLog bytes p = (p.set ≡ 0) × (b : Bundle) × IsTextOf bytes b × (cause : Cause) × (log_of b.log ≡ Err (p.at, cause))

abbrev pub OfSections : List ℕ → Placed → Type 0
OfSections bytes p = (p.set ≡ 0) × MissionDoubt bytes (λ m b. (k : ℕ) × (p.at ≡ k + 1) × OfSection m b.sections k p.doubt)

abbrev pub OfQueries : List ℕ → Placed → Type 0
OfQueries bytes p = MissionDoubt bytes (λ m b. QueryDoubt m b p)

-- the sentence of a doubt holds of bytes, at its place
abbrev pub DoubtHolds : List ℕ → Placed → Doubt → Type 0
DoubtHolds bytes p doubt.Form = OfForm bytes p
DoubtHolds bytes p doubt.Log = OfLog bytes p
DoubtHolds bytes p doubt.Fire = OfSections bytes p
DoubtHolds bytes p doubt.Cover = OfSections bytes p
DoubtHolds bytes p doubt.Set = OfQueries bytes p
DoubtHolds bytes p doubt.Degree = OfQueries bytes p

abbrev pub IsDoubted : List ℕ → Placed → Type 0
IsDoubted bytes p = DoubtHolds bytes p p.doubt

-- nothing is doubted of a bundle with so many sections and queries
pub record IsUndoubted (bytes : List ℕ) (sections queries : ℕ) : Type 0 where
  pub bundle : Bundle
  pub text : IsTextOf bytes bundle
  pub sections_are : sections ≡ length bundle.sections
  pub queries_are : queries ≡ length bundle.queries
  pub none : (p : Placed) → IsDoubted bytes p → ⊥

-- What is told of bytes: that nothing is doubted, or the first doubt that holds.
abbrev pub IsChecked : List ℕ → Checked → Type 0
IsChecked bytes (Yes sections queries) = IsUndoubted bytes sections queries
IsChecked bytes (No at d) = (set : ℕ) × IsFirst (IsDoubted bytes) (record { doubt = d; at = at; set = set })
