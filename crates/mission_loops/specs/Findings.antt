-- What is told of a query over the box of a section.
use Rattle.std.specs.Prelude.{◌≡◌, ℕ, ◌<◌, ◌≤◌, List, [], ◌∷◌, Option, Some, None, IfSome, All, length, map}
use Rattle.tube_spec.specs.Limits.{most_runs}
use Rattle.tube_spec.specs.Span.{Span}
use Rattle.tube_spec.specs.Grid.{last_tick}
use Rattle.tube_spec.specs.Shape.{Shape}
use Rattle.tube_spec.specs.Assignment.{Assignment, value_at}
use Rattle.hull_tree.specs.Plane.{Plane, plane_of, is_possible}
use Rattle.hull_tree.specs.Revisits.{IsRevisit}
use Rattle.tube_names.specs.declared.queries.Query.{Query}
use Rattle.tplane_paver.specs.declared.runs.Run.{Run}
use Rattle.tplane_paver.specs.Runs.{InRuns, AreMaximalRuns}
use Rattle.tplane_paver.specs.Rows.{runs_count}
use Rattle.tplane_paver.specs.Components.{AreComponents, set_at}
use Rattle.loop_sets.specs.Sets.{HasRevisitIn}
use Rattle.loop_sets.specs.Finding.{IsFinding}
use Rattle.loop_sets.specs.declared.finding.Finding.TheVariants.{Unproved}
use Rattle.loop_report.specs.Loops.{least_by, greatest_by}
use Rattle.loop_report.specs.declared.found.Found.{Found}
use Rattle.mission_items.specs.declared.item.Item.{Item}
use Rattle.mission_net.specs.Records.{shape_by, SatisfiesAll}
use Rattle.mission_loops.specs.Queries.{rates_of}

-- ---- by the box

-- the possible pairs of a plane form more than 2,000,000 maximal runs
abbrev pub IsCrowded : Plane → Type 0
IsCrowded p = most_runs < runs_count (is_possible p) (length p.xs)

-- what paving a plane gives: the maximal runs of its possible pairs, or none where it is crowded
abbrev pub ArePaved : Plane → Option (List Run) → Type 0
ArePaved p None = IsCrowded p
ArePaved p (Some runs) = (IsCrowded p → ⊥) × AreMaximalRuns (is_possible p) runs

-- the sets alone
abbrev pub sets_in : List Found → List (List Run)
sets_in sets = map (λ (f : Found). f.set) sets

-- each set has what is found of it in a box under some rates
abbrev pub AreFound : Shape → List Span → Query → List ℕ → List ℕ → List Found → Type 0
AreFound s xs q rates_x rates_y sets = All (λ (f : Found). IsFinding s xs q rates_x rates_y f.set f.finding) sets

-- The sets of a query over a box: the components of its possible pairs, in the order of their least pairs, each with what is found of it under
-- the rates of the records.
pub record AreSetsOf (items : List Item) (s : Shape) (xs : List Span) (q : Query) (sets : List Found) : Type 0 where
  pub runs : List Run
  pub possible : AreMaximalRuns (is_possible (plane_of s xs q)) runs
  pub components : AreComponents runs (sets_in sets)
  pub findings : AreFound s xs q (rates_of items q.x.0) (rates_of items q.y.0) sets

-- Over the empty box there is no set. Over another one there are the sets, or the query is crowded.
abbrev pub IsToldOver : List Item → Shape → Option (List Span) → Query → Option (List Found) → Type 0
IsToldOver items s None q told = told ≡ Some []
IsToldOver items s (Some xs) q None = IsCrowded (plane_of s xs q)
IsToldOver items s (Some xs) q (Some sets) = (IsCrowded (plane_of s xs q) → ⊥) × AreSetsOf items s xs q sets

-- ---- of every trajectory

-- each revisit of each assignment that satisfies the records is in one of the sets
abbrev pub HoldRevisits : List ℕ → List Item → Query → List Found → Type 0
HoldRevisits grid items q sets =
    (w : Assignment) → SatisfiesAll grid w items → (a b : ℕ) → IsRevisit q (last_tick grid) (value_at w q.x.0) (value_at w q.y.0) a b
    → (i : ℕ) × (i < length sets) × InRuns (set_at (sets_in sets) i) a b

-- a pair lies in the two spans that are printed of a set, also in brief
pub record IsInSpans (set : List Run) (a b : ℕ) : Type 0 where
  pub least_a : least_by (λ r. r.a) set ≤ a
  pub greatest_a : a ≤ greatest_by (λ r. r.a) set
  pub least_b : least_by (λ r. r.first) set ≤ b
  pub greatest_b : b ≤ greatest_by (λ r. r.last) set

-- each revisit of each assignment that satisfies the records is in the printed spans of one of the sets
abbrev pub SpanRevisits : List ℕ → List Item → Query → List Found → Type 0
SpanRevisits grid items q sets =
    (w : Assignment) → SatisfiesAll grid w items → (a b : ℕ) → IsRevisit q (last_tick grid) (value_at w q.x.0) (value_at w q.y.0) a b
    → (i : ℕ) × (i < length sets) × IsInSpans (set_at (sets_in sets) i) a b

-- where something is found of a set, each assignment that satisfies the records has a revisit in it
abbrev pub IsProved : List ℕ → List Item → Query → Found → Type 0
IsProved grid items q found =
    (found.finding ≡ Unproved → ⊥) → (w : Assignment) → SatisfiesAll grid w items → HasRevisitIn q (last_tick grid) (value_at w q.x.0) (value_at w q.y.0) found.set

-- ---- both

-- What is told of a query over the box of the section of these records: its sets, or none where it is crowded. Every revisit is in a set, and a
-- set of which something is found has one.
pub record IsTold (grid : List ℕ) (items : List Item) (box : Option (List Span)) (q : Query) (told : Option (List Found)) : Type 0 where
  pub over : IsToldOver items (shape_by grid items) box q told
  pub possible : IfSome told (HoldRevisits grid items q)
  pub proved : IfSome told (All (IsProved grid items q))

-- what is told of the first of some queries, in order
abbrev pub AreTold : List ℕ → List Item → Option (List Span) → List Query → List (Option (List Found)) → Type 0
AreTold grid items box qs [] = Unit {0}
AreTold grid items box [] (told ∷ more) = ⊥
AreTold grid items box (q ∷ qs) (told ∷ more) = IsTold grid items box q told × AreTold grid items box qs more
