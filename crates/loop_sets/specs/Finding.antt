-- What is found of a set.
use Rattle.std.specs.Prelude.{◌≡◌, ℕ, ◌<◌, List, All, length, Option, Some, None, MatchOption, ℤ}
use Rattle.tube_spec.specs.Span.{Span}
use Rattle.tube_spec.specs.Grid.{IsGrid, last_tick}
use Rattle.tube_spec.specs.Shape.{Shape}
use Rattle.tube_spec.specs.Box.{IsBelow}
use Rattle.tube_spec.specs.Tick.{at_tick}
use Rattle.tube_spec.specs.Assignment.{Assignment, value_at, IsHull}
use Rattle.hull_tree.specs.Plane.{Plane, plane_of, is_possible}
use Rattle.tube_names.specs.declared.queries.Query.{Query}
use Rattle.tplane_paver.specs.declared.runs.Run.{Run}
use Rattle.tplane_paver.specs.Runs.{AreMaximalRuns}
use Rattle.tplane_paver.specs.Components.{set_at, AreComponents}
use Rattle.loop_degree.specs.declared.labels.Label.{Label}
use Rattle.loop_degree.specs.Labels.{degree_of}
use Rattle.loop_degree.specs.Steps.{Tubes, step_bound_of}
use Rattle.loop_degree.specs.Degree.{PassesDegreeTest, IsRateOf}
use Rattle.loop_prover.specs.First.{label_of}
use Rattle.loop_sets.specs.declared.finding.Finding.{Finding}
use Rattle.loop_sets.specs.declared.finding.Finding.TheVariants.{Sure, Degree, Unproved}
use Rattle.loop_sets.specs.Cells.{AreCellsOf}
use Rattle.loop_sets.specs.Sets.{IsComponent, IsLeastSure, IsNoneSure, HasRevisitIn}

-- the label of a corner under the step bounds of the cells
abbrev pub label_under : Tubes → Query → List ℕ → List ℕ → List (ℕ × ℕ) → ℕ × ℕ → Option Label
label_under tubes q rates_x rates_y cells =
    label_of tubes q (step_bound_of tubes q.x.0 rates_x cells) (step_bound_of tubes q.y.0 rates_y cells)

-- the degree test of cells, by their labels
abbrev pub MeetsDegreeTest : Tubes → ℕ → Query → List ℕ → List ℕ → List (ℕ × ℕ) → Type 0
MeetsDegreeTest tubes last q rates_x rates_y cells =
    PassesDegreeTest tubes last q rates_x rates_y cells (label_under tubes q rates_x rates_y cells)

-- The degree of a set, or none: its cells meet the degree test, with this degree, or do not meet it.
pub record IsTested (s : Shape) (xs : List Span) (q : Query) (rates_x rates_y : List ℕ) (runs : List Run) (degree : Option ℤ) : Type 0 where
  pub cells : List (ℕ × ℕ)
  pub own : AreCellsOf runs q.gap (last_tick s.grid) cells
  pub test : MatchOption degree
      (MeetsDegreeTest (at_tick s xs) (last_tick s.grid) q rates_x rates_y cells → ⊥)
      (λ d. MeetsDegreeTest (at_tick s xs) (last_tick s.grid) q rates_x rates_y cells × (d ≡ degree_of cells (label_under (at_tick s xs) q rates_x rates_y cells)))

-- What is found of a set in a box: its least sure pair, else its degree where the degree test is met, else nothing.
abbrev pub IsFinding : Shape → List Span → Query → List ℕ → List ℕ → List Run → Finding → Type 0
IsFinding s xs q rates_x rates_y runs (Sure a b) = IsLeastSure (plane_of s xs q) runs a b
IsFinding s xs q rates_x rates_y runs (Degree d) = IsNoneSure (plane_of s xs q) runs × IsTested s xs q rates_x rates_y runs (Some d)
IsFinding s xs q rates_x rates_y runs Unproved = IsNoneSure (plane_of s xs q) runs × IsTested s xs q rates_x rates_y runs None

-- Of the sets that hang together among the maximal runs of a plane's possible pairs, each is a component.
abbrev pub ComponentLaw : Type 0
ComponentLaw =
    (p : Plane) (runs : List Run) (sets : List (List Run)) → AreMaximalRuns (is_possible p) runs → AreComponents runs sets
    → (i : ℕ) → i < length sets → IsComponent p (set_at sets i)

-- Where a component is found sure or has a degree, each trajectory in the box with these rates has a revisit in it.
abbrev pub FindingLaw : Type 0
FindingLaw =
    (s : Shape) (w : Assignment) (hull xs : List Span) (q : Query) (rates_x rates_y : List ℕ)
    → IsGrid s.grid → IsHull s w hull → IsBelow hull xs → q.x.0 < length s.signals → q.y.0 < length s.signals
    → All (IsRateOf s w q.x.0) rates_x → All (IsRateOf s w q.y.0) rates_y
    → (runs : List Run) (found : Finding) → IsComponent (plane_of s xs q) runs → IsFinding s xs q rates_x rates_y runs found
    → (found ≡ Unproved → ⊥) → HasRevisitIn q (last_tick s.grid) (value_at w q.x.0) (value_at w q.y.0) runs
