-- The degree test, and the law that it proves a revisit.
use Rattle.std.specs.Prelude.{◌≡◌, ℕ, ◌+◌, ◌<◌, ◌≤◌, true, IsTrue, Option, IsSomeAnd, List, All, length, ℤ, pos, ◌+ℤ◌, ◌-ℤ◌}
use Rattle.tube_spec.specs.Span.{Span, sub_of, natural}
use Rattle.tube_spec.specs.Grid.{IsGrid, last_tick}
use Rattle.tube_spec.specs.Shape.{Shape}
use Rattle.tube_spec.specs.Box.{IsBelow}
use Rattle.tube_spec.specs.Tick.{at_tick}
use Rattle.tube_spec.specs.Assignment.{Assignment, value_at, IsHull}
use Rattle.tube_names.specs.declared.queries.Query.{Query}
use Rattle.tube_names.specs.Nearness.{is_near}
use Rattle.hull_tree.specs.Revisits.{IsRevisit}
use Rattle.loop_degree.specs.declared.labels.Label.{Label}
use Rattle.loop_degree.specs.Pairs.{IsRising, has}
use Rattle.loop_degree.specs.Cells.{IsCornerOf, boundary}
use Rattle.loop_degree.specs.Labels.{LabelHolds, degree_of}
use Rattle.loop_degree.specs.Steps.{Tubes, step_bound_of}

-- a pair of ticks up to the last, at least a gap apart
pub record IsValid (gap last : ℕ) (p : ℕ × ℕ) : Type 0 where
  pub apart : p.0 + gap ≤ p.1
  pub within : p.1 ≤ last

-- what a signal may change by from the first tick of a pair to the second
abbrev pub change_in : Tubes → ℕ → ℕ × ℕ → Span
change_in tubes x p = sub_of (tubes x p.1) (tubes x p.0)

-- a corner has a label that holds, under the bounds d and e
abbrev pub HasLabel : Tubes → Query → ℤ → ℤ → (ℕ × ℕ → Option Label) → ℕ × ℕ → Type 0
HasLabel tubes q d e label p = IsSomeAnd (label p) (λ l. LabelHolds d e l (change_in tubes q.x.0 p) (change_in tubes q.y.0 p))

-- the test of the radius: both bounds less one are near
abbrev pub IsReached : Query → ℤ → ℤ → Type 0
IsReached q d e = IsTrue (is_near q.norm (natural q.radius) (natural (d -ℤ pos 1)) (natural (e -ℤ pos 1)))

-- What the degree test asks under the bounds d and e: a rising list of cells with valid corners, the test of the radius, labels that hold
-- at both ends of each boundary edge, and a degree that is not 0.
pub record PassesUnder (tubes : Tubes) (last : ℕ) (q : Query) (d e : ℤ) (cells : List (ℕ × ℕ)) (label : ℕ × ℕ → Option Label) : Type 0 where
  pub rising : IsRising cells
  pub valid : (c p : ℕ × ℕ) → has cells c ≡ true → IsCornerOf c p → IsValid q.gap last p
  pub reached : IsReached q d e
  pub labels : All (λ edge. HasLabel tubes q d e label edge.from × HasLabel tubes q d e label edge.to) (boundary cells)
  pub turned : degree_of cells label ≡ pos 0 → ⊥

-- The degree test: it passes under the step bounds of the cells.
abbrev pub PassesDegreeTest : Tubes → ℕ → Query → List ℕ → List ℕ → List (ℕ × ℕ) → (ℕ × ℕ → Option Label) → Type 0
PassesDegreeTest tubes last q rates_x rates_y cells label =
    PassesUnder tubes last q (step_bound_of tubes q.x.0 rates_x cells) (step_bound_of tubes q.y.0 rates_y cells) cells label

-- a trajectory has a revisit at a corner of one of the cells
pub record HasRevisit (q : Query) (last : ℕ) (x y : ℕ → ℤ) (cells : List (ℕ × ℕ)) : Type 0 where
  pub cell : ℕ × ℕ
  pub corner : ℕ × ℕ
  pub in_cells : has cells cell ≡ true
  pub of_cell : IsCornerOf cell corner
  pub revisit : IsRevisit q last x y corner.0 corner.1

-- each rate is a signal, and gives what x gains from each tick to the next
pub record IsRateOf (s : Shape) (w : Assignment) (x rate : ℕ) : Type 0 where
  pub named : rate < length s.signals
  pub gains : (k : ℕ) → k < last_tick s.grid → value_at w x (k + 1) ≡ value_at w x k +ℤ value_at w rate k

-- Where the degree test passes in a box, every trajectory in the box with these rates has a revisit at a corner of one of the cells.
abbrev pub DegreeLaw : Type 0
DegreeLaw =
    (s : Shape) (w : Assignment) (hull xs : List Span) (q : Query) (rates_x rates_y : List ℕ)
    → IsGrid s.grid → IsHull s w hull → IsBelow hull xs → q.x.0 < length s.signals → q.y.0 < length s.signals
    → All (IsRateOf s w q.x.0) rates_x → All (IsRateOf s w q.y.0) rates_y
    → (cells : List (ℕ × ℕ)) (label : ℕ × ℕ → Option Label) → PassesDegreeTest (at_tick s xs) (last_tick s.grid) q rates_x rates_y cells label
    → HasRevisit q (last_tick s.grid) (value_at w q.x.0) (value_at w q.y.0) cells
