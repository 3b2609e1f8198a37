-- How many steps telling of queries may take: those of the paver.
use Rattle.std.specs.Prelude.{ℕ, ◌+◌, ◌*◌, ◌≤◌, List, [], ◌∷◌, Option, Some, None, length}
use Rattle.tube_spec.specs.Span.{Span}
use Rattle.tube_spec.specs.Grid.{last_tick}
use Rattle.tube_spec.specs.Shape.{Shape}
use Rattle.hull_tree.specs.Plane.{Plane, plane_of}
use Rattle.hull_tree.specs.Judging.{judged}
use Rattle.tube_names.specs.declared.queries.Query.{Query}
use Rattle.tplane_paver.specs.Quartering.{mixed_below, IsRoot}

-- one step, and four for each square that is judged Mixed, of the quartering of a square of side 2 ^ d
abbrev pub paving_cost : ℕ → Plane → ℕ
paving_cost d p = 1 + 4 * mixed_below (judged p) (length p.xs) d 0 0

-- a query over a box, and none over the empty box
abbrev pub query_cost : ℕ → Shape → Option (List Span) → Query → ℕ
query_cost d s None q = 0
query_cost d s (Some xs) q = paving_cost d (plane_of s xs q)

abbrev pub queries_cost : ℕ → Shape → Option (List Span) → List Query → ℕ
queries_cost d s box [] = 0
queries_cost d s box (q ∷ qs) = query_cost d s box q + queries_cost d s box qs

-- The steps from one count to another are at most those of these queries over a box: one each, and four for each square judged Mixed in the
-- quartering of the least square of a power of two that holds all pairs of ticks.
abbrev pub TakesAtMost : Shape → Option (List Span) → List Query → ℕ → ℕ → Type 0
TakesAtMost s box qs before now = (d : ℕ) → IsRoot (last_tick s.grid + 1) d → now ≤ before + queries_cost d s box qs
