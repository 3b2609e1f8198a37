-- Going on after additions: a network's sections.
use Rattle.std.specs.Prelude.{◌≡◌, Option, Some, List, ◌++◌, length, All, flat_map}
use Rattle.tube_spec.specs.Span.{Span}
use Rattle.tube_spec.specs.Shape.{Shape, IsShape, Extends}
use Rattle.tube_spec.specs.Box.{IsBelowBox, box_more}
use Rattle.tube_spec.specs.Projection.{Projection}
use Rattle.tube_spec.specs.Fixpoint.{IsGreatest, KeepsFixpoints}

-- A shape that extends another one, and the contractors of the smaller, which fit its cells at their declared ranges.
pub record IsExtension {C : Type 0} (fits : C → Shape → Option (List Span) → Type 0) (s t : Shape) (first : List C) (declared : List Span) : Type 0 where
  pub shape : IsShape s
  pub grows : Extends s t
  pub len : length declared ≡ s.cells
  pub fit : All (λ c. fits c s (Some declared)) first

-- A box that lost no common fixpoint of the first contractors, and then, with the new cells at their declared ranges, none of all
-- contractors, lost none of all below the declared ranges of all cells.
abbrev pub SectionKeeps : {C : Type 0} → (C → Shape → List Projection) → (C → Shape → Option (List Span) → Type 0) → Type 0
SectionKeeps {C} projections fits =
    (s t : Shape) (first more : List C) (declared further : List Span) (b1 b2 : Option (List Span))
    → IsExtension fits s t first declared
    → IsBelowBox b1 (Some declared)
    → KeepsFixpoints (flat_map (λ c. projections c s) first) (Some declared) b1
    → KeepsFixpoints (flat_map (λ c. projections c t) (first ++ more)) (box_more b1 further) b2
    → KeepsFixpoints (flat_map (λ c. projections c t) (first ++ more)) (Some (declared ++ further)) b2

-- The greatest common fixpoint of all contractors below that of the first ones, with the new cells at their declared ranges, is the
-- greatest one of all below the declared ranges of all cells.
abbrev pub SectionGreatest : {C : Type 0} → (C → Shape → List Projection) → (C → Shape → Option (List Span) → Type 0) → Type 0
SectionGreatest {C} projections fits =
    (s t : Shape) (first more : List C) (declared further : List Span) (b1 b2 : Option (List Span))
    → IsExtension fits s t first declared
    → IsGreatest (flat_map (λ c. projections c s) first) (Some declared) b1
    → IsGreatest (flat_map (λ c. projections c t) (first ++ more)) (box_more b1 further) b2
    → IsGreatest (flat_map (λ c. projections c t) (first ++ more)) (Some (declared ++ further)) b2
