-- Tests of whether a box is stable under projections.
use Rattle.std.specs.Prelude.{◌≡◌, ◌↔◌, ℕ, Option, List, [], ◌∷◌, Bool, IsTrue, IfSome, All}
use Rattle.tube_spec.specs.Span.{Span}
use Rattle.tube_spec.specs.Narrowing.{narrowing_of}
use Rattle.tube_spec.specs.Projection.{Projection, IsStable}

-- the answer says whether the box is stable under each of the projections, where it is not empty
abbrev pub Checks : List Projection → Option (List Span) → Bool → Type 0
Checks ps box held = IfSome box (λ xs. IsTrue held ↔ All (IsStable xs) ps)

-- the answer tests each projection of this target of which the formula gives this in the box
abbrev pub ChecksBy : ℕ → Option Span → Option (List Span) → Bool → Type 0
ChecksBy cell to box held =
    (p : Projection) → p.target ≡ cell → IfSome box (λ xs. p.formula xs ≡ narrowing_of to) → Checks (p ∷ []) box held
