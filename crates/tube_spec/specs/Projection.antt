-- Projections: what a constraint asks of one cell.
use Rattle.std.specs.Prelude.{◌≡◌, ℕ, List, Contains}
use Rattle.tube_spec.specs.Span.{Span}
use Rattle.tube_spec.specs.Narrowing.{Narrowing, Within, IsUnder, IsWithinNarrowing}
use Rattle.tube_spec.specs.Box.{cell_at, IsBox, IsBelow}

-- a cell, and what it is held by in each box that is not empty
pub record Projection : Type 0 where
  pub target : ℕ
  pub formula : List Span → Narrowing

-- the target lies within what the formula gives
abbrev pub IsStable : List Span → Projection → Type 0
IsStable xs p = IsUnder (cell_at xs p.target) (p.formula xs)

-- a formula gives less in a lesser box, among the boxes that fit
abbrev pub IsMonotone : (List Span → Type 0) → Projection → Type 0
IsMonotone Fits p = (xs ys : List Span) → IsBox xs → IsBox ys → Fits ys → IsBelow xs ys → IsWithinNarrowing (p.formula xs) (p.formula ys)

-- a formula reads only these cells, and so does what it asks of a box
abbrev pub ReadsOnly : (List Span → Type 0) → List ℕ → Projection → Type 0
ReadsOnly Fits scope p =
    (xs ys : List Span) → Fits xs → Fits ys → ((k : ℕ) → Contains scope k → cell_at xs k ≡ cell_at ys k) → p.formula xs ≡ p.formula ys

-- a projection that holds a cell by an interval of the box
abbrev pub holds_by : ℕ → (List Span → Span) → Projection
holds_by target f = record { target = target; formula = λ xs. Within (f xs) }
