-- What stays stable where no cell that is read became narrower.
use Rattle.std.proofs.Common.{◌≡◌, ℕ, ◌<◌, ◌⊎◌, inl, inr, List, ℤ, ◌≤ℤ◌, sym, subst, arith, get_or, All, Contains}
use Rattle.std.proofs.lemmas.Int.{ints}
use Rattle.tube_spec.specs.Span.{Span, IsProper, IsWithin, width_of}
use Rattle.tube_spec.specs.Narrowing.{Narrowing, IsUnder}
use Rattle.tube_spec.specs.Box.{cell_at, IsBox, IsBelow}
use Rattle.tube_spec.specs.Projection.{Projection, IsStable, ReadsOnly}
use Rattle.tube_spec.proofs.Spans.{same_span}
use Rattle.tube_spec.proofs.Widths.{width-less}
use Rattle.ctc_core.specs.Revising.{IsNarrower}
use Rattle.ctc_parts.proofs.Firing.{IsHeldBy, held-stable}

-- one number is at most another or is not
within-or_not : (x y : ℤ) → (x ≤ℤ y) ⊎ ((x ≤ℤ y) → ⊥)
within-or_not x y = grind (arith, ints)

-- a proper span that lies within another and is not narrower is that span
pub same-width : (a b : Span) → IsProper a → IsWithin a b → (width_of a < width_of b → ⊥) → a ≡ b
same-width a b good inside wide = same_span a b (omega (arith, ints, inside.low, low)) (omega (arith, ints, inside.high, high))
  where
    low : a.lo ≤ℤ b.lo
    low = elim (within-or_not a.lo b.lo) [ inl h ↦ h | inr n ↦ absurd (wide (width-less a b good inside (λ h. n h.low))) ]

    high : b.hi ≤ℤ a.hi
    high = elim (within-or_not b.hi a.hi) [ inl h ↦ h | inr n ↦ absurd (wide (width-less a b good inside (λ h. n h.high))) ]

-- Projections that read only cells that are not narrower are stable, where they are held by what they gave of the old box.
pub held-kept : (Fits : List Span → Type 0) (scope : List ℕ) (ps : List Projection) (xs ys : List Span) → IsBox ys → IsBelow ys xs → Fits xs → Fits ys → All (ReadsOnly Fits scope) ps
    → ((k : ℕ) → Contains scope k → IsNarrower xs ys k → ⊥) → All (IsHeldBy xs ys) ps → All (IsStable ys) ps
held-kept Fits scope ps xs ys box low fx fy reads wide held j d l =
    let p = get_or ps j d in
    let same : p.formula xs ≡ p.formula ys = reads j d l xs ys fx fy (λ k m. sym (same-width (cell_at ys k) (cell_at xs k) (box k) (low.each k) (wide k m))) in
    subst (λ (h : Narrowing). IsUnder (cell_at ys p.target) h) same (held j d l)

-- what was stable in the old box stays so
pub fixpoint-kept : (Fits : List Span → Type 0) (scope : List ℕ) (ps : List Projection) (xs ys : List Span) → IsBox ys → IsBelow ys xs → Fits xs → Fits ys → All (ReadsOnly Fits scope) ps
    → ((k : ℕ) → Contains scope k → IsNarrower xs ys k → ⊥) → All (IsStable xs) ps → All (IsStable ys) ps
fixpoint-kept Fits scope ps xs ys box low fx fy reads wide stable = held-kept Fits scope ps xs ys box low fx fy reads wide (held-stable xs ys ps low stable)
