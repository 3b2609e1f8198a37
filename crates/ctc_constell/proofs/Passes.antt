-- One pass over the marks for all coordinates: what is found is what the formulas give.
use Rattle.std.proofs.Common.{◌≡◌, ℕ, zero, suc, ◌+◌, ◌<◌, ◌⊎◌, Option, Some, None, IfSome, List, [], ◌∷◌, arith, refl, sym, ap, subst, ◌∙◌, length, map, replicate, slice_index, slice_index_or}
use Rattle.std.specs.List.{range_with_len}
use Rattle.std.proofs.lemmas.List.FromFn.{length-map-range_with_len, get_or-map-range_with_len}
use Rattle.tube_spec.specs.Span.{Span}
use Rattle.tube_spec.specs.Narrowing.{IsWithinNarrowing, narrowing_of}
use Rattle.tube_spec.specs.Shape.{Shape}
use Rattle.tube_spec.specs.Projection.{Projection, IsMonotone}
use Rattle.tube_spec.proofs.Spans.{IsWithin-refl}
use Rattle.tube_store.specs.State.{State}
use Rattle.ctc_core.specs.declared.Revised.{Revised}
use Rattle.ctc_core.specs.Answers.{Revises}
use Rattle.ctc_core.proofs.Fixing.{Fixes}
use Rattle.ctc_constell.specs.Fixed.{fixed}
use Rattle.ctc_constell.specs.Constellations.{constell_projection, constell_projections_at, left_by_marks}

same-within : (o : Option Span) → IsWithinNarrowing (narrowing_of o) (narrowing_of o)
same-within None = tt
same-within (Some a) = IsWithin-refl a

pub fixed-mono : (Fits : List Span → Type 0) (cell : ℕ) (to : Option Span) → IsMonotone Fits (fixed cell to)
fixed-mono Fits cell to xs ys bx by fits low = same-within to

-- a firing in a store of the same shape, said of the old one
pub fixed-moved : (a b : Shape) (v k : ℕ) (t u : Option Span) (old new : State) (r : Revised) → b ≡ a → k ≡ slice_index a.vars v → t ≡ u → Revises (fixed (slice_index b.vars v) t ∷ []) old new r → Revises (fixed k u ∷ []) old new r
fixed-moved a b v k t u old new r e f g h =
    subst (λ (o : Option Span). Revises (fixed k o ∷ []) old new r) g
    (subst (λ (c : ℕ). Revises (fixed c t ∷ []) old new r) (sym f) (subst (λ (s : Shape). Revises (fixed (slice_index s.vars v) t ∷ []) old new r) e h))

pub named-moved : (a b : Shape) (v : ℕ) → b ≡ a → v < length a.vars → v < length b.vars
named-moved a b v e h = subst (λ (s : Shape). v < length s.vars) (sym e) h

-- nothing everywhere
abbrev pub none : Option Span
none = None

pub none-each : (n k : ℕ) → slice_index_or (replicate n none) k None ≡ None
none-each zero k = refl
none-each (suc n) zero = refl
none-each (suc n) (suc k) = none-each n k

-- the number at hand, or another one
pub same-or-other : (k i : ℕ) → (k ≡ i) ⊎ (k ≡ i → ⊥)
same-or-other k i = grind arith

pub below-or-same : (k i : ℕ) → k < i + 1 → (k < i) ⊎ (i ≡ k)
below-or-same k i h = grind arith

-- each coordinate held by what was found of it
abbrev pub fixed_at : List ℕ → List (Option Span) → ℕ → Projection
fixed_at p lefts i = fixed (slice_index p i) (slice_index_or lefts i None)

pub fixed-fixes : (p : List ℕ) (marks : List (List ℕ)) (lefts : List (Option Span)) (box : Option (List Span)) → ((k : ℕ) → k < length p → IfSome box (λ xs. slice_index_or lefts k None ≡ left_by_marks p marks xs k))
    → IfSome box (λ xs. Fixes xs (constell_projections_at p marks) (map (fixed_at p lefts) (range_with_len 0 (length p))))
fixed-fixes p marks lefts None each = tt
fixed-fixes p marks lefts (Some xs) each =
    let size = length-map-range_with_len (constell_projection p marks) 0 (length p) in
    let at = λ (k : ℕ) (d : Projection) (l : k < length (constell_projections_at p marks)). get_or-map-range_with_len (constell_projection p marks) 0 (length p) k k d (omega (arith, l, size)) (omega arith) in
    let kept = λ (k : ℕ) (d : Projection) (l : k < length (constell_projections_at p marks)). get_or-map-range_with_len (fixed_at p lefts) 0 (length p) k k d (omega (arith, l, size)) (omega arith) in
    record {
      len = size ∙ sym (length-map-range_with_len (fixed_at p lefts) 0 (length p));
      target = λ k d l. ap (λ (q : Projection). q.target) (at k d l) ∙ sym (ap (λ (q : Projection). q.target) (kept k d l));
      formula = λ k d ys l. ap (λ (q : Projection). q.formula ys) (kept k d l) ∙ ap narrowing_of (each k (omega (arith, l, size))) ∙ sym (ap (λ (q : Projection). q.formula xs) (at k d l));
    }
