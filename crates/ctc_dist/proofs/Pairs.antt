-- The projections coordinate by coordinate: those on both points after one another.
use Rattle.std.proofs.Common.{◌≡◌, ℕ, zero, suc, ◌+◌, ◌-◌, ◌*◌, ◌<◌, ◌⊎◌, inl, inr, Option, Some, None, IfSome, List, [], ◌∷◌, ◌++◌, arith, refl, sym, ap, subst, ◌∙◌, add-one, length, slice_index, slice_index_or, All}
use Rattle.std.proofs.lemmas.List.Elements.{All-append, All-nil, All-cons}
use Rattle.tube_spec.specs.Span.{Span, IsWithin, add_of, sub_of}
use Rattle.tube_spec.specs.Hull.{IsWithinOption}
use Rattle.tube_spec.specs.Narrowing.{IsUnder, IsWithinNarrowing, narrowing_of}
use Rattle.tube_spec.specs.Shape.{Shape}
use Rattle.tube_spec.specs.Box.{cell_at}
use Rattle.tube_spec.specs.Fixpoint.{IsFixpoint, KeepsFixpoints}
use Rattle.tube_spec.specs.Projection.{Projection, IsStable, IsMonotone}
use Rattle.tube_spec.proofs.Spans.{IsWithin-refl}
use Rattle.tube_store.specs.State.{State}
use Rattle.ctc_core.specs.declared.Revised.{Revised}
use Rattle.ctc_core.specs.Revising.{IfBoth}
use Rattle.ctc_core.specs.Answers.{Revises}
use Rattle.ctc_core.specs.Given.{no_projection}
use Rattle.ctc_core.proofs.Composing.{All-left, All-right}
use Rattle.ctc_core.proofs.Fixing.{Fixes}
use Rattle.ctc_dist.specs.Fixed.{fixed}
use Rattle.ctc_dist.specs.Distances.{dimension, forth, back, dist_projections_at}
use Rattle.ctc_dist.specs.DistLaws.{dist-each, forth-mono, back-mono}
use Rattle.ctc_dist.proofs.Reading.{projections-length, forth-at, back-at}

same-within : (o : Option Span) → IsWithinNarrowing (narrowing_of o) (narrowing_of o)
same-within None = tt
same-within (Some a) = IsWithin-refl a

pub fixed-mono : (Fits : List Span → Type 0) (cell : ℕ) (to : Option Span) → IsMonotone Fits (fixed cell to)
fixed-mono Fits cell to xs ys bx by fits low = same-within to

-- a firing in a store of the same shape, said of the old one
pub fixed-moved : (a b : Shape) (v k : ℕ) (t u : Option Span) (old new : State) (r : Revised) → b ≡ a → k ≡ slice_index a.vars v → t ≡ u → Revises (fixed (slice_index b.vars v) t ∷ []) old new r → Revises (fixed k u ∷ []) old new r
fixed-moved a b v k t u old new r e f g h =
    subst (λ (o : Option Span). Revises (fixed k o ∷ []) old new r) g
    (subst (λ (c : ℕ). Revises (fixed c t ∷ []) old new r) (sym f) (subst (λ (s : Shape). Revises (fixed (slice_index s.vars v) t ∷ []) old new r) e h))

pub named-moved : (a b : Shape) (v : ℕ) → b ≡ a → v < length a.vars → v < length b.vars
named-moved a b v e h = subst (λ (s : Shape). v < length s.vars) (sym e) h

-- both projections of a coordinate
abbrev pub pair : List ℕ → List ℕ → Span → ℕ → List Projection
pair p b q i = forth p b q i ∷ back p b q i ∷ []

-- those of the coordinates below a number
abbrev pub pairs_below : List ℕ → List ℕ → Span → ℕ → List Projection
pairs_below p b q zero = []
pairs_below p b q (suc n) = pairs_below p b q n ++ pair p b q n

pub pairs-more : (p b : List ℕ) (q : Span) (n : ℕ) → pairs_below p b q (n + 1) ≡ pairs_below p b q n ++ pair p b q n
pairs-more p b q n = ap (pairs_below p b q) (add-one n)

pub pair-mono : (Fits : List Span → Type 0) (p b : List ℕ) (q : Span) (i : ℕ) → All (IsMonotone Fits) (pair p b q i)
pair-mono Fits p b q i = All-cons (IsMonotone Fits) (forth p b q i) (back p b q i ∷ []) (forth-mono Fits p b q i) (All-cons (IsMonotone Fits) (back p b q i) [] (back-mono Fits p b q i) (All-nil (IsMonotone Fits)))

-- one of the numbers below the next one
last-or-less : (i n : ℕ) → i < suc n → (i < n) ⊎ (i ≡ n)
last-or-less i n h = grind arith

module _ (P : Projection → Type 0) (p b : List ℕ) (q : Span) where
  pub of-pairs : (n i : ℕ) → All P (pairs_below p b q n) → i < n → P (forth p b q i) × P (back p b q i)
  of-pairs zero i h l = absurd (omega (arith, l))
  of-pairs (suc n) i h l = elim (last-or-less i n l) [
    | inl m ↦ of-pairs n i (All-left P (pairs_below p b q n) (pair p b q n) h) m
    | inr e ↦
        let last = All-right P (pairs_below p b q n) (pair p b q n) h in
        subst (λ (k : ℕ). P (forth p b q k) × P (back p b q k)) (sym e) (last 0 (forth p b q n) (omega arith), last 1 (forth p b q n) (omega arith))
  ]

  pub pairs-of : (n : ℕ) → ((i : ℕ) → i < n → P (forth p b q i)) → ((i : ℕ) → i < n → P (back p b q i)) → All P (pairs_below p b q n)
  pairs-of zero one other = All-nil P
  pairs-of (suc n) one other =
      All-append P (pairs_below p b q n) (pair p b q n) (pairs-of n (λ i l. one i (omega (arith, l))) (λ i l. other i (omega (arith, l))))
      (All-cons P (forth p b q n) (back p b q n ∷ []) (one n (omega arith)) (All-cons P (back p b q n) [] (other n (omega arith)) (All-nil P)))

-- the projections as the constraint lists them: those on the one point, and then those on the other
forth-of : (P : Projection → Type 0) (p b : List ℕ) (q : Span) → All P (dist_projections_at p b q) → (i : ℕ) → i < dimension p b → P (forth p b q i)
forth-of P p b q h i l = subst P (forth-at p b q i l) (h i no_projection (omega (arith, l, projections-length p b q)))

back-of : (P : Projection → Type 0) (p b : List ℕ) (q : Span) → All P (dist_projections_at p b q) → (i : ℕ) → i < dimension p b → P (back p b q i)
back-of P p b q h i l =
    let there : (dimension p b + i) - dimension p b ≡ i = omega arith in
    subst (λ (k : ℕ). P (back p b q k)) there (subst P (back-at p b q (dimension p b + i) (omega arith) (omega (arith, l))) (h (dimension p b + i) no_projection (omega (arith, l, projections-length p b q))))

pairs-both : (p b : List ℕ) (q : Span) (u v : Option (List Span)) → IfBoth u v (λ xs ys. All (λ (x : Projection). IsUnder (cell_at ys x.target) (x.formula xs)) (pairs_below p b q (dimension p b)))
    → IfBoth u v (λ xs ys. All (λ (x : Projection). IsUnder (cell_at ys x.target) (x.formula xs)) (dist_projections_at p b q))
pairs-both p b q None v h = tt
pairs-both p b q (Some xs) None h = tt
pairs-both p b q (Some xs) (Some ys) h =
    let P : Projection → Type 0 = λ x. IsUnder (cell_at ys x.target) (x.formula xs) in
    dist-each P p b q (λ i l. (of-pairs P p b q (dimension p b) i h l).0) (λ i l. (of-pairs P p b q (dimension p b) i h l).1)

-- a firing coordinate by coordinate is a firing of all
pub pairs-fire : (p b : List ℕ) (q : Span) (old new : State) (answer : Revised) → Revises (pairs_below p b q (dimension p b)) old new answer → Revises (dist_projections_at p b q) old new answer
pairs-fire p b q old new answer r = record {
  before = r.before;
  after = r.after;
  revised = record {
    shape = r.revised.shape;
    below = r.revised.below;
    keeps = λ x fix low. r.revised.keeps x (record {
      box = fix.box;
      stable = pairs-of (IsStable x) p b q (dimension p b) (forth-of (IsStable x) p b q fix.stable) (back-of (IsStable x) p b q fix.stable);
    }) low;
    stable = pairs-both p b q old.box new.box r.revised.stable;
    touched = r.revised.touched;
    same = r.revised.same;
    narrower = r.revised.narrower;
  };
  says = r.says;
  empty = r.empty;
}

-- what was found of a coordinate is what its formulas give
pair-fixes : (p b : List ℕ) (q : Span) (i : ℕ) (xs : List Span) (one other : Option Span) → narrowing_of one ≡ (forth p b q i).formula xs → narrowing_of other ≡ (back p b q i).formula xs
    → Fixes xs (pair p b q i) (fixed (slice_index p i) one ∷ fixed (slice_index b i) other ∷ [])
pair-fixes p b q i xs one other e f = record {
  len = refl;
  target = λ k d l. target k d l;
  formula = λ k d ys l. formula k d ys l;
}
  where
    target : (k : ℕ) (d : Projection) → k < 2 → (slice_index_or (pair p b q i) k d).target ≡ (slice_index_or (fixed (slice_index p i) one ∷ fixed (slice_index b i) other ∷ []) k d).target
    target zero d l = refl
    target (suc zero) d l = refl
    target (suc (suc k)) d l = absurd (omega (arith, l))

    formula : (k : ℕ) (d : Projection) (ys : List Span) → k < 2 → (slice_index_or (fixed (slice_index p i) one ∷ fixed (slice_index b i) other ∷ []) k d).formula ys ≡ (slice_index_or (pair p b q i) k d).formula xs
    formula zero d ys l = e
    formula (suc zero) d ys l = f
    formula (suc (suc k)) d ys l = absurd (omega (arith, l))

pub pair-fixed : (p b : List ℕ) (q : Span) (i : ℕ) (box : Option (List Span)) (one other : Option Span) → IfSome box (λ xs. narrowing_of one ≡ (forth p b q i).formula xs) → IfSome box (λ xs. narrowing_of other ≡ (back p b q i).formula xs)
    → IfSome box (λ xs. Fixes xs (pair p b q i) (fixed (slice_index p i) one ∷ fixed (slice_index b i) other ∷ []))
pair-fixed p b q i None one other e f = tt
pair-fixed p b q i (Some xs) one other e f = pair-fixes p b q i xs one other e f
