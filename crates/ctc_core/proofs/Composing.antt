-- Firings one after another.
use Rattle.std.proofs.Common.{◌≡◌, ℕ, ◌+◌, ◌<◌, ◌⊎◌, inl, inr, Bool, true, false, ◌||◌, Option, Some, None, List, [], ◌++◌, IfSome, arith, refl, subst, ◌∙◌, length, All, Contains}
use Rattle.std.proofs.lemmas.List.Elements.{All-append, All-weaker}
use Rattle.std.proofs.Common.{get_or, length-append, get_or-append-add}
use Rattle.std.proofs.Math.ListN.{get_or-append}
use Rattle.tube_spec.specs.Span.{Span, width_of}
use Rattle.tube_spec.specs.Narrowing.{IsUnder}
use Rattle.tube_spec.specs.Box.{cell_at, IsBox, IsBelow, IsBelowBox}
use Rattle.tube_spec.specs.Projection.{Projection, IsStable, IsMonotone}
use Rattle.tube_spec.specs.Fixpoint.{IsFixpoint}
use Rattle.tube_spec.proofs.Spans.{IsUnder-narrowing, IsUnder-within}
use Rattle.tube_spec.proofs.Boxes.{IsBelowBox-refl, IsBelowBox-trans}
use Rattle.tube_spec.proofs.Widths.{width-le}
use Rattle.tube_store.specs.State.{State}
use Rattle.ctc_core.specs.Revising.{IsRevised, IfBoth, AddsNarrower, IsNarrower}

-- what is left of all
pub All-left : {X : Type 0} (P : X → Type 0) (xs ys : List X) → All P (xs ++ ys) → All P xs
All-left P xs ys h k d l = subst P (get_or-append xs ys d k l) (h k d (rw length-append (omega (arith, l))))

pub All-right : {X : Type 0} (P : X → Type 0) (xs ys : List X) → All P (xs ++ ys) → All P ys
All-right P xs ys h k d l = subst P (get_or-append-add xs ys k d) (h (length xs + k) d (rw length-append (omega (arith, l))))

pub fixpoint-left : (ps qs : List Projection) (q : List Span) → IsFixpoint (ps ++ qs) q → IsFixpoint ps q
fixpoint-left ps qs q f = record { box = f.box; stable = All-left (IsStable q) ps qs f.stable }

pub fixpoint-right : (ps qs : List Projection) (q : List Span) → IsFixpoint (ps ++ qs) q → IsFixpoint qs q
fixpoint-right ps qs q f = record { box = f.box; stable = All-right (IsStable q) ps qs f.stable }

narrower-none : (xs : List Span) (k : ℕ) → IsNarrower xs xs k → ⊥
narrower-none xs k h = omega (arith, h)

-- no projection is applied
pub IsRevised-none : (s : State) → IsRevised [] s s false
IsRevised-none s = record {
  shape = refl;
  below = IsBelowBox-refl s.box;
  keeps = λ q f b. b;
  stable = at_stays s.box;
  touched = at_touched s.box s.touched;
  same = λ e. refl;
  narrower = λ e. absurd (cc);
}
  where
    at_stays : (b : Option (List Span)) → IfBoth b b (λ xs ys. All (λ (p : Projection). IsUnder (cell_at ys p.target) (p.formula xs)) [])
    at_stays None = tt
    at_stays (Some xs) = λ k d l. absurd (omega arith)

    at_touched : (b : Option (List Span)) (t : List ℕ) → IfBoth b b (λ xs ys. AddsNarrower t t xs ys)
    at_touched None t = tt
    at_touched (Some xs) t = λ k. (λ h. inl h, λ h. elim h [ inl m ↦ m | inr n ↦ absurd (narrower-none xs k n) ])

less-either : (a b c : ℕ) → c < a → (b < a) ⊎ (c < b)
less-either a b c h = grind arith

-- narrower over two steps
narrower-either : (xs ys zs : List Span) (k : ℕ) → IsBelow ys xs → IsBelow zs ys → IsNarrower xs zs k → IsNarrower xs ys k ⊎ IsNarrower ys zs k
narrower-either xs ys zs k p q h = less-either (width_of (cell_at xs k)) (width_of (cell_at ys k)) (width_of (cell_at zs k)) h

narrower-first : (xs ys zs : List Span) (k : ℕ) → IsBelow zs ys → IsNarrower xs ys k → IsNarrower xs zs k
narrower-first xs ys zs k q h = omega (arith, h, width-le (cell_at zs k) (cell_at ys k) (q.each k))

narrower-second : (xs ys zs : List Span) (k : ℕ) → IsBelow ys xs → IsNarrower ys zs k → IsNarrower xs zs k
narrower-second xs ys zs k p h = omega (arith, h, width-le (cell_at ys k) (cell_at xs k) (p.each k))

-- the touched cells over two steps
AddsNarrower-trans : (a b c : List ℕ) (xs ys zs : List Span) → IsBelow ys xs → IsBelow zs ys → AddsNarrower a b xs ys → AddsNarrower b c ys zs → AddsNarrower a c xs zs
AddsNarrower-trans a b c xs ys zs p q first second k = (there, back)
  where
    there : Contains c k → Contains a k ⊎ IsNarrower xs zs k
    there h = elim ((second k).0 h) [
      | inl m ↦ elim ((first k).0 m) [ inl m ↦ inl m | inr n ↦ inr (narrower-first xs ys zs k q n) ]
      | inr n ↦ inr (narrower-second xs ys zs k p n)
    ]

    back : Contains a k ⊎ IsNarrower xs zs k → Contains c k
    back h = elim h [
      | inl m ↦ (second k).1 (inl ((first k).1 (inl m)))
      | inr n ↦ elim (narrower-either xs ys zs k p q n) [
        | inl n ↦ (second k).1 (inl ((first k).1 (inr n)))
        | inr n ↦ (second k).1 (inr n)
      ]
    ]

-- two lists of projections, one after the other
pub IsRevised-append : (Fits : List Span → Type 0) (ps qs : List Projection) (a b c : State) (x y : Bool) → IfSome a.box IsBox → IfSome b.box IsBox → IfSome a.box Fits → All (IsMonotone Fits) qs → IsRevised ps a b x → IsRevised qs b c y → IsRevised (ps ++ qs) a c (x || y)
IsRevised-append Fits ps qs a b c x y boxa boxb fits mono r1 r2 = record {
  shape = r2.shape ∙ r1.shape;
  below = IsBelowBox-trans c.box b.box a.box r2.below r1.below;
  keeps = λ q f low. r2.keeps q (fixpoint-right ps qs q f) (r1.keeps q (fixpoint-left ps qs q f) low);
  stable = at_stays a.box b.box c.box boxa boxb fits r1.below r2.below r1.stable r2.stable;
  touched = at_touched a.box b.box c.box r1.below r2.below r1.touched r2.touched;
  same = at_same x y r1.same r2.same;
  narrower = at_narrower a.box b.box c.box x y r1.below r2.below r1.narrower r2.narrower;
}
  where
    at_stays : (a b c : Option (List Span)) → IfSome a IsBox → IfSome b IsBox → IfSome a Fits → IsBelowBox b a → IsBelowBox c b → IfBoth a b (λ xs ys. All (λ (p : Projection). IsUnder (cell_at ys p.target) (p.formula xs)) ps) → IfBoth b c (λ xs ys. All (λ (p : Projection). IsUnder (cell_at ys p.target) (p.formula xs)) qs) → IfBoth a c (λ xs ys. All (λ (p : Projection). IsUnder (cell_at ys p.target) (p.formula xs)) (ps ++ qs))
    at_stays None b c _ _ _ _ _ _ _ = tt
    at_stays (Some xs) b None _ _ _ _ _ _ _ = tt
    at_stays (Some xs) None (Some zs) _ _ _ p q _ _ = absurd q
    at_stays (Some xs) (Some ys) (Some zs) boxx boxy fits p q h1 h2 =
        All-append (λ (s : Projection). IsUnder (cell_at zs s.target) (s.formula xs)) ps qs
        (All-weaker (λ (s : Projection). IsUnder (cell_at ys s.target) (s.formula xs)) (λ (s : Projection). IsUnder (cell_at zs s.target) (s.formula xs)) (λ s u. IsUnder-within (cell_at zs s.target) (cell_at ys s.target) (s.formula xs) (q.each s.target) u) ps h1)
        (λ k d l. IsUnder-narrowing (cell_at zs (get_or qs k d).target) ((get_or qs k d).formula ys) ((get_or qs k d).formula xs) (h2 k d l) (mono k d l ys xs boxy boxx fits p))

    at_touched : (xa xb xc : Option (List Span)) → IsBelowBox xb xa → IsBelowBox xc xb → IfBoth xa xb (λ xs ys. AddsNarrower a.touched b.touched xs ys) → IfBoth xb xc (λ xs ys. AddsNarrower b.touched c.touched xs ys) → IfBoth xa xc (λ xs ys. AddsNarrower a.touched c.touched xs ys)
    at_touched None xb xc _ _ _ _ = tt
    at_touched (Some xs) xb None _ _ _ _ = tt
    at_touched (Some xs) None (Some zs) p q _ _ = absurd q
    at_touched (Some xs) (Some ys) (Some zs) p q h1 h2 = AddsNarrower-trans a.touched b.touched c.touched xs ys zs p q h1 h2

    at_same : (x y : Bool) → (x ≡ false → b ≡ a) → (y ≡ false → c ≡ b) → (x || y) ≡ false → c ≡ a
    at_same false false h1 h2 e = h2 refl ∙ h1 refl
    at_same false true h1 h2 e = absurd (cc)
    at_same true y h1 h2 e = absurd (cc)

    at_narrower : (a b c : Option (List Span)) (x y : Bool) → IsBelowBox b a → IsBelowBox c b → (x ≡ true → IfBoth a b (λ xs ys. (k : ℕ) × IsNarrower xs ys k)) → (y ≡ true → IfBoth b c (λ xs ys. (k : ℕ) × IsNarrower xs ys k)) → (x || y) ≡ true → IfBoth a c (λ xs ys. (k : ℕ) × IsNarrower xs ys k)
    at_narrower None b c x y _ _ _ _ _ = tt
    at_narrower (Some xs) b None x y _ _ _ _ _ = tt
    at_narrower (Some xs) None (Some zs) x y p q _ _ _ = absurd q
    at_narrower (Some xs) (Some ys) (Some zs) true y p q h1 h2 e = let n = h1 refl in (n.0, narrower-first xs ys zs n.0 q n.1)
    at_narrower (Some xs) (Some ys) (Some zs) false true p q h1 h2 e = let n = h2 refl in (n.0, narrower-second xs ys zs n.0 p n.1)
    at_narrower (Some xs) (Some ys) (Some zs) false false p q h1 h2 e = absurd (cc)
