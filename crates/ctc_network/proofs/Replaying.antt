-- Firings by a list of numbers.
use Rattle.std.proofs.Common.{◌≡◌, ℕ, ◌+◌, zero, suc, ◌<◌, ◌⊎◌, inl, inr, Option, Some, None, List, [], ◌∷◌, ◌++◌, Bool, true, false, IsNone, IfSome, refl, sym, ap, subst, ◌∙◌, length, take, get_or, cond, nat_eq, All, Contains, arith, slice_get, flat_map, append-nil}
use Rattle.std.specs.Cmp.{nat_eq_equiv}
use Rattle.std.specs.List.{cons_option, IsDistinct, list_any}
use Rattle.std.proofs.lemmas.List.{take_more}
use Rattle.std.proofs.lemmas.List.Elements.{filter_map-append, All-push, All-head, All-tail, Contains-push, Contains-push_cases, Contains-append_left}
use Rattle.std.proofs.lemmas.List.Concat.{flat_map-append}
use Rattle.std.proofs.lemmas.Map.Keys.{IsDistinct-push}
use Rattle.std.proofs.lemmas.Map.Views.{Contains-from_any}
use Rattle.tube_spec.specs.Span.{Span}
use Rattle.tube_spec.specs.Shape.{Shape}
use Rattle.tube_spec.specs.Projection.{Projection, IsMonotone}
use Rattle.tube_store.specs.State.{State, IsStore}
use Rattle.ctc_core.specs.Revising.{IfBoth, AddsNarrower}
use Rattle.ctc_core.specs.Answers.{Revises, changed_by, then_of}
use Rattle.ctc_core.specs.declared.Revised.{Revised}
use Rattle.ctc_core.specs.declared.Revised.TheVariants.{Same, Narrowed, Empty}
use Rattle.ctc_core.proofs.Firing.{Revises-then}
use Rattle.ctc_network.specs.declared.answers.CtcId.{CtcId}
use Rattle.ctc_network.specs.Nets.{IsDrained}
use Rattle.ctc_network.specs.Settling.{Fires, IsNarrowedBy, contractors_at}
use Rattle.ctc_network.proofs.Runs.{narrowed-trans}

-- runs at one shape, one after another
pub run-then : {C : Type 0} (projections : C → Shape → List Projection) (cs ds : List C) (a b d : State) → ds ≡ cs → IsNarrowedBy (flat_map (λ c. projections c a.shape) cs) a b
    → IsNarrowedBy (flat_map (λ c. projections c b.shape) ds) b d → IsNarrowedBy (flat_map (λ c. projections c a.shape) cs) a d
run-then {C} projections cs ds a b d same n m =
    narrowed-trans (flat_map (λ c. projections c a.shape) cs) a b d n
    (subst (λ (s : Shape). IsNarrowedBy (flat_map (λ c. projections c s) cs) b d) n.shape (subst (λ (es : List C). IsNarrowedBy (flat_map (λ c. projections c b.shape) es) b d) same m))

-- the contractor with a number
pub if-some : {X : Type 0} (P : X → Type 0) (o : Option X) (x : X) → o ≡ Some x → IfSome o P → P x
if-some {X} P o x e h = let u = subst (λ (p : Option X). IfSome p P) e h in u

some-fits : {X : Type 0} (P : Option X → Type 0) (b : Option X) → P b → IfSome b (λ x. P (Some x))
some-fits P None h = tt
some-fits P (Some x) h = h

-- one number more
pub contractors-more : {C : Type 0} (cs : List C) (ids : List CtcId) (i : ℕ) (d : CtcId) (c : C) → i < length ids → slice_get cs (get_or ids i d).0 ≡ Some c
    → contractors_at cs (take (i + 1) ids) ≡ contractors_at cs (take i ids) ++ c ∷ []
contractors-more {C} cs ids i d c l at =
    ap (contractors_at cs) (take_more ids i d l) ∙ filter_map-append (λ (j : CtcId). slice_get cs j.0) (take i ids) (get_or ids i d ∷ [])
    ∙ ap (λ (o : Option C). contractors_at cs (take i ids) ++ cons_option o []) at

-- a list of cells and those of another one, each once
abbrev joined : List ℕ → List ℕ → List ℕ
joined cells [] = cells
joined cells (k ∷ more) = joined (cond (list_any (nat_eq k) cells) cells (cells ++ k ∷ [])) more

same_number : (a b : ℕ) → nat_eq a b ≡ true → a ≡ b
same_number a b e = grind (arith, e)

-- one cell more, unless it is there
one-more : (cells : List ℕ) (k j : ℕ) (b : Bool) → list_any (nat_eq k) cells ≡ b → Contains (cond b cells (cells ++ k ∷ [])) j → Contains cells j ⊎ (k ≡ j)
one-more cells k j true e m = inl m
one-more cells k j false e m = Contains-push_cases cells k j m

more-old : (cells : List ℕ) (k j : ℕ) (b : Bool) → Contains cells j → Contains (cond b cells (cells ++ k ∷ [])) j
more-old cells k j true m = m
more-old cells k j false m = Contains-append_left cells (k ∷ []) j m

more-new : (cells : List ℕ) (k : ℕ) (b : Bool) → list_any (nat_eq k) cells ≡ b → Contains (cond b cells (cells ++ k ∷ [])) k
more-new cells k true e = Contains-from_any same_number k cells e
more-new cells k false e = Contains-push cells k

more-distinct : (cells : List ℕ) (k : ℕ) (b : Bool) → list_any (nat_eq k) cells ≡ b → IsDistinct nat_eq cells → IsDistinct nat_eq (cond b cells (cells ++ k ∷ []))
more-distinct cells k true e d = d
more-distinct cells k false e d = IsDistinct-push nat_eq_equiv cells k d e

more-among : (P : ℕ → Type 0) (cells : List ℕ) (k : ℕ) (b : Bool) → All P cells → P k → All P (cond b cells (cells ++ k ∷ []))
more-among P cells k true all p = all
more-among P cells k false all p = All-push P cells k all p

joined-from : (cells more : List ℕ) (j : ℕ) → Contains (joined cells more) j → Contains cells j ⊎ Contains more j
joined-from cells [] j m = inl m
joined-from cells (k ∷ more) j m = elim (joined-from (cond (list_any (nat_eq k) cells) cells (cells ++ k ∷ [])) more j m) [
  | inl h ↦ elim (one-more cells k j (list_any (nat_eq k) cells) refl h) [ inl old ↦ inl old | inr same ↦ inr (0, omega arith, same) ]
  | inr h ↦ inr (suc h.0, omega (arith, h.1), h.2)
]

joined-left : (cells more : List ℕ) (j : ℕ) → Contains cells j → Contains (joined cells more) j
joined-left cells [] j m = m
joined-left cells (k ∷ more) j m = joined-left (cond (list_any (nat_eq k) cells) cells (cells ++ k ∷ [])) more j (more-old cells k j (list_any (nat_eq k) cells) m)

joined-right : (cells more : List ℕ) (j : ℕ) → Contains more j → Contains (joined cells more) j
joined-right cells [] j m = absurd (omega (arith, m.1))
joined-right cells (k ∷ more) j (zero, l, e) =
    joined-left (cond (list_any (nat_eq k) cells) cells (cells ++ k ∷ [])) more j
    (let same : k ≡ j = e in subst (λ (i : ℕ). Contains (cond (list_any (nat_eq k) cells) cells (cells ++ k ∷ [])) i) same (more-new cells k (list_any (nat_eq k) cells) refl))
joined-right cells (k ∷ more) j (suc i, l, e) = joined-right (cond (list_any (nat_eq k) cells) cells (cells ++ k ∷ [])) more j (i, omega (arith, l), e)

joined-distinct : (cells more : List ℕ) → IsDistinct nat_eq cells → IsDistinct nat_eq (joined cells more)
joined-distinct cells [] d = d
joined-distinct cells (k ∷ more) d = joined-distinct (cond (list_any (nat_eq k) cells) cells (cells ++ k ∷ [])) more (more-distinct cells k (list_any (nat_eq k) cells) refl d)

joined-among : (P : ℕ → Type 0) (cells more : List ℕ) → All P cells → All P more → All P (joined cells more)
joined-among P cells [] all rest = all
joined-among P cells (k ∷ more) all rest =
    joined-among P (cond (list_any (nat_eq k) cells) cells (cells ++ k ∷ [])) more (more-among P cells k (list_any (nat_eq k) cells) all (All-head P k more rest)) (All-tail P k more rest)

-- A firing from a store of which no cell is touched is one from the same store with touched cells.
set-aside : (qs : List Projection) (b d : State) (y : Revised) (t u : List ℕ) → IsStore (record b { touched = t }) → IsDrained b → Revises qs b (record d { touched = u }) y
    → (w : List ℕ) × Revises qs (record b { touched = t }) (record d { touched = w }) y
set-aside qs b d y t u store drained r = at y r
  where
    -- where nothing changed
    stays : (x : Revised) → Revises qs b (record d { touched = u }) x → (let e : State = record d { touched = u } in e ≡ b) → Revises qs (record b { touched = t }) (record d { touched = t }) x
    stays x h e =
        let same : (let s : State = record d { touched = t } in let v : State = record b { touched = t } in s ≡ v) = ap (λ (s : State). let v : State = record s { touched = t } in v) e in
        record {
          before = store;
          after = subst IsStore (sym same) store;
          revised = record {
            shape = h.revised.shape;
            below = h.revised.below;
            keeps = h.revised.keeps;
            stable = h.revised.stable;
            touched = subst (λ (s : State). IfBoth b.box s.box (λ xs ys. AddsNarrower t s.touched xs ys)) (sym same) (none-narrower b.box);
            same = λ f. same;
            narrower = h.revised.narrower;
          };
          says = h.says;
          empty = λ f. same;
        }
      where
        none-narrower : (a : Option (List Span)) → IfBoth a a (λ xs ys. AddsNarrower t t xs ys)
        none-narrower None = tt
        none-narrower (Some xs) = λ k. (λ m. inl m, λ m. elim m [ inl h ↦ h | inr n ↦ absurd (omega (arith, n)) ])

    -- where the store changed, and was not empty
    changes : (x : Revised) → changed_by x ≡ true → Revises qs b (record d { touched = u }) x → b.touched ≡ [] → (IsNone b.box → ⊥) → Revises qs (record b { touched = t }) (record d { touched = joined t u }) x
    changes x f h none some = record {
      before = store;
      after = record {
        shape = h.after.shape;
        box = h.after.box;
        bounded = h.after.bounded;
        among = joined-among (λ k. k < d.shape.cells) t u (subst (λ (s : Shape). All (λ k. k < s.cells) t) (sym h.revised.shape) store.among) h.after.among;
        distinct = joined-distinct t u store.distinct;
      };
      revised = record {
        shape = h.revised.shape;
        below = h.revised.below;
        keeps = h.revised.keeps;
        stable = h.revised.stable;
        touched = adds b.box d.box h.revised.touched;
        same = λ g. absurd (cc);
        narrower = h.revised.narrower;
      };
      says = h.says;
      empty = λ e. absurd (some e);
    }
      where
        adds : (a e : Option (List Span)) → IfBoth a e (λ xs ys. AddsNarrower b.touched u xs ys) → IfBoth a e (λ xs ys. AddsNarrower t (joined t u) xs ys)
        adds None e h = tt
        adds (Some xs) None h = tt
        adds (Some xs) (Some ys) h = λ k. (
          λ m. elim (joined-from t u k m) [
            | inl old ↦ inl old
            | inr new ↦ elim ((h k).0 new) [
              | inl g ↦ let nothing = subst (λ (ks : List ℕ). Contains ks k) none g in absurd (omega (arith, nothing.1))
              | inr n ↦ inr n
            ]
          ],
          λ m. elim m [ inl old ↦ joined-left t u k old | inr n ↦ joined-right t u k ((h k).1 (inr n)) ],
        )

    by_box : (x : Revised) → changed_by x ≡ true → Revises qs b (record d { touched = u }) x → (a : Option (List Span)) → b.box ≡ a → IfSome a (λ xs. b.touched ≡ []) → (w : List ℕ) × Revises qs (record b { touched = t }) (record d { touched = w }) x
    by_box x f h None e none = (t, stays x h (h.empty (subst IsNone (sym e) refl)))
    by_box x f h (Some xs) e none = (joined t u, changes x f h none (λ n. let m = subst IsNone e n in absurd (cc)))

    at : (x : Revised) → Revises qs b (record d { touched = u }) x → (w : List ℕ) × Revises qs (record b { touched = t }) (record d { touched = w }) x
    at Same h = (t, stays Same h (h.revised.same refl))
    at Narrowed h = by_box Narrowed refl h b.box refl drained
    at Empty h = by_box Empty refl h b.box refl drained

-- one firing more
module _ (C : Type 0) (projections : C → Shape → List Projection) (fits : C → Shape → Option (List Span) → Type 0)
    (monotone : (c : C) (s : Shape) → All (IsMonotone (λ xs. fits c s (Some xs))) (projections c s)) where
  pub replay-more : (cs : List C) (ids : List CtcId) (i : ℕ) (n : CtcId) (c : C) (a b d : State) (x y z : Revised) → i < length ids → slice_get cs (get_or ids i n).0 ≡ Some c
      → fits c a.shape a.box → IsDrained b → Fires (flat_map (λ k. projections k a.shape) (contractors_at cs (take i ids))) a b x → Fires (projections c b.shape) b d y → z ≡ then_of x y
      → Fires (flat_map (λ k. projections k a.shape) (contractors_at cs (take (i + 1) ids))) a d z
  replay-more cs ids i n c a b d x y z inside at fit drained (t, r1) (u, r2) e =
      let f = λ (k : C). projections k a.shape in
      let before = contractors_at cs (take i ids) in
      let r3 : Revises (f c) b (record d { touched = u }) y = subst (λ (s : Shape). Revises (projections c s) b (record d { touched = u }) y) r1.revised.shape r2 in
      let r4 = set-aside (f c) b d y t u r1.after drained r3 in
      let both = Revises-then (λ xs. fits c a.shape (Some xs)) (flat_map f before) (f c) a (record b { touched = t }) (record d { touched = r4.0 }) x y (some-fits (fits c a.shape) a.box fit) (monotone c a.shape) r1 r4.1 in
      let more = ap (flat_map f) (contractors-more cs ids i n c inside at) ∙ flat_map-append f before (c ∷ []) ∙ ap (λ (ps : List Projection). flat_map f before ++ ps) (append-nil (f c)) in (
        r4.0,
        subst (λ (w : Revised). Revises (flat_map f (contractors_at cs (take (i + 1) ids))) a (record d { touched = r4.0 }) w) (sym e)
            (subst (λ (ps : List Projection). Revises ps a (record d { touched = r4.0 }) (then_of x y)) (sym more) both),
      )
