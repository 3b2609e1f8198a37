-- A narrowing as the firing of one projection.
use Rattle.std.proofs.Common.{◌≡◌, ℕ, zero, suc, ◌<◌, ◌↔◌, ◌⊎◌, inl, inr, Bool, true, false, cond, Option, Some, None, List, [], ◌∷◌, ◌++◌, IfSome, IsSome, arith, refl, sym, ap, subst, length, set, All, Contains, nat_eq, eqb-true}
use Rattle.std.proofs.Common.{get_or-set_same, pos}
use Rattle.std.proofs.lemmas.Int.{ints}
use Rattle.tube_spec.specs.Span.{point, Span, IsProper, IsWithin, width_of, meet_of}
use Rattle.std.proofs.lemmas.List.Elements.{Contains-append_left, Contains-push, Contains-push_cases}
use Rattle.std.proofs.lemmas.Map.Views.{Contains-from_any}
use Rattle.tube_spec.specs.Narrowing.{Within, IsUnder}
use Rattle.tube_spec.specs.Shape.{Shape}
use Rattle.tube_spec.specs.Box.{cell_at, IsBox, IsBelow}
use Rattle.tube_spec.specs.Projection.{Projection, IsStable, IsMonotone}
use Rattle.tube_spec.specs.Fixpoint.{IsFixpoint}
use Rattle.tube_spec.proofs.Spans.{meet-left, meet-right, IsWithin-meet}
use Rattle.tube_spec.proofs.Boxes.{IsBelow-refl, IsBelow-set, set-IsBelow, cell-set, under-formula}
use Rattle.tube_spec.proofs.Widths.{meet-less}
use Rattle.tube_store.specs.State.{State, touch}
use Rattle.tube_store.specs.Touched.{stands_in}
use Rattle.tube_store.specs.Cuts.{Cuts, MatchCut}
use Rattle.tube_store.specs.declared.Cut.{Cut}
use Rattle.tube_store.specs.declared.Cut.TheVariants.{Same, Narrowed, Empty}
use Rattle.ctc_core.specs.Revising.{IsRevised, IsNarrower}

abbrev pub cut_changed : Cut → Bool
cut_changed Same = false
cut_changed Narrowed = true
cut_changed Empty = true

-- the cells of a list with one more
touch-adds : (t : List ℕ) (c k : ℕ) → Contains (touch t c) k ↔ (Contains t k ⊎ (k ≡ c))
touch-adds t c k = at (stands_in t c) refl
  where
    at : (b : Bool) → stands_in t c ≡ b → Contains (cond b t (t ++ c ∷ [])) k ↔ (Contains t k ⊎ (k ≡ c))
    at true e = (λ h. inl h, λ h. elim h [ inl m ↦ m | inr s ↦ subst (λ (j : ℕ). Contains t j) (sym s) (Contains-from_any {eq = nat_eq} eqb-true c t e) ])
    at false e = (λ h. elim (Contains-push_cases t c k h) [ inl m ↦ inl m | inr s ↦ inr (sym s) ], λ h. elim h [ inl m ↦ Contains-append_left t (c ∷ []) k m | inr s ↦ subst (λ (j : ℕ). Contains (t ++ c ∷ []) j) (sym s) (Contains-push t c) ])

-- which cells a narrowing makes narrower
set-narrower : (xs : List Span) (c : ℕ) (t : Span) (k : ℕ) → c < length xs → width_of t < width_of (cell_at xs c) → (IsNarrower xs (set xs c t) k) ↔ (k ≡ c)
set-narrower xs c t k h less = (there, back)
  where
    there : IsNarrower xs (set xs c t) k → k ≡ c
    there n = elim (cell-set xs c k t h) [
      | inl e ↦ e.0
      | inr e ↦ absurd (omega (arith, n, ap width_of e.1))
    ]

    back : k ≡ c → IsNarrower xs (set xs c t) k
    back s = elim (cell-set xs c k t h) [
      | inl e ↦ omega (arith, less, ap width_of e.1, ap (λ (j : ℕ). width_of (cell_at xs j)) s)
      | inr e ↦ absurd (e.0 s)
    ]

pub one-projection : (P : Projection → Type 0) (p : Projection) → P p → All P (p ∷ [])
one-projection P p h zero d l = h
one-projection P p h (suc k) d l = absurd (omega arith)

pub only-projection : (P : Projection → Type 0) (p : Projection) → All P (p ∷ []) → P p
only-projection P p h = h 0 p (omega arith)

within-proper : (a b : Span) → IsProper a → IsWithin a b → IsProper b
within-proper a b p w = omega (arith, ints, p, w)

module _ (Fits : List Span → Type 0) (p : Projection) (s : Shape) (xs : List Span) (t : List ℕ) (to : Span)
    (box : IsBox xs) (fits : Fits xs) (mono : IsMonotone Fits p) (inside : p.target < length xs) (gives : p.formula xs ≡ Within to) where
  under : (q : List Span) → IsFixpoint (p ∷ []) q → IsBelow q xs → IsWithin (cell_at q p.target) to
  under q f low = subst (IsUnder (cell_at q p.target)) gives (under-formula Fits p q xs mono f.box box fits low (only-projection (IsStable q) p f.stable))

  narrow-same : IsWithin (cell_at xs p.target) to → IsRevised (p ∷ []) (record { shape = s; box = Some xs; touched = t }) (record { shape = s; box = Some xs; touched = t }) false
  narrow-same h = record {
    shape = refl;
    below = IsBelow-refl xs;
    keeps = λ q f b. b;
    stable = one-projection (λ (r : Projection). IsUnder (cell_at xs r.target) (r.formula xs)) p (subst (IsUnder (cell_at xs p.target)) (sym gives) h);
    touched = λ k. (λ m. inl m, λ m. elim m [ inl m ↦ m | inr n ↦ absurd (omega (arith, n)) ]);
    same = λ e. refl;
    narrower = λ e. absurd (cc);
  }

  narrowed-touched : (m : Span) → width_of m < width_of (cell_at xs p.target) → (k : ℕ) → Contains (touch t p.target) k ↔ (Contains t k ⊎ IsNarrower xs (set xs p.target m) k)
  narrowed-touched m less k = (
    λ h. elim ((touch-adds t p.target k).0 h) [ inl c ↦ inl c | inr e ↦ inr ((set-narrower xs p.target m k inside less).1 e) ],
    λ h. elim h [ inl c ↦ (touch-adds t p.target k).1 (inl c) | inr n ↦ (touch-adds t p.target k).1 (inr ((set-narrower xs p.target m k inside less).0 n)) ],
  )

  narrow-less : (IsWithin (cell_at xs p.target) to → ⊥) → IsProper (meet_of (cell_at xs p.target) to) → IsRevised (p ∷ []) (record { shape = s; box = Some xs; touched = t }) (record { shape = s; box = Some (set xs p.target (meet_of (cell_at xs p.target) to)); touched = touch t p.target }) true
  narrow-less h good =
      let m : Span = meet_of (cell_at xs p.target) to in
      let less = meet-less (cell_at xs p.target) to good h in
      record {
        shape = refl;
        below = set-IsBelow xs p.target m inside (meet-left (cell_at xs p.target) to);
        keeps = λ q f b. IsBelow-set q xs p.target m inside b (IsWithin-meet (cell_at q p.target) (cell_at xs p.target) to (b.each p.target) (under q f b));
        stable = one-projection (λ (r : Projection). IsUnder (cell_at (set xs p.target m) r.target) (r.formula xs)) p (subst (IsUnder (cell_at (set xs p.target m) p.target)) (sym gives) (subst (λ (c : Span). IsWithin c to) (sym (get_or-set_same xs p.target m (point (pos 0)) inside)) (meet-right (cell_at xs p.target) to)));
        touched = λ k. narrowed-touched m less k;
        same = λ e. absurd (cc);
        narrower = λ e. (p.target, (set-narrower xs p.target m p.target inside less).1 refl);
      }

  narrow-empty : (IsProper (meet_of (cell_at xs p.target) to) → ⊥) → IsRevised (p ∷ []) (record { shape = s; box = Some xs; touched = t }) (record { shape = s; box = None; touched = t }) true
  narrow-empty h = record {
    shape = refl;
    below = tt;
    keeps = λ q f b. h (within-proper (cell_at q p.target) (meet_of (cell_at xs p.target) to) (f.box p.target) (IsWithin-meet (cell_at q p.target) (cell_at xs p.target) to (b.each p.target) (under q f b)));
    stable = tt;
    touched = tt;
    same = λ e. absurd (cc);
    narrower = λ e. tt;
  }

  narrow-cut : (new : State) (cut : Cut) → Cuts (cell_at xs p.target) to cut
      → MatchCut cut (new ≡ record { shape = s; box = Some xs; touched = t }) (new ≡ record { shape = s; box = Some (set xs p.target (meet_of (cell_at xs p.target) to)); touched = touch t p.target }) (new ≡ record { shape = s; box = None; touched = t })
      → IsRevised (p ∷ []) (record { shape = s; box = Some xs; touched = t }) new (cut_changed cut)
  narrow-cut new Same cuts e = subst (λ (n : State). IsRevised (p ∷ []) (record { shape = s; box = Some xs; touched = t }) n false) (sym e) (narrow-same cuts.same)
  narrow-cut new Narrowed cuts e = subst (λ (n : State). IsRevised (p ∷ []) (record { shape = s; box = Some xs; touched = t }) n true) (sym e) (narrow-less cuts.same cuts.empty)
  narrow-cut new Empty cuts e = subst (λ (n : State). IsRevised (p ∷ []) (record { shape = s; box = Some xs; touched = t }) n true) (sym e) (narrow-empty cuts.empty)

-- what a narrowing ensures, as the firing of the projection that gives the interval
pub IsRevised-narrow : (Fits : List Span → Type 0) (p : Projection) (old new : State) (to : Span) (cut : Cut)
    → IsSome old.box → IfSome old.box IsBox → IfSome old.box Fits → IsMonotone Fits p → IfSome old.box (λ xs. p.target < length xs) → IfSome old.box (λ xs. p.formula xs ≡ Within to)
    → IfSome old.box (λ xs. Cuts (cell_at xs p.target) to cut)
    → IfSome old.box (λ xs. MatchCut cut (new ≡ old) (new ≡ record old { box = Some (set xs p.target (meet_of (cell_at xs p.target) to)); touched = touch old.touched p.target }) (new ≡ record old { box = None }))
    → IsRevised (p ∷ []) old new (cut_changed cut)
IsRevised-narrow Fits p old new to cut = at old.shape old.box old.touched
  where
    at : (s : Shape) (b : Option (List Span)) (t : List ℕ) → IsSome b → IfSome b IsBox → IfSome b Fits → IsMonotone Fits p → IfSome b (λ xs. p.target < length xs) → IfSome b (λ xs. p.formula xs ≡ Within to)
        → IfSome b (λ xs. Cuts (cell_at xs p.target) to cut)
        → IfSome b (λ xs. MatchCut cut (new ≡ record { shape = s; box = b; touched = t }) (new ≡ record { shape = s; box = Some (set xs p.target (meet_of (cell_at xs p.target) to)); touched = touch t p.target }) (new ≡ record { shape = s; box = None; touched = t }))
        → IsRevised (p ∷ []) (record { shape = s; box = b; touched = t }) new (cut_changed cut)
    at s None t some box fits mono inside gives cuts e = absurd (cc)
    at s (Some xs) t some box fits mono inside gives cuts e = narrow-cut Fits p s xs t to box fits mono inside gives new cut cuts e
