-- Members of lists, and what stands under numbers of which some are withdrawn.
use Rattle.std.proofs.Common.{◌≡◌, ℕ, zero, suc, ◌<◌, ◌⊎◌, inl, inr, Option, Some, None, List, [], ◌∷◌, length, map, set, slice_get, slice_index, get_or, arith, refl, sym, ap, subst, ◌∙◌, Contains}
use Rattle.std.specs.List.{cons_option}
use Rattle.std.proofs.lemmas.List.{get_or-map}
use Rattle.std.proofs.lemmas.Option.{get_or_from_slice_get, slice_get-get_or, slice_get_within}
use Rattle.disjoint_sets.proofs.Trees.{same-or}
use Rattle.ctc_network.specs.declared.answers.CtcId.{CtcId}
use Rattle.ctc_network.specs.Settling.{contractors_at}
use Rattle.ctc_network.proofs.Removing.{left-there}
use Rattle.linked_cells.specs.Places.{without}

pub member-at : {X : Type 0} (xs : List X) (x : X) → Contains xs x → (k : ℕ) × (slice_get xs k ≡ Some x)
member-at xs x m = (m.0, slice_get-get_or xs m.0 x m.1 ∙ ap Some m.2)

pub at-member : {X : Type 0} (xs : List X) (k : ℕ) (x : X) → slice_get xs k ≡ Some x → Contains xs x
at-member xs k x e = (k, slice_get_within xs k x e, get_or_from_slice_get xs k x x e)

pub member-head : {X : Type 0} (x : X) (xs : List X) → Contains (x ∷ xs) x
member-head x xs = (0, omega arith, refl)

pub member-tail : {X : Type 0} (x : X) (xs : List X) (y : X) → Contains xs y → Contains (x ∷ xs) y
member-tail x xs y m = (suc m.0, omega (arith, m.1), m.2)

pub member-cases : {X : Type 0} (x : X) (xs : List X) (y : X) → Contains (x ∷ xs) y → (x ≡ y) ⊎ Contains xs y
member-cases {X} x xs y m = at m.0 m.1 m.2
  where
    at : (k : ℕ) → k < suc (length xs) → get_or (x ∷ xs) k y ≡ y → (x ≡ y) ⊎ Contains xs y
    at zero l e = inl e
    at (suc k) l e = inr (k, omega (arith, l), e)

abbrev pub numbers : List CtcId → List ℕ
numbers ids = map (λ (id : CtcId). id.0) ids

-- a number read from its place
pub number-at : (ids : List CtcId) (i : ℕ) (d : CtcId) → i < length ids → (get_or ids i d).0 ≡ slice_index (numbers ids) i
number-at ids i d l = sym (get_or-map (λ (id : CtcId). id.0) ids i d 0 l)

-- another place keeps what stands there
other-place : {X : Type 0} (xs : List X) (k j : ℕ) (y : X) → (j ≡ k → ⊥) → slice_get (set xs k y) j ≡ slice_get xs j
other-place [] k j y n = refl
other-place (x ∷ xs) zero zero y n = absurd (n refl)
other-place (x ∷ xs) zero (suc j) y n = refl
other-place (x ∷ xs) (suc k) zero y n = refl
other-place (x ∷ xs) (suc k) (suc j) y n = other-place xs k j y (λ e. n (ap suc e))

-- who is left was there
pub without-there : {C : Type 0} (ids : List CtcId) (cs : List (Option C)) (k : ℕ) (c : C) → slice_get (without cs ids) k ≡ Some (Some c) → slice_get cs k ≡ Some (Some c)
without-there [] cs k c e = e
without-there (id ∷ ids) cs k c e = left-there cs id.0 k c (without-there ids (set cs id.0 None) k c e)

-- who was there is listed or left
pub without-or : {C : Type 0} (ids : List CtcId) (cs : List (Option C)) (k : ℕ) (c : C) → slice_get cs k ≡ Some (Some c) → Contains (numbers ids) k ⊎ (slice_get (without cs ids) k ≡ Some (Some c))
without-or [] cs k c e = inr e
without-or {C} (id ∷ ids) cs k c e = at (same-or k id.0) (without-or ids (set cs id.0 None) k c)
  where
    later : Contains (numbers ids) k ⊎ (slice_get (without (set cs id.0 None) ids) k ≡ Some (Some c)) → Contains (numbers (id ∷ ids)) k ⊎ (slice_get (without (set cs id.0 None) ids) k ≡ Some (Some c))
    later (inl m) = inl (member-tail id.0 (numbers ids) k m)
    later (inr l) = inr l

    at : (k ≡ id.0) ⊎ (k ≡ id.0 → ⊥) → (slice_get (set cs id.0 None) k ≡ Some (Some c) → Contains (numbers ids) k ⊎ (slice_get (without (set cs id.0 None) ids) k ≡ Some (Some c))) → Contains (numbers (id ∷ ids)) k ⊎ (slice_get (without (set cs id.0 None) ids) k ≡ Some (Some c))
    at (inl s) go = inl (0, omega arith, sym s)
    at (inr n) go = later (go (other-place cs id.0 k None n ∙ e))

-- who stands under a listed number is among the listed ones
pub listed-member : {X : Type 0} (cs : List X) (ids : List CtcId) (k : ℕ) (o : X) → Contains (numbers ids) k → slice_get cs k ≡ Some o → Contains (contractors_at cs ids) o
listed-member cs [] k o m e = absurd (omega (arith, m.1))
listed-member {X} cs (id ∷ ids) k o m e = at (member-cases id.0 (numbers ids) k m) (λ h. listed-member cs ids k o h e)
  where
    onto : (p : Option X) → Contains (contractors_at cs ids) o → Contains (cons_option p (contractors_at cs ids)) o
    onto None h = h
    onto (Some x) h = member-tail x (contractors_at cs ids) o h

    at : (id.0 ≡ k) ⊎ Contains (numbers ids) k → (Contains (numbers ids) k → Contains (contractors_at cs ids) o) → Contains (contractors_at cs (id ∷ ids)) o
    at (inl s) go = subst (λ (q : Option X). Contains (cons_option q (contractors_at cs ids)) o) (sym (ap (slice_get cs) s ∙ e)) (member-head o (contractors_at cs ids))
    at (inr h) go = onto (slice_get cs id.0) (go h)

-- one stands under a number of a list
abbrev pub StandsUnder : {X : Type 0} → List X → X → List CtcId → Type 0
StandsUnder cs o ids = (k : ℕ) × Contains (numbers ids) k × (slice_get cs k ≡ Some o)

-- and who is among these stands under a listed number
pub member-listed : {X : Type 0} (cs : List X) (ids : List CtcId) (o : X) → Contains (contractors_at cs ids) o → (k : ℕ) × Contains (numbers ids) k × (slice_get cs k ≡ Some o)
member-listed cs [] o m = absurd (omega (arith, m.1))
member-listed {X} cs (id ∷ ids) o m = at (slice_get cs id.0) refl (member-listed cs ids o) m
  where
    later : StandsUnder cs o ids → StandsUnder cs o (id ∷ ids)
    later r = (r.0, member-tail id.0 (numbers ids) r.0 r.1, r.2)

    cases : (x : X) → slice_get cs id.0 ≡ Some x → (Contains (contractors_at cs ids) o → StandsUnder cs o ids) → (x ≡ o) ⊎ Contains (contractors_at cs ids) o → StandsUnder cs o (id ∷ ids)
    cases x e go (inl s) = (id.0, member-head id.0 (numbers ids), e ∙ ap Some s)
    cases x e go (inr h) = later (go h)

    at : (p : Option X) → slice_get cs id.0 ≡ p → (Contains (contractors_at cs ids) o → StandsUnder cs o ids) → Contains (cons_option p (contractors_at cs ids)) o → StandsUnder cs o (id ∷ ids)
    at None e go h = later (go h)
    at (Some x) e go h = cases x e go (member-cases x (contractors_at cs ids) o h)
