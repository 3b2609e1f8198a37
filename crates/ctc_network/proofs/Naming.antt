-- Cells that a contractor reads or writes, and cells that are named.
use Rattle.std.proofs.Common.{◌≡◌, ℕ, ◌+◌, ◌-◌, ◌<◌, ◌≤◌, ◌⊎◌, inl, inr, List, ◌++◌, arith, refl, sym, ap, subst, ◌∙◌, length, length-append, map, get_or, Any, Contains}
use Rattle.std.proofs.lemmas.List.{get_or-map, get_or_default, get_or_append_left, get_or-append-add, get_or-append_right}
use Rattle.std.proofs.lemmas.Bool.{cases_lt}
use Rattle.tube_spec.specs.Projection.{Projection}
use Rattle.ctc_core.specs.Given.{no_projection, projection_at}

split : (j i : ℕ) → j < i + 1 → (j < i) ⊎ (j ≡ i)
split j i h = grind arith

-- one of some cells is named
pub named-one : (ks named : List ℕ) (i k : ℕ) → i < length ks → k ≡ get_or ks i 0 → Contains named k → Any (Contains named) ks
named-one ks named i k l e c = (i, k, l, get_or_default ks i k 0 l ∙ sym e, c)

-- the first of some cells are not named
pub none-more : (ks named : List ℕ) (i k : ℕ) → k ≡ get_or ks i 0 → (Contains named k → ⊥) → ((j : ℕ) → j < i → Contains named (get_or ks j 0) → ⊥) → (j : ℕ) → j < i + 1 → Contains named (get_or ks j 0) → ⊥
none-more ks named i k e other before j l c = elim (split j i l) [
  | inl h ↦ before j h c
  | inr h ↦ other (subst (Contains named) (ap (λ (n : ℕ). get_or ks n 0) h ∙ sym e) c)
]

pub none-all : (ks named : List ℕ) (n : ℕ) → length ks ≤ n → ((j : ℕ) → j < n → Contains named (get_or ks j 0) → ⊥) → Any (Contains named) ks → ⊥
none-all ks named n all none some = none some.0 (omega (arith, all, some.2)) (subst (Contains named) (sym (get_or_default ks some.0 0 some.1 some.2 ∙ some.3)) some.4)

-- the target of a projection with a number
pub target-at : (ps : List Projection) (i : ℕ) → i < length ps → get_or (map (λ (p : Projection). p.target) ps) i 0 ≡ (projection_at ps i).target
target-at ps i l = get_or-map (λ (p : Projection). p.target) ps i no_projection 0 l

-- among the first list or the second
pub any-first : {X : Type 0} (P : X → Type 0) (xs ys : List X) → Any P xs → Any P (xs ++ ys)
any-first P xs ys h = (h.0, h.1, omega (arith, h.2, length-append xs ys), get_or_append_left xs ys h.1 h.0 h.2 ∙ h.3, h.4)

pub any-second : {X : Type 0} (P : X → Type 0) (xs ys : List X) → Any P ys → Any P (xs ++ ys)
any-second P xs ys h = (length xs + h.0, h.1, omega (arith, h.2, length-append xs ys), get_or-append-add xs ys h.0 h.1 ∙ h.3, h.4)

pub any-cases : {X : Type 0} (P : X → Type 0) (xs ys : List X) → Any P (xs ++ ys) → Any P xs ⊎ Any P ys
any-cases P xs ys h = elim (cases_lt h.0 (length xs)) [
  | inl l ↦ inl (h.0, h.1, l, sym (get_or_append_left xs ys h.1 h.0 l) ∙ h.3, h.4)
  | inr l ↦ inr (h.0 - length xs, h.1, omega (arith, l, h.2, length-append xs ys), sym (get_or-append_right xs ys (length xs) h.0 h.1 refl l) ∙ h.3, h.4)
]
