-- What the loops have joined so far.
use Rattle.std.proofs.Common.{◌≡◌, ℕ, ◌+◌, ◌<◌, ◌⊎◌, inl, inr, List, ◌++◌, length, map, get_or, arith, refl, sym, ap, subst, ◌∙◌, Contains, slice_index}
use Rattle.std.proofs.lemmas.List.{get_or_default}
use Rattle.std.proofs.lemmas.List.Elements.{Contains-append_cases, Contains-append_left, Contains-append_right}
use Rattle.disjoint_sets.specs.Trees.{JoinsTrees, GoDown}
use Rattle.disjoint_sets.proofs.Ways.{joined-then, joined-back, joined-step}
use Rattle.ctc_network.specs.declared.answers.CtcId.{CtcId}
use Rattle.linked_cells.specs.Places.{cells_under}
use Rattle.linked_cells.specs.Classes.{IsFrom, AreBoth, ShareOne, IsFromOne, JoinsBy}
use Rattle.linked_cells.proofs.Joins.{IsPair, joins-none, joins-then, joins-as, joins-same, joins-more}

split : (j i : ℕ) → j < i + 1 → (j < i) ⊎ (j ≡ i)
split j i h = grind arith

-- ---- one number, with the first cells of a list

abbrev pub IsFromFirst : ℕ → List ℕ → ℕ → ℕ → ℕ → Type 0
IsFromFirst to cells n x y = (x ≡ to) × ((j : ℕ) × (j < n) × (get_or cells j 0 ≡ y))

pub first-none : (to : ℕ) (cells a : List ℕ) → GoDown a → JoinsBy (IsFromFirst to cells 0) a a
first-none to cells a down = joins-none (IsFromFirst to cells 0) a down (λ x y t. omega (arith, t.1.1))

pub first-more : (to : ℕ) (cells a b c : List ℕ) (n k : ℕ) → k ≡ get_or cells n 0 → JoinsBy (IsFromFirst to cells n) a b → JoinsTrees b c to k → JoinsBy (IsFromFirst to cells (n + 1)) a c
first-more to cells a b c n k e p q = joins-more (IsFromFirst to cells n) (IsFromFirst to cells (n + 1)) a b c to k p q
    (λ x y t. (t.0, (t.1.0, omega (arith, t.1.1), t.1.2))) (refl, (n, omega arith, sym e)) cases
  where
    cases : (x y : ℕ) → IsFromFirst to cells (n + 1) x y → IsFromFirst to cells n x y ⊎ IsPair to k x y
    cases x y t = elim (split t.1.0 n t.1.1) [
      | inl l ↦ inl (t.0, (t.1.0, l, t.1.2))
      | inr s ↦ inr (t.0, sym t.1.2 ∙ ap (λ (i : ℕ). get_or cells i 0) s ∙ sym e)
    ]

pub first-all : (to : ℕ) (cells a b : List ℕ) (n : ℕ) → n ≡ length cells → JoinsBy (IsFromFirst to cells n) a b → JoinsBy (IsFrom to cells) a b
first-all to cells a b n e p = joins-same (IsFromFirst to cells n) (IsFrom to cells) a b p
    (λ x y t. let l : t.1.0 < length cells = omega (arith, t.1.1, e) in (t.0, (t.1.0, l, get_or_default cells t.1.0 y 0 l ∙ t.1.2)))
    (λ x y t. (t.0, (t.1.0, omega (arith, t.1.1, e), get_or_default cells t.1.0 0 y t.1.1 ∙ t.1.2)))

-- the cells of two lists
pub from-both : (to : ℕ) (ks ls a b c : List ℕ) → JoinsBy (IsFrom to ks) a b → JoinsBy (IsFrom to ls) b c → JoinsBy (IsFrom to (ks ++ ls)) a c
from-both to ks ls a b c p q = joins-then (IsFrom to ks) (IsFrom to ls) (IsFrom to (ks ++ ls)) a b c p q
    (λ x y t. (t.0, Contains-append_left ks ls y t.1)) (λ x y t. (t.0, Contains-append_right ks ls y t.1)) cases
  where
    cases : (x y : ℕ) → IsFrom to (ks ++ ls) x y → IsFrom to ks x y ⊎ IsFrom to ls x y
    cases x y t = elim (Contains-append_cases ks ls y t.1) [ inl l ↦ inl (t.0, l) | inr l ↦ inr (t.0, l) ]

-- all cells of a list, by one of them
pub from-one : (to : ℕ) (ks a b : List ℕ) → Contains ks to → JoinsBy (IsFrom to ks) a b → JoinsBy (AreBoth ks) a b
from-one to ks a b there p = joins-as (IsFrom to ks) (AreBoth ks) a b p
    (λ x y t. joined-step (AreBoth ks) x y (subst (Contains ks) (sym t.0) there, t.1))
    (λ x y t. joined-then (IsFrom to ks) x to y (joined-back (IsFrom to ks) to x (joined-step (IsFrom to ks) to x (refl, t.0))) (joined-step (IsFrom to ks) to y (refl, t.1)))

pub both-none : (ks a : List ℕ) → GoDown a → ((k : ℕ) → Contains ks k → ⊥) → JoinsBy (AreBoth ks) a a
both-none ks a down none = joins-none (AreBoth ks) a down (λ x y t. none x t.0)

-- ---- all contractors

pub share-none : {K : Type 0} (cells : K → List ℕ) (cs : List K) (a : List ℕ) → GoDown a → JoinsBy (ShareOne cells cs 0) a a
share-none cells cs a down = joins-none (ShareOne cells cs 0) a down (λ x y t. omega (arith, t.1))

pub share-more : {K : Type 0} (cells : K → List ℕ) (cs : List K) (a b c : List ℕ) (n : ℕ) → JoinsBy (ShareOne cells cs n) a b → JoinsBy (AreBoth (cells_under cells cs n)) b c → JoinsBy (ShareOne cells cs (n + 1)) a c
share-more cells cs a b c n p q = joins-then (ShareOne cells cs n) (AreBoth (cells_under cells cs n)) (ShareOne cells cs (n + 1)) a b c p q
    (λ x y t. (t.0, omega (arith, t.1), t.2)) (λ x y t. (n, omega arith, t)) cases
  where
    cases : (x y : ℕ) → ShareOne cells cs (n + 1) x y → ShareOne cells cs n x y ⊎ AreBoth (cells_under cells cs n) x y
    cases x y t = elim (split t.0 n t.1) [ inl l ↦ inl (t.0, l, t.2) | inr s ↦ inr (subst (λ (k : ℕ). AreBoth (cells_under cells cs k) x y) s t.2) ]

-- ---- the contractors of a list of numbers

abbrev pub number_at : List CtcId → ℕ → ℕ
number_at ids i = slice_index (map (λ (id : CtcId). id.0) ids) i

pub one-none : {K : Type 0} (to : ℕ) (cells : K → List ℕ) (cs : List K) (ids : List CtcId) (a : List ℕ) → GoDown a → JoinsBy (IsFromOne to cells cs ids 0) a a
one-none to cells cs ids a down = joins-none (IsFromOne to cells cs ids 0) a down (λ x y t. omega (arith, t.1.1))

pub one-more : {K : Type 0} (to : ℕ) (cells : K → List ℕ) (cs : List K) (ids : List CtcId) (a b c : List ℕ) (n k : ℕ) → k ≡ number_at ids n → JoinsBy (IsFromOne to cells cs ids n) a b
    → JoinsBy (IsFrom to (cells_under cells cs k)) b c → JoinsBy (IsFromOne to cells cs ids (n + 1)) a c
one-more to cells cs ids a b c n k e p q = joins-then (IsFromOne to cells cs ids n) (IsFrom to (cells_under cells cs k)) (IsFromOne to cells cs ids (n + 1)) a b c p q
    (λ x y t. (t.0, (t.1.0, omega (arith, t.1.1), t.1.2))) (λ x y t. (t.0, (n, omega arith, subst (λ (m : ℕ). Contains (cells_under cells cs m) y) e t.1))) cases
  where
    cases : (x y : ℕ) → IsFromOne to cells cs ids (n + 1) x y → IsFromOne to cells cs ids n x y ⊎ IsFrom to (cells_under cells cs k) x y
    cases x y t = elim (split t.1.0 n t.1.1) [
      | inl l ↦ inl (t.0, (t.1.0, l, t.1.2))
      | inr s ↦ inr (t.0, subst (λ (m : ℕ). Contains (cells_under cells cs m) y) (ap (number_at ids) s ∙ sym e) t.1.2)
    ]
