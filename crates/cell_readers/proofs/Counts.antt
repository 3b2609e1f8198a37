-- How many wait: what rest and waking do to the count.
use Rattle.std.proofs.Common.{◌≡◌, ◌≢◌, ℕ, zero, suc, ◌+◌, ◌<◌, ◌≤◌, ◌⊎◌, inl, inr, ◌||◌, Bool, true, false, cond, Some, List, [], ◌∷◌, arith, refl, ap, subst, ◌∙◌, length, set, length-set, sum_by, count_by, slice_get}
use Rattle.std.proofs.lemmas.Bool.{cases_eq}
use Rattle.std.proofs.lemmas.List.Sums.{sum_by-cons, sum_by-set}
use Rattle.std.proofs.lemmas.Option.{get_or_from_slice_get, slice_get_within}
use Rattle.std.specs.List.{list_any}
use Rattle.cell_readers.specs.Waking.{readers, AreWoken}

-- one that waited rests
pub count-rest : (ws : List Bool) (k : ℕ) → slice_get ws k ≡ Some true → count_by (λ w. w) (set ws k false) + 1 ≡ count_by (λ w. w) ws
count-rest ws k e =
    let l = slice_get_within ws k true e in
    omega (arith, sum_by-set (λ (w : Bool). cond w 1 0) ws k false false l, ap {B = ℕ} (λ (w : Bool). cond w 1 0) (get_or_from_slice_get ws k true false e))

-- one more waits at most
pub count-wake : (ws : List Bool) (k : ℕ) → count_by (λ w. w) (set ws k true) ≤ count_by (λ w. w) ws + 1
count-wake [] k = omega arith
count-wake (w ∷ ws) zero = omega (arith, sum_by-cons (λ (b : Bool). cond b 1 0) w ws, sum_by-cons (λ (b : Bool). cond b 1 0) true ws)
count-wake (w ∷ ws) (suc k) = omega (arith, sum_by-cons (λ (b : Bool). cond b 1 0) w ws, sum_by-cons (λ (b : Bool). cond b 1 0) w (set ws k true), count-wake ws k)

-- the marks that a write leaves
pub mark-here : (ws : List Bool) (k : ℕ) (b : Bool) → k < length ws → slice_get (set ws k b) k ≡ Some b
mark-here [] k b l = absurd (omega arith)
mark-here (w ∷ ws) zero b l = refl
mark-here (w ∷ ws) (suc k) b l = mark-here ws k b (omega (arith, l))

pub mark-other : (ws : List Bool) (k j : ℕ) (b : Bool) → j ≢ k → slice_get (set ws k b) j ≡ slice_get ws j
mark-other [] k j b n = refl
mark-other (w ∷ ws) zero zero b n = absurd (n refl)
mark-other (w ∷ ws) zero (suc j) b n = refl
mark-other (w ∷ ws) (suc k) zero b n = refl
mark-other (w ∷ ws) (suc k) (suc j) b n = mark-other ws k j b (λ e. n (ap suc e))

one-place : (a b p : Bool) → (Some a ≡ Some true → (Some b ≡ Some true) ⊎ (p ≡ true)) → cond a 1 0 ≤ cond b 1 0 + cond p 1 0
one-place false b p h = omega arith
one-place true true p h = omega arith
one-place true false true h = omega arith
one-place true false false h = elim (h refl) [ inl e ↦ absurd (cc) | inr e ↦ absurd (cc) ]

-- who waits afterwards waited before or passes the test
pub union-lists : {C : Type 0} (q : C → Bool) (cs : List C) (before after : List Bool) → length before ≡ length cs → length after ≡ length cs
    → ((j : ℕ) (c : C) → slice_get cs j ≡ Some c → slice_get after j ≡ Some true → (slice_get before j ≡ Some true) ⊎ (q c ≡ true))
    → count_by (λ w. w) after ≤ count_by (λ w. w) before + count_by q cs
union-lists q [] [] [] lb la h = omega arith
union-lists q [] (b ∷ before) after lb la h = absurd (omega (arith, lb))
union-lists q [] [] (a ∷ after) lb la h = absurd (omega (arith, la))
union-lists q (c ∷ cs) [] after lb la h = absurd (omega (arith, lb))
union-lists q (c ∷ cs) (b ∷ before) [] lb la h = absurd (omega (arith, la))
union-lists q (c ∷ cs) (b ∷ before) (a ∷ after) lb la h =
    omega (
      arith,
      one-place a b (q c) (h 0 c refl),
      union-lists q cs before after (omega (arith, lb)) (omega (arith, la)) (λ j d. h (suc j) d),
      sum_by-cons (λ (w : Bool). cond w 1 0) a after,
      sum_by-cons (λ (w : Bool). cond w 1 0) b before,
      sum_by-cons (λ d. cond (q d) 1 0) c cs,
    )

count-none : {C : Type 0} (cs : List C) → count_by (λ c. false) cs ≡ 0
count-none [] = refl
count-none (c ∷ cs) = omega (arith, sum_by-cons (λ c. cond false 1 0) c cs, count-none cs)

count-or : {C : Type 0} (p q : C → Bool) (cs : List C) → count_by (λ c. p c || q c) cs ≤ count_by p cs + count_by q cs
count-or p q [] = omega arith
count-or p q (c ∷ cs) =
    omega (arith, one (p c) (q c), count-or p q cs, sum_by-cons (λ d. cond (p d || q d) 1 0) c cs, sum_by-cons (λ d. cond (p d) 1 0) c cs, sum_by-cons (λ d. cond (q d) 1 0) c cs)
  where
    one : (a b : Bool) → cond (a || b) 1 0 ≤ cond a 1 0 + cond b 1 0
    one true b = omega arith
    one false b = omega arith

-- those that read any of some cells are at most the readers of each, added up
pub readers-any : {C : Type 0} (reads : C → ℕ → Bool) (cs : List C) (cells : List ℕ) → count_by (λ c. list_any (reads c) cells) cs ≤ sum_by (readers reads cs) cells
readers-any reads cs [] = omega (arith, count-none cs)
readers-any reads cs (x ∷ cells) =
    omega (arith, count-or (λ c. reads c x) (λ c. list_any (reads c) cells) cs, readers-any reads cs cells, sum_by-cons (readers reads cs) x cells)

-- Waking the readers of some cells, and one more, raises the count by at most one more than the readers of each, added up.
pub union : {C : Type 0} (reads : C → ℕ → Bool) (cs : List C) (cells : List ℕ) (k : ℕ) (before after : List Bool) → length before ≡ length cs
    → AreWoken reads cs cells k before after → count_by (λ w. w) after ≤ count_by (λ w. w) before + 1 + sum_by (readers reads cs) cells
union {C} reads cs cells k before after len woken =
    omega (arith, count-wake before k, readers-any reads cs cells, union-lists (λ c. list_any (reads c) cells) cs (set before k true) after (length-set before k true ∙ len) (woken.len ∙ len) at)
  where
    waits : (j : ℕ) → j < length before → (slice_get before j ≡ Some true) ⊎ (j ≡ k) → (j ≡ k) ⊎ (j ≡ k → ⊥) → slice_get (set before k true) j ≡ Some true
    waits j l h (inl e) = subst (λ (i : ℕ). slice_get (set before i true) j ≡ Some true) e (mark-here before j true l)
    waits j l (inl h) (inr n) = mark-other before k j true n ∙ h
    waits j l (inr h) (inr n) = absurd (n h)

    at : (j : ℕ) (c : C) → slice_get cs j ≡ Some c → slice_get after j ≡ Some true → (slice_get (set before k true) j ≡ Some true) ⊎ (list_any (reads c) cells ≡ true)
    at j c there w =
        let l : j < length before = omega (arith, slice_get_within cs j c there, len) in
        elim (woken.only j c there w) [
          | inl h ↦ inl (waits j l (inl h) (cases_eq j k))
          | inr h ↦ elim h [ inl e ↦ inl (waits j l (inr e) (cases_eq j k)) | inr r ↦ inr r ]
        ]
