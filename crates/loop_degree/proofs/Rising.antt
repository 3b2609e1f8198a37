-- Rising lists of pairs.
use Rattle.std.proofs.Common.{◌≡◌, ℕ, zero, suc, ◌+◌, ◌*◌, ◌<◌, ◌≤◌, true, false, ◌⊎◌, inl, inr, List, [], ◌∷◌, length, get_or, arith, refl, sym, ap, subst, ◌∙◌}
use Rattle.std.specs.List.{AllByRecursion}
use Rattle.std.proofs.lemmas.Bool.{or_cases, or_left, or_right, or_from, false_from_ne_true, cases_lt, cases_order}
use Rattle.std.proofs.lemmas.List.Elements.{All-get_or, All-from_recursion}
use Rattle.loop_degree.specs.Pairs.{IsBefore, IsRising, has, is_same}
use Rattle.loop_degree.proofs.Sharing.{IsApart, same_pair, is_same-self}
use Rattle.loop_degree.proofs.Alls.{all-weaker}

pub before-trans : (p q r : ℕ × ℕ) → IsBefore p q → IsBefore q r → IsBefore p r
before-trans p q r h k = (omega (arith, h.0, k.0), λ e. omega (arith, h.0, k.0, h.1 (omega (arith, e, h.0, k.0)), k.1 (omega (arith, e, h.0, k.0))))

pub rising-tail : (c : ℕ × ℕ) (cs : List (ℕ × ℕ)) → IsRising (c ∷ cs) → IsRising cs
rising-tail c cs h = λ k d l.
    let next = h (suc k) d (omega (arith, l)) in
    let e : suc k + 1 ≡ suc (k + 1) = omega arith in
    subst (λ (n : ℕ). IsBefore (get_or cs k d) (get_or (c ∷ cs) n d)) e next

-- the first is before each later one
pub rising-far : (c : ℕ × ℕ) (cs : List (ℕ × ℕ)) → IsRising (c ∷ cs) → AllByRecursion (IsBefore c) cs
rising-far c [] h = tt
rising-far c (d ∷ ds) h =
    let next : IsBefore c d = h 0 c (omega arith) in
    (next, all-weaker (IsBefore d) (IsBefore c) ds (λ r k. before-trans c d r next k) (rising-far d ds (rising-tail c (d ∷ ds) h)))

after-apart : (c : ℕ × ℕ) (cs : List (ℕ × ℕ)) → AllByRecursion (IsBefore c) cs → has cs c ≡ true → ⊥
after-apart c [] h k = absurd (cc)
after-apart c (d ∷ ds) h k =
    elim (or_cases _ _ k) [
      | inl e ↦ let s = same_pair d c e in let p = h.0.1 (ap (λ (q : ℕ × ℕ). q.0) (sym s)) in let r = ap (λ (q : ℕ × ℕ). q.1) s in omega (arith, p, r)
      | inr t ↦ after-apart c ds h.1 t
    ]

-- rising pairs stand once each
pub rising-apart : (cs : List (ℕ × ℕ)) → IsRising cs → IsApart cs
rising-apart [] h = tt
rising-apart (c ∷ cs) h = (false_from_ne_true _ (after-apart c cs (rising-far c cs h)), rising-apart cs (rising-tail c cs h))

-- there are at most as many as pairs of numbers below the bound
short-from : (c : ℕ × ℕ) (cs : List (ℕ × ℕ)) → IsRising (c ∷ cs) → AllByRecursion (λ p. (p.0 < 100000) × (p.1 < 100000)) (c ∷ cs) → length (c ∷ cs) + (c.0 * 100000 + c.1) ≤ 10000000000
short-from c [] h k = let a = k.0.0 in let b = k.0.1 in omega arith
short-from c (d ∷ ds) h k =
    let rest = short-from d ds (rising-tail c (d ∷ ds) h) k.1 in
    let next : IsBefore c d = h 0 c (omega arith) in
    let a = k.0.0 in
    let b = k.0.1 in
    elim (either c.0 d.0 next.0) [
      | inl e ↦ let l = next.1 e in omega arith
      | inr l ↦ omega arith
    ]
  where
    either : (m n : ℕ) → m ≤ n → (m ≡ n) ⊎ (m < n)
    either m n h = grind arith

pub rising-short : (cs : List (ℕ × ℕ)) → IsRising cs → AllByRecursion (λ p. (p.0 < 100000) × (p.1 < 100000)) cs → length cs ≤ 10000000000
rising-short [] h k = omega arith
rising-short (c ∷ cs) h k = omega (arith, short-from c cs h k)

-- each is before each later one
pub rising-at : (cs : List (ℕ × ℕ)) → IsRising cs → (i j : ℕ) (d : ℕ × ℕ) → i < j → j < length cs → IsBefore (get_or cs i d) (get_or cs j d)
rising-at [] h i j d l m = absurd (omega arith)
rising-at (c ∷ cs) h zero zero d l m = absurd (omega arith)
rising-at (c ∷ cs) h (suc i) zero d l m = absurd (omega arith)
rising-at (c ∷ cs) h zero (suc j) d l m = All-get_or (IsBefore c) cs j d (omega (arith, m)) (All-from_recursion (IsBefore c) cs (rising-far c cs h))
rising-at (c ∷ cs) h (suc i) (suc j) d l m = rising-at cs (rising-tail c cs h) i j d (omega (arith, l)) (omega (arith, m))

-- the list has the pair that stands in it
pub has-at : (cs : List (ℕ × ℕ)) (i : ℕ) (d p : ℕ × ℕ) → i < length cs → get_or cs i d ≡ p → has cs p ≡ true
has-at [] i d p l e = absurd (omega arith)
has-at (c ∷ cs) zero d p l e = or_left _ _ (subst (λ (q : ℕ × ℕ). is_same c q ≡ true) e (is_same-self c))
has-at (c ∷ cs) (suc i) d p l e = or_right _ _ (has-at cs i d p (omega (arith, l)) e)

-- and none that stands nowhere in it
pub has-none : (cs : List (ℕ × ℕ)) (p : ℕ × ℕ) → ((i : ℕ) → i < length cs → get_or cs i p ≡ p → ⊥) → has cs p ≡ false
has-none [] p h = refl
has-none (c ∷ cs) p h =
    or_from _ _ (false_from_ne_true _ (λ e. h 0 (omega arith) (same_pair c p e))) (has-none cs p (λ i l e. h (suc i) (omega (arith, l)) e))

pub before-other : (p q : ℕ × ℕ) → IsBefore p q → p ≡ q → ⊥
before-other p q h e =
    let a = ap (λ (r : ℕ × ℕ). r.0) e in
    let b = ap (λ (r : ℕ × ℕ). r.1) e in
    let l = h.1 a in
    omega (arith, l, b)

-- nothing is between what lies before and what lies after
pub has-parted : (cs : List (ℕ × ℕ)) (p : ℕ × ℕ) (low : ℕ) → ((k : ℕ) (d : ℕ × ℕ) → k < low → IsBefore (get_or cs k d) p) → ((k : ℕ) (d : ℕ × ℕ) → low ≤ k → k < length cs → IsBefore p (get_or cs k d)) → has cs p ≡ false
has-parted cs p low f g = has-none cs p (λ i l e. elim (cases_lt i low) [
  | inl m ↦ before-other (get_or cs i p) p (f i p m) e
  | inr m ↦ before-other p (get_or cs i p) (g i p m l) (sym e)
])

-- of two pairs that differ one is before the other
pub neither-before : (p : ℕ × ℕ) (a b : ℕ) → (IsBefore p (a, b) → ⊥) → (IsBefore (a, b) p → ⊥) → p ≡ (a, b)
neither-before p a b h k =
    elim (cases_order p.0 a) [
      | inl e ↦ elim (cases_order p.1 b) [
        | inl d ↦ ap (λ (m : ℕ). let r : ℕ × ℕ = (m, p.1) in r) e ∙ ap (λ (n : ℕ). let r : ℕ × ℕ = (a, n) in r) d
        | inr s ↦ elim s [
          | inl l ↦ absurd (h (omega (arith, e), λ _. l))
          | inr l ↦ absurd (k (omega (arith, e), λ _. l))
        ]
      ]
      | inr s ↦ elim s [
        | inl l ↦ absurd (h (omega (arith, l), λ e. absurd (omega (arith, l, e))))
        | inr l ↦ absurd (k (omega (arith, l), λ e. absurd (omega (arith, l, e))))
      ]
    ]
