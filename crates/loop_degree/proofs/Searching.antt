-- What a binary search finds among rising pairs.
use Rattle.std.proofs.Common.{◌≡◌, ℕ, ◌+◌, ◌<◌, ◌≤◌, Bool, true, false, inl, inr, List, map, length, get_or, Result, Ok, Err, MatchResult, Ordering, Less, Equal, Greater, IsTrue, ◌↔◌, arith, refl, sym, ap, subst, ◌∙◌}
use Rattle.std.specs.Ordering.{ordering_then, nat_cmp, ordering_index, is_lt}
use Rattle.std.specs.List.{AllAdjacentBelow, IsAllAdjacentAnswer}
use Rattle.std.specs.Result.{is_ok}
use Rattle.std.specs.List.Sorted.{IsSearchInRange, IsBinarySearchResult, IsNonDecreasingBy}
use Rattle.std.proofs.lemmas.Bool.{cases_lt}
use Rattle.std.proofs.lemmas.List.{get_or-map, length-map}
use Rattle.std.proofs.lemmas.Bool.Decides.{nat_tests}
use Rattle.loop_degree.specs.Pairs.{IsBefore, IsRising, has}
use Rattle.loop_degree.proofs.Rising.{rising-at, has-at, has-none}

-- the order of pairs, as `cmp` answers
abbrev pub pair_cmp : ℕ × ℕ → ℕ × ℕ → Ordering
pair_cmp p q = ordering_then (nat_cmp p.0 q.0) (nat_cmp p.1 q.1)

index-rises : (p q r : ℕ × ℕ) → IsBefore p q → ordering_index (pair_cmp p r) ≤ ordering_index (pair_cmp q r)
index-rises p q r h = grind (arith, nat_tests)

less-other : (p q : ℕ × ℕ) → pair_cmp p q ≡ Less → p ≡ q → ⊥
less-other p q h e = let a = ap (λ (r : ℕ × ℕ). r.0) e in let b = ap (λ (r : ℕ × ℕ). r.1) e in grind (arith, nat_tests)

greater-other : (p q : ℕ × ℕ) → pair_cmp p q ≡ Greater → p ≡ q → ⊥
greater-other p q h e = let a = ap (λ (r : ℕ × ℕ). r.0) e in let b = ap (λ (r : ℕ × ℕ). r.1) e in grind (arith, nat_tests)

equal-same : (p q : ℕ × ℕ) → pair_cmp p q ≡ Equal → p ≡ q
equal-same p q h =
    let a : p.0 ≡ q.0 = grind (arith, nat_tests) in
    let b : p.1 ≡ q.1 = grind (arith, nat_tests) in
    ap (λ (n : ℕ). let r : ℕ × ℕ = (n, p.1) in r) a ∙ ap (λ (n : ℕ). let r : ℕ × ℕ = (q.0, n) in r) b

module _ {X : Type 0} (key : X → ℕ × ℕ) (xs : List X) (p : ℕ × ℕ) (rising : (i j : ℕ) (d : X) → i < j → j < length xs → IsBefore (key (get_or xs i d)) (key (get_or xs j d))) where
  answers-rise : IsNonDecreasingBy (λ x. ordering_index (pair_cmp (key x) p)) xs
  answers-rise i j d le inside =
      elim (cases_lt i j) [
        | inl l ↦ index-rises (key (get_or xs i d)) (key (get_or xs j d)) p (rising i j d l inside)
        | inr l ↦ let e : i ≡ j = omega (arith, le, l) in let f = ap (λ (n : ℕ). ordering_index (pair_cmp (key (get_or xs n d)) p)) e in omega arith
      ]

  -- the place of the pair, or no place has it
  pub searched : (r : Result ℕ ℕ) → IsBinarySearchResult (λ x. pair_cmp (key x) p) xs r → MatchResult r (λ i. (d : X) → key (get_or xs i d) ≡ p) (λ i. (k : ℕ) (d : X) → k < length xs → key (get_or xs k d) ≡ p → ⊥)
  searched (Ok i) h = λ d. equal-same _ p (h d)
  searched (Err i) h = λ k d l e. elim (cases_lt k i) [
    | inl m ↦ less-other _ p ((h answers-rise).0 k d (omega arith) m) e
    | inr m ↦ greater-other _ p ((h answers-rise).1 k d m l) e
  ]

-- a list has the pair that a search finds, and no other
pub found-has : (cells : List (ℕ × ℕ)) → IsRising cells → (p : ℕ × ℕ) (r : Result ℕ ℕ) → IsSearchInRange r (length cells) → IsBinarySearchResult (λ q. pair_cmp q p) cells r → is_ok r ≡ has cells p
found-has cells rising p r inside h = at r inside (searched (λ q. q) cells p (λ i j d l m. rising-at cells rising i j d l m) r h)
  where
    at : (r : Result ℕ ℕ) → IsSearchInRange r (length cells) → MatchResult r (λ i. (d : ℕ × ℕ) → get_or cells i d ≡ p) (λ i. (k : ℕ) (d : ℕ × ℕ) → k < length cells → get_or cells k d ≡ p → ⊥) → is_ok r ≡ has cells p
    at (Ok i) inside h = sym (has-at cells i p p inside (h p))
    at (Err i) inside h = sym (has-none cells p (λ k l e. h k p l e))

-- the order of the code and the order of the definition
lt-before : (p q : ℕ × ℕ) → is_lt (pair_cmp p q) ≡ true → IsBefore p q
lt-before p q h = grind (arith, nat_tests)

before-lt : (p q : ℕ × ℕ) → IsBefore p q → is_lt (pair_cmp p q) ≡ true
before-lt p q h = grind (arith, nat_tests)

-- what a test of neighbours answers
pub adjacent-rise : {X : Type 0} (key : X → ℕ × ℕ) (d : X) (xs : List X) (r : Bool) → IsAllAdjacentAnswer (λ x y b. b ≡ is_lt (pair_cmp (key x) (key y))) xs r → IsTrue r ↔ AllAdjacentBelow (λ x y. IsBefore (key x) (key y)) xs (length xs)
adjacent-rise key d xs true h = (λ t k e l. lt-before _ _ (sym (h k e l)), λ g. refl)
adjacent-rise key d xs false h = (λ t. absurd (cc), λ g. h.2 d ∙ before-lt _ _ (g h.0 d h.1))

-- labelled corners rise where the corners do
pub corners-rise : {X : Type 0} (key : X → ℕ × ℕ) (with_key : ℕ × ℕ → X) → ((d : ℕ × ℕ) → key (with_key d) ≡ d) → (xs : List X) → AllAdjacentBelow (λ x y. IsBefore (key x) (key y)) xs (length xs) ↔ IsRising (map key xs)
corners-rise key with_key same xs = (
  (λ g k d l. let m : k + 1 < length xs = omega (arith, l, length-map xs key) in
      rw (get_or-map key xs k (with_key d) d (omega (arith, m)), get_or-map key xs (k + 1) (with_key d) d m) (g k (with_key d) m)),
  (λ g k d l. let m : k + 1 < length (map key xs) = omega (arith, l, length-map xs key) in
      let n : k < length xs = omega (arith, l) in
      subst (λ (p : ℕ × ℕ). IsBefore p (key (get_or xs (k + 1) d))) (get_or-map key xs k d (key d) n)
      (subst (λ (p : ℕ × ℕ). IsBefore (get_or (map key xs) k (key d)) p) (get_or-map key xs (k + 1) d (key d) l) (g k (key d) m))),
)

pub iff_trans : {P Q R : Type 0} → P ↔ Q → Q ↔ R → P ↔ R
iff_trans f g = (λ p. g.0 (f.0 p), λ r. f.1 (g.1 r))
