-- What holds of each projection of each part.
use Rattle.std.proofs.Common.{◌≡◌, ℕ, zero, suc, ◌+◌, ◌<◌, ◌≤◌, ◌⊎◌, inl, inr, List, [], ◌∷◌, ◌++◌, refl, sym, subst, ap, ap₂, ◌∙◌, arith, length, length-append, get_or, get_or-append-add, All, Contains, flat_map}
use Rattle.std.proofs.Math.ListN.{get_or-append}
use Rattle.std.proofs.lemmas.List.{get_or_push}
use Rattle.std.proofs.lemmas.List.Elements.{All-append, All-head, All-tail, All-nil, All-cons, All-contains}
use Rattle.ctc_core.proofs.Composing.{All-left, All-right}
use Rattle.ctc_parts.specs.Parts.{each_below}

-- what is below a number's next one is below it or is it
pub below-suc : (k n : ℕ) → k < suc n → (k < n) ⊎ (k ≡ n)
below-suc k n h = grind arith

module _ {X : Type 0} (P : X → Type 0) (f : ℕ → List X) where
  -- what holds of each member of each list holds of each member of all
  pub All-each_below : (n : ℕ) → ((k : ℕ) → k < n → All P (f k)) → All P (each_below f n)
  All-each_below zero h = All-nil P
  All-each_below (suc n) h = All-append P (each_below f n) (f n) (All-each_below n (λ k l. h k (omega (arith, l)))) (h n (omega arith))

  -- and the other way round
  pub each_below-all : (n k : ℕ) → k < n → All P (each_below f n) → All P (f k)
  each_below-all zero k l h = absurd (omega (arith, l))
  each_below-all (suc n) k l h = elim (below-suc k n l) [
    | inl l ↦ each_below-all n k l (All-left P (each_below f n) (f n) h)
    | inr e ↦ subst (λ (j : ℕ). All P (f j)) (sym e) (All-right P (each_below f n) (f n) h)
  ]

  -- the same of a list of parts
  pub All-flat_map : (ks : List ℕ) → All (λ k. All P (f k)) ks → All P (flat_map f ks)
  All-flat_map [] h = All-nil P
  All-flat_map (k ∷ ks) h = All-append P (f k) (flat_map f ks) (All-head (λ k. All P (f k)) k ks h) (All-flat_map ks (All-tail (λ k. All P (f k)) k ks h))

  -- and the other way round
  pub flat_map-each : (ks : List ℕ) → All P (flat_map f ks) → All (λ k. All P (f k)) ks
  flat_map-each [] h = All-nil (λ k. All P (f k))
  flat_map-each (k ∷ ks) h = All-cons (λ k. All P (f k)) k ks (All-left P (f k) (flat_map f ks) h) (flat_map-each ks (All-right P (f k) (flat_map f ks) h))

  -- what holds of all that stands in the list of parts holds of one of them
  pub flat_map-all : (ks : List ℕ) (k : ℕ) → Contains ks k → All P (flat_map f ks) → All P (f k)
  flat_map-all ks k m h = All-contains (λ k. All P (f k)) ks k (flat_map-each ks h) m

  -- what holds of each part below n holds of all that stands in a list of parts below n
  pub flat_map-below : (n : ℕ) (ks : List ℕ) → All (λ i. i < n) ks → All P (each_below f n) → All P (flat_map f ks)
  flat_map-below n ks few h = All-flat_map ks (λ j d l. each_below-all n (get_or ks j d) (few j d l) h)

-- the same as below-suc, with a sum
pub below-more : (i j : ℕ) → j < i + 1 → (j < i) ⊎ (j ≡ i)
below-more i j h = grind arith

module _ {X : Type 0} (f : ℕ → List X) where
  -- more parts have no fewer members
  pub each-longer : (k n : ℕ) → k ≤ n → length (each_below f k) ≤ length (each_below f n)
  each-longer k zero l = subst (λ (j : ℕ). length (each_below f j) ≤ length (each_below f zero)) (le-zero k l) (omega arith)
    where
      le-zero : (k : ℕ) → k ≤ 0 → 0 ≡ k
      le-zero k l = omega (arith, l)
  each-longer k (suc n) l = elim (le-suc k n l) [
    | inl l ↦ omega (arith, each-longer k n l, length-append (each_below f n) (f n))
    | inr e ↦ subst (λ (j : ℕ). length (each_below f j) ≤ length (each_below f (suc n))) (sym e) (omega arith)
  ]
    where
      le-suc : (k n : ℕ) → k ≤ suc n → (k ≤ n) ⊎ (k ≡ suc n)
      le-suc k n l = grind arith

  -- one part more
  pub each-one_more : (k : ℕ) → length (each_below f (k + 1)) ≡ length (each_below f k) + length (f k)
  each-one_more k = subst (λ (j : ℕ). length (each_below f j) ≡ length (each_below f k) + length (f k)) more (length-append (each_below f k) (f k))
    where
      more : suc k ≡ k + 1
      more = omega arith

  -- what stands in the list of all parts stands in one of them
  pub each-at : (d : X) (n k j : ℕ) → k < n → j < length (f k) → get_or (each_below f n) (length (each_below f k) + j) d ≡ get_or (f k) j d
  each-at d zero k j l m = absurd (omega (arith, l))
  each-at d (suc n) k j l m = elim (below-suc k n l) [
    | inl l ↦ get_or-append (each_below f n) (f n) d (length (each_below f k) + j) (inside l) ∙ each-at d n k j l m
    | inr e ↦ subst (λ (i : ℕ). get_or (each_below f n ++ f n) (length (each_below f i) + j) d ≡ get_or (f i) j d) (sym e) (get_or-append-add (each_below f n) (f n) j d)
  ]
    where
      inside : k < n → length (each_below f k) + j < length (each_below f n)
      inside l = omega (arith, m, each-one_more k, each-longer (k + 1) n (omega (arith, l)))

-- one in each part
module _ {X : Type 0} (f : ℕ → X) where
  -- as many members as parts
  pub single-length : (n : ℕ) → length (each_below (λ i. f i ∷ []) n) ≡ n
  single-length zero = refl
  single-length (suc n) = length-append (each_below (λ i. f i ∷ []) n) (f n ∷ []) ∙ omega (arith, single-length n)

  -- each at its own place
  pub single-at : (n i : ℕ) (d : X) → i < n → get_or (each_below (λ i. f i ∷ []) n) i d ≡ f i
  single-at zero i d l = absurd (omega (arith, l))
  single-at (suc n) i d l = elim (below-suc i n l) [
    | inl l ↦ get_or-append (each_below (λ i. f i ∷ []) n) (f n ∷ []) d i (omega (arith, l, single-length n)) ∙ single-at n i d l
    | inr e ↦ get_or_push (each_below (λ i. f i ∷ []) n) (f n) d i (omega (arith, e, single-length n)) ∙ ap f (sym e)
  ]

  -- and each is there
  pub single-contains : (n i : ℕ) → i < n → Contains (each_below (λ i. f i ∷ []) n) (f i)
  single-contains n i l = (i, omega (arith, l, single-length n), single-at n i (f i) l)

-- the parts are the same below n
pub each-same : {X : Type 0} (f g : ℕ → List X) (n : ℕ) → ((i : ℕ) → i < n → f i ≡ g i) → each_below f n ≡ each_below g n
each-same f g zero h = refl
each-same f g (suc n) h = ap₂ (λ xs ys. xs ++ ys) (each-same f g n (λ i l. h i (omega (arith, l)))) (h n (omega arith))

-- one list more
pub each-more : {X : Type 0} (f : ℕ → List X) (i : ℕ) → each_below f (i + 1) ≡ each_below f i ++ f i
each-more f i = ap (each_below f) more
  where
    more : i + 1 ≡ suc i
    more = omega arith
