-- The label of a corner in a list of labelled corners.
use Rattle.std.proofs.Common.{◌≡◌, ℕ, zero, suc, ◌<◌, true, Some, None, List, [], ◌∷◌, map, length, get_or, Result, Ok, Err, arith, refl, sym, ap, ◌∙◌, subst}
use Rattle.std.specs.List.Sorted.{IsSearchInRange, IsBinarySearchResult}
use Rattle.std.proofs.lemmas.Bool.{false_from_ne_true}
use Rattle.std.proofs.lemmas.List.{get_or-map, length-map}
use Rattle.loop_degree.specs.declared.labels.Label.{Label}
use Rattle.loop_degree.specs.Pairs.{IsBefore, IsRising, is_same}
use Rattle.loop_degree.specs.Labels.{label_at}
use Rattle.loop_degree.specs.Boundary.{corner_of}
use Rattle.loop_degree.proofs.Sharing.{same_pair, is_same-self}
use Rattle.loop_degree.proofs.Rising.{rising-at, before-other}
use Rattle.loop_degree.proofs.Searching.{pair_cmp, searched}

-- a corner that stands nowhere has no label
label_at-none : (ls : List (ℕ × ℕ × Label)) (p : ℕ × ℕ) → ((k : ℕ) (d : ℕ × ℕ × Label) → k < length ls → corner_of (get_or ls k d) ≡ p → ⊥) → label_at ls p ≡ None
label_at-none [] p h = refl
label_at-none (l ∷ ls) p h =
    let other = false_from_ne_true (is_same (corner_of l) p) (λ e. h 0 l (omega arith) (same_pair (corner_of l) p e)) in
    rw other (label_at-none ls p (λ k d m e. h (suc k) d (omega (arith, m)) e))

-- the first place that has the corner has its label
label_at-place : (ls : List (ℕ × ℕ × Label)) (p : ℕ × ℕ) (i : ℕ) (d : ℕ × ℕ × Label) → i < length ls → ((k : ℕ) → k < i → corner_of (get_or ls k d) ≡ p → ⊥) → corner_of (get_or ls i d) ≡ p → label_at ls p ≡ Some (get_or ls i d).2
label_at-place [] p i d l h e = absurd (omega arith)
label_at-place (l ∷ ls) p zero d m h e =
    let same : is_same (corner_of l) p ≡ true = ap (is_same (corner_of l)) (sym e) ∙ is_same-self (corner_of l) in
    rw same refl
label_at-place (l ∷ ls) p (suc i) d m h e =
    let other = false_from_ne_true (is_same (corner_of l) p) (λ s. h 0 (omega arith) (same_pair (corner_of l) p s)) in
    rw other (label_at-place ls p i d (omega (arith, m)) (λ k n f. h (suc k) (omega (arith, n)) f) e)

module _ (ls : List (ℕ × ℕ × Label)) (rising : IsRising (map corner_of ls)) where
  corner-before : (i j : ℕ) (d : ℕ × ℕ × Label) → i < j → j < length ls → IsBefore (corner_of (get_or ls i d)) (corner_of (get_or ls j d))
  corner-before i j d l m =
      subst (λ (p : ℕ × ℕ). IsBefore p (corner_of (get_or ls j d))) (get_or-map corner_of ls i d (corner_of d) (omega (arith, l, m)))
      (subst (λ (p : ℕ × ℕ). IsBefore (get_or (map corner_of ls) i (corner_of d)) p) (get_or-map corner_of ls j d (corner_of d) m)
      (rising-at (map corner_of ls) rising i j (corner_of d) l (omega (arith, m, length-map ls corner_of))))

  -- what a binary search finds
  pub label_at-found : (p : ℕ × ℕ) (i : ℕ) (d : ℕ × ℕ × Label) (r : Result ℕ ℕ) → r ≡ Ok i → IsSearchInRange r (length ls) → IsBinarySearchResult (λ l. pair_cmp (corner_of l) p) ls r → Some (get_or ls i d).2 ≡ label_at ls p
  label_at-found p i d r e inside h =
      let l : i < length ls = subst (λ (s : Result ℕ ℕ). IsSearchInRange s (length ls)) e inside in
      let at = searched corner_of ls p corner-before (Ok i) (subst (IsBinarySearchResult (λ l. pair_cmp (corner_of l) p) ls) e h) in
      sym (label_at-place ls p i d l (λ k m f. before-other _ _ (corner-before k i d m l) (f ∙ sym (at d))) (at d))

  pub label_at-missed : (p : ℕ × ℕ) (i : ℕ) (r : Result ℕ ℕ) → r ≡ Err i → IsBinarySearchResult (λ l. pair_cmp (corner_of l) p) ls r → None ≡ label_at ls p
  label_at-missed p i r e h =
      sym (label_at-none ls p (searched corner_of ls p corner-before (Err i) (subst (IsBinarySearchResult (λ l. pair_cmp (corner_of l) p) ls) e h)))
