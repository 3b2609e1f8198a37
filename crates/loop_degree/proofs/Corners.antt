-- The corners of boundary edges after a sort without repeats.
use Rattle.std.proofs.Common.{◌≡◌, ℕ, zero, suc, ◌+◌, Bool, true, false, inl, inr, List, [], ◌∷◌, get_or, arith, refl, sym, ap, ◌∙◌, subst, Contains, Less}
use Rattle.std.specs.Ordering.{eq_by_cmp}
use Rattle.std.specs.Cmp.{IsTotalOrder, IsEquivalence}
use Rattle.std.specs.List.{dedup}
use Rattle.std.specs.List.Sorted.{IsStrictlySortedBy, IsSorted, IsPermutation}
use Rattle.std.specs.List.Retain.{IsFiltered, DiffersFromLast}
use Rattle.std.proofs.lemmas.Cmp.{nat_cmp_total, then_total, on_total}
use Rattle.std.proofs.lemmas.Bool.{or_cases}
use Rattle.std.proofs.lemmas.Bool.Decides.{nat_tests}
use Rattle.std.proofs.lemmas.List.Kept.{IsStrictlySortedBy-dedup, Contains-dedup, Contains-from_dedup}
use Rattle.std.proofs.lemmas.List.Filters.{dedup_is}
use Rattle.std.proofs.lemmas.List.Sorted.{list_any-IsPermutation}
use Rattle.loop_degree.specs.Pairs.{IsBefore, IsRising, has, is_same}
use Rattle.loop_degree.proofs.Sharing.{same_pair, is_same-self, is_same-sym}
use Rattle.loop_degree.proofs.Rising.{has-at}
use Rattle.loop_degree.proofs.Searching.{pair_cmp}

pair-total : IsTotalOrder pair_cmp
pair-total = then_total (on_total (λ (p : ℕ × ℕ). p.0) nat_cmp_total) (on_total (λ (p : ℕ × ℕ). p.1) nat_cmp_total)

less-before : (p q : ℕ × ℕ) → pair_cmp p q ≡ Less → IsBefore p q
less-before p q h = grind (arith, nat_tests)

same-ties : (p q : ℕ × ℕ) → is_same p q ≡ eq_by_cmp pair_cmp p q
same-ties p q = grind (arith, nat_tests)

same-laws : IsEquivalence is_same
same-laws = record { refl = is_same-self; symm = is_same-sym; congr = λ x y z e. ap (λ (p : ℕ × ℕ). is_same p z) (same_pair x y e) }

strictly-rising : (ps : List (ℕ × ℕ)) → IsStrictlySortedBy pair_cmp ps → IsRising ps
unfolding IsStrictlySortedBy
strictly-rising [] h k d l = absurd (omega arith)
strictly-rising (p ∷ []) h k d l = absurd (omega arith)
strictly-rising (p ∷ q ∷ ps) h zero d l = less-before p q h.0.0
strictly-rising (p ∷ q ∷ ps) h (suc k) d l = let e : suc k + 1 ≡ suc (k + 1) = omega arith in subst (λ (n : ℕ). IsBefore (get_or (q ∷ ps) k d) (get_or (p ∷ q ∷ ps) n d)) (sym e) (strictly-rising (q ∷ ps) h.1 k d (omega (arith, l)))

has-contains : (ps : List (ℕ × ℕ)) (p : ℕ × ℕ) → has ps p ≡ true → Contains ps p
has-contains [] p h = absurd (cc)
has-contains (q ∷ ps) p h =
    elim (or_cases _ _ h) [
      | inl e ↦ (0, omega arith, same_pair q p e)
      | inr t ↦ let r = has-contains ps p t in (suc r.0, omega (arith, r.1), r.2)
    ]

contains-has : (ps : List (ℕ × ℕ)) (p : ℕ × ℕ) → Contains ps p → has ps p ≡ true
contains-has ps p h = has-at ps h.0 p p h.1 h.2

same-test : (a b : Bool) → (a ≡ true → b ≡ true) → (b ≡ true → a ≡ true) → a ≡ b
same-test true true f g = refl
same-test false false f g = refl
same-test true false f g = sym (f refl)
same-test false true f g = g refl

pub sorted-rising : (xs ys : List (ℕ × ℕ)) → IsSorted pair_cmp xs → IsFiltered (DiffersFromLast is_same) [] xs ys → IsRising ys
sorted-rising xs ys h f = subst IsRising (sym (dedup_is is_same xs ys f)) (strictly-rising (dedup is_same xs) (IsStrictlySortedBy-dedup pair-total same-ties xs h))

pub sorted-has : (es xs ys : List (ℕ × ℕ)) → IsPermutation es xs → IsFiltered (DiffersFromLast is_same) [] xs ys → (p : ℕ × ℕ) → has ys p ≡ has es p
sorted-has es xs ys h f p =
    ap (λ (ps : List (ℕ × ℕ)). has ps p) (dedup_is is_same xs ys f)
    ∙ same-test _ _ (λ t. contains-has xs p (Contains-from_dedup is_same xs p (has-contains (dedup is_same xs) p t)))
    (λ t. contains-has (dedup is_same xs) p (Contains-dedup same-laws same_pair xs p (has-contains xs p t)))
    ∙ sym (list_any-IsPermutation (λ c. is_same c p) es xs h)
