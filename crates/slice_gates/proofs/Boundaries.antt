-- Boundaries that rise.
use Rattle.std.proofs.Common.{◌≡◌, ℕ, zero, suc, ◌+◌, ◌-◌, ◌<◌, ◌≤◌, ◌⊎◌, inl, inr, List, arith, refl, sym, subst, length, slice_index, Bool, true, false, nat_lt, IsTrue, IsFalse, take, get_or, leb, Err, ap, ◌∙◌}
use Rattle.tube_spec.specs.Grid.{IsGrid, last_tick}
use Rattle.std.specs.List.{IsAllAdjacentAnswer}
use Rattle.std.specs.List.Sorted.{IsStrictlyIncreasing, IsNonDecreasing, IsPartitionPoint, IsBinarySearchResult}
use Rattle.std.specs.Ordering.{nat_cmp}
use Rattle.std.proofs.lemmas.List.Sorted.{searched, IsNonDecreasingBy-take, IsNonDecreasingBy-from_default}
use Rattle.std.proofs.lemmas.List.{get_or-take, length-take-le}
use Rattle.std.proofs.lemmas.Bool.{cases_lt, leb-true, leb-false}
use Rattle.std.proofs.lemmas.Bool.Decides.{nat_tests}
use Rattle.slice_gates.specs.Cuts.{HasFall}
use Rattle.slice_gates.specs.Ticks.{IsSliceOf}

last-step : (i j : ℕ) → i ≤ suc j → (i ≤ j) ⊎ (i ≡ suc j)
last-step i j h = grind arith

-- an earlier boundary is no higher
pub rising-le : (grid : List ℕ) → ((i : ℕ) → i + 1 < length grid → slice_index grid i < slice_index grid (i + 1)) → (i j : ℕ) → i ≤ j → j < length grid → slice_index grid i ≤ slice_index grid j
rising-le grid rising i zero h l = let e : i ≡ 0 = omega arith in subst (λ (k : ℕ). slice_index grid k ≤ slice_index grid 0) (sym e) (omega arith)
rising-le grid rising i (suc j) h l = elim (last-step i j h) [
  | inl p ↦
      let n : j + 1 ≡ suc j = omega arith in
      let step : slice_index grid j < slice_index grid (suc j) = subst (λ (k : ℕ). slice_index grid j < slice_index grid k) n (rising j (omega (arith, l))) in
      omega (arith, rising-le grid rising i j p (omega (arith, l)), step)
  | inr e ↦ subst (λ (k : ℕ). slice_index grid k ≤ slice_index grid (suc j)) (sym e) (omega arith)
]

-- an earlier boundary is lower
pub rising-lt : (grid : List ℕ) → ((i : ℕ) → i + 1 < length grid → slice_index grid i < slice_index grid (i + 1)) → (i j : ℕ) → i < j → j < length grid → slice_index grid i < slice_index grid j
rising-lt grid rising i j h l = omega (arith, rising i (omega (arith, h, l)), rising-le grid rising (i + 1) j (omega (arith, h)) l)

-- boundaries are whole ticks, so each is as high as its number at least
pub rising-spread : (grid : List ℕ) → ((i : ℕ) → i + 1 < length grid → slice_index grid i < slice_index grid (i + 1)) → (i : ℕ) → i < length grid → i ≤ slice_index grid i
rising-spread grid rising zero l = omega arith
rising-spread grid rising (suc i) l =
    let n : i + 1 ≡ suc i = omega arith in
    let step : slice_index grid i < slice_index grid (suc i) = subst (λ (k : ℕ). slice_index grid i < slice_index grid k) n (rising i (omega (arith, l))) in
    omega (arith, rising-spread grid rising i (omega (arith, l)), step)

-- a list of cuts with good ends that rises is a grid
pub IsGrid-from_cuts : (cuts : List ℕ) → 2 ≤ length cuts → slice_index cuts 0 ≡ 0 → last_tick cuts ≤ 100000 → ((i : ℕ) → i + 1 < length cuts → slice_index cuts i < slice_index cuts (i + 1)) → IsGrid cuts
IsGrid-from_cuts cuts enough starts ends rising = record {
  slices = enough;
  short = omega (arith, enough, ends, rising-spread cuts rising (length cuts - 1) (omega (arith, enough)));
  starts = starts;
  rising = rising;
  ends = ends;
}

-- what a test of neighbours answers
pub rising-answer : (cuts : List ℕ) (r : Bool) → IsAllAdjacentAnswer (λ x y b. b ≡ nat_lt x y) cuts r → IsTrue r → IsStrictlyIncreasing cuts
rising-answer cuts true h t k l = grind (arith, nat_tests, h k 0 l)
rising-answer cuts false h t k l = absurd (cc)

pub fall-answer : (cuts : List ℕ) (r : Bool) → IsAllAdjacentAnswer (λ x y b. b ≡ nat_lt x y) cuts r → IsFalse r → HasFall cuts
fall-answer cuts true h t = absurd (cc)
fall-answer cuts false h t = (h.0, h.1, grind (arith, nat_tests, h.2 0))

-- a search for a tick among the boundaries that found no place
pub not-found : (grid : List ℕ) (tick i : ℕ) → IsGrid grid → IsBinarySearchResult (λ y. nat_cmp y tick) grid (Err i) → (j : ℕ) → j < length grid → slice_index grid j ≡ tick → ⊥
not-found grid tick i is found j l e =
    let parts = searched grid tick (Err i) found (λ a b h k. rising-le grid is.rising a b h k) in
    elim (cases_lt j i) [
      | inl h ↦ omega (arith, e, parts.1 j h)
      | inr h ↦ omega (arith, e, parts.2 j h l)
    ]

-- the slices that begin at a tick or before it, of which the first begins at tick 0
pub slice-found : (grid starts : List ℕ) (tick n : ℕ) → IsGrid grid → starts ≡ take (length grid - 1) grid → n ≤ length starts → IsPartitionPoint (λ y. leb y tick ≡ true) (λ y. leb y tick ≡ false) starts n → (1 ≤ n) × IsSliceOf grid tick (n - 1)
slice-found grid starts tick n is e within point =
    let len : length starts ≡ length grid - 1 = ap length e ∙ length-take-le (length grid - 1) grid (omega arith) in
    let at : (k : ℕ) → k + 1 < length grid → get_or starts k 0 ≡ slice_index grid k = λ k h. ap (λ (l : List ℕ). get_or l k 0) e ∙ get_or-take (length grid - 1) grid k 0 (omega (arith, h)) in
    let begun : 1 ≤ n = some n (λ z. let late : leb (get_or starts 0 0) tick ≡ false = point.1 0 0 (omega (arith, z)) (omega (arith, len, is.slices)) in omega (arith, leb-false _ tick late, at 0 (omega (arith, is.slices)), is.starts)) in (
      begun,
      record {
        among = omega (arith, len, within, begun);
        begins = omega (arith, at (n - 1) (omega (arith, len, within, begun)), leb-true _ tick (point.0 (n - 1) 0 (omega arith) (omega (arith, begun))));
        greatest = λ j h l. elim (cases_lt j n) [
          | inl b ↦ omega (arith, b)
          | inr b ↦ let late : leb (get_or starts j 0) tick ≡ false = point.1 j 0 b (omega (arith, len, h)) in absurd (omega (arith, leb-false _ tick late, at j h, l))
        ];
      },
    )
  where
    some : (n : ℕ) → (n ≡ 0 → ⊥) → 1 ≤ n
    some zero h = absurd (h refl)
    some (suc n) h = omega arith

-- the boundaries but the last rise
pub starts-rise : (grid starts : List ℕ) → IsGrid grid → starts ≡ take (length grid - 1) grid → IsNonDecreasing starts
starts-rise grid starts is e =
    subst IsNonDecreasing (sym e)
    (IsNonDecreasingBy-take (λ (x : ℕ). x) (length grid - 1) grid (IsNonDecreasingBy-from_default (λ (x : ℕ). x) grid 0 (λ i j h l. rising-le grid is.rising i j h l)))
