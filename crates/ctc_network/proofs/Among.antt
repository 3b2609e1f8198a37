-- A cell is sought among cells that rise.
use Rattle.std.proofs.Common.{◌≡◌, ◌≢◌, ℕ, zero, suc, ◌+◌, ◌-◌, ◌<◌, ◌≤◌, ◌⊎◌, inl, inr, List, arith, ap, ◌∙◌, length, map, get_or, All, Contains}
use Rattle.std.specs.List.Sorted.{IsStrictlyIncreasing}
use Rattle.std.proofs.lemmas.Bool.{cases_lt}
use Rattle.std.proofs.lemmas.List.{get_or-map, length-map, get_or_default}
use Rattle.slice_gates.proofs.Boundaries.{rising-lt}
use Rattle.tube_spec.specs.Span.{Span}
use Rattle.tube_store.specs.declared.CellId.{CellId}
use Rattle.tube_store.specs.Resets.{cell_in}

-- Where a number is among those that rise, it stands from the first place on and before the end.
pub record IsSought (ns : List ℕ) (n first end : ℕ) : Type 0 where
  pub order : first ≤ end
  pub within : end ≤ length ns
  pub there : (j : ℕ) → j < length ns → get_or ns j 0 ≡ n → (first ≤ j) × (j < end)

-- a cell is read from its place
pub read-cell : (cells : List (CellId × Span)) (k : ℕ) (r : CellId × Span) → k < length (map cell_in cells) → get_or (map cell_in cells) k 0 ≡ cell_in (get_or cells k r)
read-cell cells k r l = get_or-map cell_in cells k r 0 (omega (arith, l, length-map cells cell_in))

pub among-at : (ns : List ℕ) (n k : ℕ) → k < length ns → get_or ns k 0 ≡ n → Contains ns n
among-at ns n k l e = (k, l, get_or_default ns k n 0 l ∙ e)

-- past a lesser one
pub sought-after : (ns : List ℕ) (n first end k : ℕ) → IsStrictlyIncreasing ns → IsSought ns n first end → k < end → get_or ns k 0 < n → IsSought ns n (k + 1) end
sought-after ns n first end k rise h below less = record {
  order = omega (arith, below);
  within = h.within;
  there = λ j l e. elim (cases_lt k j) [
    | inl after ↦ (omega (arith, after), (h.there j l e).1)
    | inr before ↦ absurd (not-before j l e before (cases_lt j k))
  ];
}
  where
    not-before : (j : ℕ) → j < length ns → get_or ns j 0 ≡ n → j ≤ k → (j < k) ⊎ (k ≤ j) → ⊥
    not-before j l e b (inl s) = omega (arith, less, e, rising-lt ns rise j k s (omega (arith, below, h.within)))
    not-before j l e b (inr s) = omega (arith, less, e, ap (λ (i : ℕ). get_or ns i 0) (same j k b s))
      where
        same : (a c : ℕ) → a ≤ c → c ≤ a → a ≡ c
        same a c p q = omega (arith, p, q)

-- before a greater one
pub sought-before : (ns : List ℕ) (n first end k : ℕ) → IsStrictlyIncreasing ns → IsSought ns n first end → first ≤ k → k < end → n ≤ get_or ns k 0 → get_or ns k 0 ≢ n → IsSought ns n first k
sought-before ns n first end k rise h above below more other = record {
  order = above;
  within = omega (arith, below, h.within);
  there = λ j l e. ((h.there j l e).0, elim (cases_lt j k) [ inl s ↦ s | inr s ↦ absurd (not-after j l e s (cases_lt k j)) ]);
}
  where
    same : (a c : ℕ) → a ≤ c → c ≤ a → a ≡ c
    same a c p q = omega (arith, p, q)

    not-after : (j : ℕ) → j < length ns → get_or ns j 0 ≡ n → k ≤ j → (k < j) ⊎ (j ≤ k) → ⊥
    not-after j l e b (inl s) = omega (arith, more, e, rising-lt ns rise k j s l)
    not-after j l e b (inr s) = other (ap (λ (i : ℕ). get_or ns i 0) (same k j b s) ∙ e)

-- no place is left
pub sought-none : (ns : List ℕ) (n first end : ℕ) → IsSought ns n first end → end ≤ first → Contains ns n → ⊥
sought-none ns n first end h none c = let at = h.there c.0 c.1 (get_or_default ns c.0 0 n c.1 ∙ c.2) in omega (arith, at.0, at.1, none)

pub sought-first : (ns : List ℕ) (n : ℕ) → IsSought ns n 0 (length ns)
sought-first ns n = record { order = omega arith; within = omega arith; there = λ j l e. (omega arith, l) }

-- ---- all cells

-- As many numbers as there are below a bound, which rise, are all of them.
pub all-named : (ns : List ℕ) (n : ℕ) → IsStrictlyIncreasing ns → All (λ k. k < n) ns → length ns ≡ n → (k : ℕ) → k < n → Contains ns k
all-named ns n rise below len k l = among-at ns k k (omega (arith, l, len)) (omega (arith, low k (omega (arith, l, len)), high (n - 1 - k) k (omega (arith, l, len))))
  where
    low : (i : ℕ) → i < length ns → i ≤ get_or ns i 0
    low zero l = omega arith
    low (suc i) l = omega (arith, low i (omega (arith, l)), rising-lt ns rise i (suc i) (omega arith) l)

    high : (j i : ℕ) → i + j + 1 ≡ length ns → get_or ns i 0 + j < n
    high zero i e = omega (arith, below i 0 (omega (arith, e)))
    high (suc j) i e = omega (arith, high j (suc i) (omega (arith, e)), rising-lt ns rise i (suc i) (omega arith) (omega (arith, e)))
