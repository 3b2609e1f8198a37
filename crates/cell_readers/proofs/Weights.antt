-- Weighted widths: what a write does to them, and how they fall.
use Rattle.std.proofs.Common.{◌≡◌, ℕ, zero, suc, ◌+◌, ◌-◌, ◌*◌, ◌<◌, ◌≤◌, inl, inr, ◌≢◌, Bool, false, Option, Some, None, List, [], ◌∷◌, pos, arith, refl, sym, ap, subst, ◌∙◌, length, set, sum_by, Contains, nat_eq, length-set, true, ◌||◌}
use Rattle.std.proofs.Math.Nat.{mul-le-mul_right, add-mul}
use Rattle.std.proofs.lemmas.Bool.{cases_lt}
use Rattle.std.proofs.lemmas.List.{get_or_past}
use Rattle.std.proofs.lemmas.List.Sums.{sum_by-cons}
use Rattle.std.proofs.lemmas.Map.Keys.{IsDistinct-head, IsDistinct-tail}
use Rattle.std.specs.Cmp.{nat_eq_equiv}
use Rattle.std.proofs.lemmas.Map.Views.{list_any-from_Contains}
use Rattle.std.specs.List.{IsDistinct, AllByRecursion, list_any}
use Rattle.tube_spec.specs.Span.{Span, IsWithin, point, width_of}
use Rattle.tube_spec.specs.Box.{cell_at, IsBelow, IsBelowBox}
use Rattle.tube_spec.proofs.Boxes.{cell-set}
use Rattle.tube_spec.proofs.Spans.{IsWithin-refl}
use Rattle.tube_spec.proofs.Widths.{width-le}
use Rattle.ctc_core.specs.Revising.{IsNarrower}
use Rattle.cell_readers.specs.Costs.{weighted, weighted_box, lost_widths, lost_cost}

-- sums of products, with each product as a variable
swap-heads : (a b w : ℕ) → (b + w) + a ≡ (a + w) + b
swap-heads a b w = omega arith

-- what a write does
pub weighted-set : (r : ℕ → ℕ) (xs : List Span) (c : ℕ) (t : Span) → c < length xs
    → weighted r (set xs c t) + width_of (cell_at xs c) * (1 + r c) ≡ weighted r xs + width_of t * (1 + r c)
weighted-set r [] c t l = absurd (omega arith)
weighted-set r (x ∷ xs) zero t l = swap-heads (width_of x * (1 + r 0)) (width_of t * (1 + r 0)) (weighted (λ k. r (suc k)) xs)
weighted-set r (x ∷ xs) (suc c) t l =
    push (width_of x * (1 + r 0)) (weighted (λ k. r (suc k)) (set xs c t)) (width_of (cell_at xs c) * (1 + r (suc c))) (weighted (λ k. r (suc k)) xs) (width_of t * (1 + r (suc c)))
    (weighted-set (λ k. r (suc k)) xs c t (omega (arith, l)))
  where
    push : (h a b c d : ℕ) → a + b ≡ c + d → (h + a) + b ≡ (h + c) + d
    push h a b c d e = omega arith

tail-below : (x y : Span) (xs ys : List Span) → IsBelow (x ∷ xs) (y ∷ ys) → IsBelow xs ys
tail-below x y xs ys h = record { len = omega (arith, h.len); each = λ k. h.each (suc k) }

-- a lesser box weighs no more
pub weighted-le : (r : ℕ → ℕ) (ys xs : List Span) → IsBelow ys xs → weighted r ys ≤ weighted r xs
weighted-le r [] [] h = omega arith
weighted-le r [] (x ∷ xs) h = absurd (omega (arith, h.len))
weighted-le r (y ∷ ys) [] h = absurd (omega (arith, h.len))
weighted-le r (y ∷ ys) (x ∷ xs) h =
    both (width_of y * (1 + r 0)) (width_of x * (1 + r 0)) (weighted (λ k. r (suc k)) ys) (weighted (λ k. r (suc k)) xs)
    (mul-le-mul_right (1 + r 0) (width-le y x (h.each 0))) (weighted-le (λ k. r (suc k)) ys xs (tail-below y x ys xs h))
  where
    both : (a b c d : ℕ) → a ≤ b → c ≤ d → a + c ≤ b + d
    both a b c d p q = omega arith

-- what was lost and what is left are the whole
pub lost-left : (r : ℕ → ℕ) (ys xs : List Span) → IsBelow ys xs → weighted r ys + lost_widths r xs ys ≡ weighted r xs
lost-left r [] [] h = refl
lost-left r [] (x ∷ xs) h = absurd (omega (arith, h.len))
lost-left r (y ∷ ys) [] h = absurd (omega (arith, h.len))
lost-left r (y ∷ ys) (x ∷ xs) h =
    sums (width_of y * (1 + r 0)) ((width_of x - width_of y) * (1 + r 0)) (width_of x * (1 + r 0)) (weighted (λ k. r (suc k)) ys) (lost_widths (λ k. r (suc k)) xs ys) (weighted (λ k. r (suc k)) xs)
    (parts (width_of y) (width_of x) (1 + r 0) (width-le y x (h.each 0))) (lost-left (λ k. r (suc k)) ys xs (tail-below y x ys xs h))
  where
    parts : (a b n : ℕ) → a ≤ b → a * n + (b - a) * n ≡ b * n
    parts a b n l = let e : a + (b - a) ≡ b = omega (arith, l) in sym (add-mul a (b - a) n) ∙ ap (λ m. m * n) e

    sums : (a b c u v w : ℕ) → a + b ≡ c → u + v ≡ w → (a + u) + (b + v) ≡ c + w
    sums a b c u v w p q = omega arith

pub lost-left_box : (r : ℕ → ℕ) (new old : Option (List Span)) → IsBelowBox new old → weighted_box r new + lost_cost r old new ≡ weighted_box r old
lost-left_box r None None h = refl
lost-left_box r None (Some xs) h = omega arith
lost-left_box r (Some ys) None h = absurd h
lost-left_box r (Some ys) (Some xs) h = lost-left r ys xs h

-- a narrower cell is among the cells
pub narrower-among : (xs ys : List Span) (k : ℕ) → IsBelow ys xs → IsNarrower xs ys k → k < length ys
narrower-among xs ys k low n = elim (cases_lt k (length ys)) [
  | inl l ↦ l
  | inr l ↦ absurd (omega (arith, n, ap width_of (get_or_past ys k (point (pos 0)) l), ap width_of (get_or_past xs k (point (pos 0)) (omega (arith, l, low.len)))))
]

-- one cell as it was before leaves the box below
back-below : (ys xs : List Span) (c : ℕ) → c < length ys → IsBelow ys xs → IsBelow (set ys c (cell_at xs c)) xs
back-below ys xs c l low = record {
  len = simp length-set low.len;
  each = λ j. elim (cell-set ys c j (cell_at xs c) l) [
    | inl e ↦ subst (λ (s : Span). IsWithin s (cell_at xs j)) (sym e.1) (subst (λ (i : ℕ). IsWithin (cell_at xs c) (cell_at xs i)) (sym e.0) (IsWithin-refl (cell_at xs c)))
    | inr e ↦ subst (λ (s : Span). IsWithin s (cell_at xs j)) (sym e.1) (low.each j)
  ];
}

alone : (c : ℕ) (xs : List ℕ) → AllByRecursion (λ y. nat_eq c y ≡ false) xs → list_any (nat_eq c) xs ≡ false
alone c [] h = refl
alone c (x ∷ xs) h = ap (λ (b : Bool). b || list_any (nat_eq c) xs) h.0 ∙ alone c xs h.1

-- Where the cells of a list are narrower, each once, the weight falls by at least one more than the readers of each.
pub weighted-falls : (r : ℕ → ℕ) (xs ys : List Span) (cells : List ℕ) → IsBelow ys xs → IsDistinct nat_eq cells → ((k : ℕ) → Contains cells k → IsNarrower xs ys k)
    → weighted r ys + sum_by (λ k. 1 + r k) cells ≤ weighted r xs
weighted-falls r xs ys [] low once narrower = omega (arith, weighted-le r ys xs low)
weighted-falls r xs ys (c ∷ cells) low once narrower =
    fall (weighted r ys) (weighted r back) (width_of (cell_at ys c) * (1 + r c)) (width_of (cell_at xs c) * (1 + r c)) (1 + r c) (sum_by (λ k. 1 + r k) cells) (sum_by (λ k. 1 + r k) (c ∷ cells)) (weighted r xs)
    (weighted-set r ys c (cell_at xs c) inside) (one-more (width_of (cell_at ys c)) (width_of (cell_at xs c)) (1 + r c) here) (sum_by-cons (λ k. 1 + r k) c cells)
    (weighted-falls r xs back cells (back-below ys xs c inside low) (IsDistinct-tail nat_eq c cells once) rest)
  where
    here : IsNarrower xs ys c
    here = narrower c (0, omega arith, refl)

    inside : c < length ys
    inside = narrower-among xs ys c low here

    back : List Span
    back = set ys c (cell_at xs c)

    one-more : (a b n : ℕ) → a < b → a * n + n ≤ b * n
    one-more a b n l = let h : (a + 1) * n ≤ b * n = mul-le-mul_right n (omega (arith, l)) in omega (arith, h, add-mul a 1 n)

    fall : (y b p q n s t x : ℕ) → b + p ≡ y + q → p + n ≤ q → t ≡ n + s → b + s ≤ x → y + t ≤ x
    fall y b p q n s t x e f g h = omega arith

    apart : (k : ℕ) → Contains cells k → k ≢ c
    apart k m e =
        let found : list_any (nat_eq c) cells ≡ true = list_any-from_Contains nat_eq_equiv c cells (subst (λ (j : ℕ). Contains cells j) e m) in
        let none = alone c cells (IsDistinct-head nat_eq c cells once) in
        absurd (cc)

    rest : (k : ℕ) → Contains cells k → IsNarrower xs back k
    rest k m = elim (cell-set ys c k (cell_at xs c) inside) [
      | inl e ↦ absurd (apart k m e.0)
      | inr e ↦ omega (arith, narrower k (suc m.0, omega (arith, m.1), m.2), ap width_of e.1)
    ]
