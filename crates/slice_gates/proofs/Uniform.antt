-- The cuts of slices of one width are a grid.
use Rattle.std.proofs.Common.{◌≡◌, ℕ, zero, suc, ◌+◌, ◌-◌, ◌*◌, ◌<◌, ◌≤◌, inl, inr, ◌⊎◌, [], ◌∷◌, arith, refl, sym, ap, subst, ◌∙◌, length, length-append, slice_index}
use Rattle.std.proofs.Math.ListN.{get_or-append}
use Rattle.std.proofs.Math.Nat.{mul-le-mul_left}
use Rattle.std.proofs.lemmas.List.{get_or_push}
use Rattle.std.proofs.lemmas.Grind.{div_ceil_times}
use Rattle.std.specs.Int.{div_ceil}
use Rattle.tube_spec.specs.Grid.{IsGrid}
use Rattle.slice_gates.specs.Cuts.{multiples, uniform_cuts}
use Rattle.slice_gates.proofs.Boundaries.{IsGrid-from_cuts}

pub length-multiples : (width n : ℕ) → length (multiples width n) ≡ n
length-multiples width zero = refl
length-multiples width (suc n) = omega (arith, length-multiples width n, length-append (multiples width n) (n * width ∷ []))

last-step : (i n : ℕ) → i < suc n → (i < n) ⊎ (i ≡ n)
last-step i n h = grind arith

pub slice_index-multiples : (width n i : ℕ) → i < n → slice_index (multiples width n) i ≡ i * width
slice_index-multiples width zero i h = absurd (omega (arith, h))
slice_index-multiples width (suc n) i h = elim (last-step i n h) [
  | inl l ↦ get_or-append (multiples width n) (n * width ∷ []) 0 i (omega (arith, l, length-multiples width n)) ∙ slice_index-multiples width n i l
  | inr e ↦ get_or_push (multiples width n) (n * width) 0 i (length-multiples width n ∙ sym e) ∙ ap (λ (k : ℕ). k * width) (sym e)
]

-- the boundaries but the last, and the last
pub slice_index-uniform : (ticks width i : ℕ) → i < div_ceil ticks width → slice_index (uniform_cuts ticks width) i ≡ i * width
slice_index-uniform ticks width i h =
    get_or-append (multiples width (div_ceil ticks width)) (ticks ∷ []) 0 i (omega (arith, h, length-multiples width (div_ceil ticks width))) ∙ slice_index-multiples width (div_ceil ticks width) i h

pub slice_index-uniform_last : (ticks width : ℕ) → slice_index (uniform_cuts ticks width) (div_ceil ticks width) ≡ ticks
slice_index-uniform_last ticks width = get_or_push (multiples width (div_ceil ticks width)) ticks 0 (div_ceil ticks width) (length-multiples width (div_ceil ticks width))

pub length-uniform : (ticks width : ℕ) → length (uniform_cuts ticks width) ≡ div_ceil ticks width + 1
length-uniform ticks width = omega (arith, length-append (multiples width (div_ceil ticks width)) (ticks ∷ []), length-multiples width (div_ceil ticks width))

-- the last multiple is below ticks
below-ticks : (n ticks width i : ℕ) → n * width < ticks + width → i < n → i * width < ticks
below-ticks zero ticks width i h l = absurd (omega (arith, l))
below-ticks (suc n) ticks width i h l =
    let e : suc n * width ≡ n * width + width = omega arith in
    omega (arith, h, e, mul-le-mul_left width (le-pred i n l))
  where
    le-pred : (i n : ℕ) → i < suc n → i ≤ n
    le-pred i n l = omega (arith, l)

some-slice : (n ticks width : ℕ) → 1 ≤ ticks → ticks ≤ n * width → 1 ≤ n
some-slice zero ticks width h l = absurd (omega (arith, h, l))
some-slice (suc n) ticks width h l = omega arith

pub IsGrid-uniform : (ticks width : ℕ) → 1 ≤ ticks → ticks ≤ 100000 → 1 ≤ width → IsGrid (uniform_cuts ticks width)
IsGrid-uniform ticks width some few wide =
    at (div_ceil ticks width) refl (div_ceil_times ticks width wide)
  where
    at : (n : ℕ) → n ≡ div_ceil ticks width → (ticks ≤ n * width) × (n * width < ticks + width) → IsGrid (uniform_cuts ticks width)
    at n e bounds =
        let len : length (uniform_cuts ticks width) ≡ n + 1 = length-uniform ticks width ∙ ap (λ (k : ℕ). k + 1) (sym e) in
        let last : slice_index (uniform_cuts ticks width) n ≡ ticks = subst (λ (k : ℕ). slice_index (uniform_cuts ticks width) k ≡ ticks) (sym e) (slice_index-uniform_last ticks width) in
        let each : (i : ℕ) → i < n → slice_index (uniform_cuts ticks width) i ≡ i * width = λ i h. slice_index-uniform ticks width i (omega (arith, h, e)) in
        let positive : 1 ≤ n = some-slice n ticks width some bounds.0 in
        let end : length (uniform_cuts ticks width) - 1 ≡ n = omega (arith, len) in
        IsGrid-from_cuts (uniform_cuts ticks width) (omega (arith, len, positive)) (each 0 (omega (arith, positive)) ∙ omega arith)
        (subst (λ (k : ℕ). slice_index (uniform_cuts ticks width) k ≤ 100000) (sym end) (omega (arith, last, few)))
        (λ i h. elim (last-step (i + 1) n (omega (arith, h, len))) [
          | inl l ↦ omega (arith, each i (omega (arith, l)), each (i + 1) l, wide)
          | inr f ↦
              subst (λ (k : ℕ). slice_index (uniform_cuts ticks width) i < slice_index (uniform_cuts ticks width) k) (sym f)
              (omega (arith, each i (omega (arith, f)), last, below-ticks n ticks width i bounds.1 (omega (arith, f))))
        ])

-- the cuts of two clocks
twice_five : uniform_cuts 10 5 ≡ 0 ∷ 5 ∷ 10 ∷ []
twice_five = refl

five_and_three : uniform_cuts 8 5 ≡ 0 ∷ 5 ∷ 8 ∷ []
five_and_three = refl
