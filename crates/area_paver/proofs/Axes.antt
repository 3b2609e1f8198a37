-- How many multiples of a step a window has.
use Rattle.std.proofs.Common.{◌≡◌, ◌↔◌, ◌⊎◌, inl, inr, ℕ, zero, suc, ◌+◌, ◌*◌, ◌-◌, ◌/◌, ◌%◌, ◌^◌, ◌<◌, ◌≤◌, ℤ, pos, negsuc, ◌+ℤ◌, ◌-ℤ◌, ◌*ℤ◌, neg_ℤ, ◌≤ℤ◌, ◌<ℤ◌, arith, refl, ap, sym, subst, ◌∙◌}
use Rattle.std.specs.Int.{int_div_euclid, int_rem_euclid}
use Rattle.std.proofs.lemmas.Int.{ints, clamps}
use Rattle.std.proofs.Math.IntN.{*ℤ_comm, zero-*ℤ, +ℤ_one, suc_ℤ-*ℤ}
use Rattle.std.proofs.Math.Nat.{mul-le-mul_left}
use borrow.Author.Differences.{product_is}
use Rattle.tube_spec.specs.Span.{Span, Holds, natural, point, IsBounded}
use Rattle.int_interval.proofs.Division.{at-most-positive}
use Rattle.int_interval.proofs.Products.{product-mono, neg-product}
use Rattle.area_paver.specs.Lattice.{multiple_from, count_to, axis_of, coordinate, IsAxis}
use Rattle.area_paver.specs.declared.axis.Axis.{Axis}

-- a number is below the natural part of another
natural-above : (z : ℤ) (k : ℕ) → (k < natural z) ↔ ((pos k +ℤ pos 1) ≤ℤ z)
natural-above (pos n) k = (λ h. omega (arith, ints, h), λ h. omega (arith, ints, h))
natural-above (negsuc n) k = (λ h. absurd (omega (arith, h)), λ h. absurd (omega (arith, ints, h)))

-- which multiples are not above a number
pub count-points : (first step high : ℤ) → pos 1 ≤ℤ step → (k : ℕ) → (k < count_to first step high) ↔ ((first +ℤ (pos k *ℤ step)) ≤ℤ high)
count-points first step high h k =
    let q = int_div_euclid (high -ℤ first) step in
    let solved = at-most-positive (high -ℤ first) (pos k) step q (omega (arith, ints, h)) refl in
    let above = natural-above (q +ℤ pos 1) k in (
      λ l. let g = above.0 l in let f = solved.1 (omega (arith, ints, g)) in omega (arith, ints, f),
      λ l. let g = solved.0 (omega (arith, ints, l)) in above.1 (omega (arith, ints, g)),
    )

one-more : (q k : ℤ) → (q +ℤ pos 1) *ℤ k ≡ (q *ℤ k) +ℤ k
one-more q k = ap (λ x. x *ℤ k) (+ℤ_one q) ∙ suc_ℤ-*ℤ q k

-- a quotient times the divisor, and the remainder
divided-up : (m : ℤ) (k : ℕ) → (int_div_euclid m (pos (suc k)) *ℤ pos (suc k)) +ℤ int_rem_euclid m (pos (suc k)) ≡ m
divided-up (pos a) k = omega (arith, ints, product_is)
divided-up (negsuc a) k = omega (arith, ints, product_is)

divided : (m step : ℤ) → pos 1 ≤ℤ step → (int_div_euclid m step *ℤ step) +ℤ int_rem_euclid m step ≡ m
divided m (pos zero) h = absurd (omega (arith, ints, h))
divided m (pos (suc k)) h = divided-up m k
divided m (negsuc k) h = absurd (omega (arith, ints, h))

remainder-up : (m : ℤ) (k : ℕ) → (pos 0 ≤ℤ int_rem_euclid m (pos (suc k))) × (int_rem_euclid m (pos (suc k)) <ℤ pos (suc k))
remainder-up (pos a) k = (omega (arith, ints), omega (arith, ints))
remainder-up (negsuc a) k = (omega (arith, ints), omega (arith, ints))

remainder : (m step : ℤ) → pos 1 ≤ℤ step → (pos 0 ≤ℤ int_rem_euclid m step) × (int_rem_euclid m step <ℤ step)
remainder m (pos zero) h = absurd (omega (arith, ints, h))
remainder m (pos (suc k)) h = remainder-up m k
remainder m (negsuc k) h = absurd (omega (arith, ints, h))

-- the least multiple from a number on
pub multiple-near : (step low : ℤ) → pos 1 ≤ℤ step → (low ≤ℤ multiple_from step low) × (multiple_from step low <ℤ (low +ℤ step))
multiple-near step low h =
    let r = remainder (neg_ℤ low) step h in
    (omega (arith, ints, r.0), omega (arith, ints, r.1))

multiple-is : (step low : ℤ) → pos 1 ≤ℤ step → multiple_from step low ≡ neg_ℤ (int_div_euclid (neg_ℤ low) step) *ℤ step
multiple-is step low h =
    let e = divided (neg_ℤ low) step h in
    let f = neg-product (int_div_euclid (neg_ℤ low) step) step in
    omega (arith, ints, e, f)

-- a number of steps is no more than the way that they make
pub steps-long : (step : ℤ) (k : ℕ) → pos 1 ≤ℤ step → pos k ≤ℤ (pos k *ℤ step)
steps-long step k h =
    let e = product-mono (pos k) (pos 1) step (omega (arith, ints)) h in
    let f : pos k *ℤ pos 1 ≡ pos k = omega (arith, ints, product_is) in
    omega (arith, ints, e, f)

pub steps-small : (a : Axis) (k : ℕ) → IsAxis a → k < a.count → (pos k ≤ℤ (pos k *ℤ a.step)) × ((pos k *ℤ a.step) ≤ℤ pos 5000000000)
steps-small a k h l =
    let e = h.within k l in
    (steps-long a.step k h.step, omega (arith, ints, e, h.low))

pub axis-small : (step : ℤ) (window : Span) → IsBounded 2500000000 window → window.lo ≤ℤ window.hi → pos 1 ≤ℤ step → step ≤ℤ pos 1000000000 → IsAxis (axis_of step window)
axis-small step window h proper low wide =
    let near = multiple-near step window.lo low in
    let way = count-points (multiple_from step window.lo) step window.hi low in
    let from : neg_ℤ (pos 2500000000) ≤ℤ window.lo = h.low in
    let to : window.hi ≤ℤ pos 2500000000 = h.high in
    record {
      step = low;
      wide = wide;
      low = omega (arith, ints, near.0, from);
      high = omega (arith, ints, near.1, to, proper, wide);
      within = λ k l. let e = (way k).0 l in omega (arith, ints, e, to);
    }

-- a window with a number has a multiple of 1
pub axis-dense : (a : Axis) (step : ℤ) (window : Span) → a ≡ axis_of step window → window.lo ≤ℤ window.hi → step ≡ pos 1 → 1 ≤ a.count
axis-dense a step window is h e =
    let near = multiple-near step window.lo (omega (arith, ints, e)) in
    let f = zero-*ℤ step in
    let g = (count-points (multiple_from step window.lo) step window.hi (omega (arith, ints, e)) 0).1 (omega (arith, ints, near.1, e, f, h)) in
    subst (λ (b : Axis). 1 ≤ b.count) (sym is) (omega (arith, g))

pub same-axis : (a b : Axis) → a.first ≡ b.first → a.step ≡ b.step → a.count ≡ b.count → a ≡ b
same-axis a b p q r =
    ap (λ (f : ℤ). let x : Axis = record { first = f; step = a.step; count = a.count } in x) p
    ∙ ap (λ (s : ℤ). let x : Axis = record { first = b.first; step = s; count = a.count } in x) q
    ∙ ap (λ (n : ℕ). let x : Axis = record { first = b.first; step = b.step; count = n } in x) r

order-nat : (x y : ℕ) → (x < y) ⊎ (y ≤ x)
order-nat x y = grind arith

order : (x y : ℤ) → (x ≤ℤ y) ⊎ ((y +ℤ pos 1) ≤ℤ x)
order x y = grind (arith, ints)

-- where few points have a second axis, there are few numbers on the first
pub axis-narrow : (a b : Axis) → IsAxis a → a.count * b.count ≤ 4000000 → (a.step ≡ pos 1 → 1 ≤ b.count) → a.count < 2 ^ 32
axis-narrow a b h few dense =
    elim (order a.step (pos 1)) [
      | inl one ↦
          let some : 1 ≤ b.count = dense (omega (arith, ints, one, h.step)) in
          let e = mul-le-mul_left a.count some in
          omega (arith, e, few)
      | inr two ↦
          elim (order-nat a.count (2 ^ 32)) [
            | inl l ↦ l
            | inr g ↦
                let k : ℕ = 4000000000 in
                let far = h.within 4000000000 (omega (arith, g)) in
                let long = product-mono (pos 4000000000) (pos 2) a.step (omega (arith, ints)) (omega (arith, ints, two)) in
                let way : pos 4000000000 *ℤ pos 2 ≡ pos 8000000000 = refl in
                absurd (omega (arith, ints, far, long, way, h.low))
          ]
    ]

-- so many steps on from a multiple
steps-on : (n step : ℤ) (k : ℕ) → (n +ℤ pos k) *ℤ step ≡ (n *ℤ step) +ℤ (pos k *ℤ step)
steps-on n step zero = let e : n +ℤ pos 0 ≡ n = omega (arith, ints) in let z = zero-*ℤ step in ap (λ x. x *ℤ step) e ∙ omega (arith, ints, z)
steps-on n step (suc k) =
    let e : n +ℤ pos (suc k) ≡ (n +ℤ pos k) +ℤ pos 1 = omega (arith, ints) in
    let f : pos (suc k) ≡ pos k +ℤ pos 1 = omega (arith, ints) in
    let d : pos (suc k) *ℤ step ≡ (pos k *ℤ step) +ℤ step = ap (λ x. x *ℤ step) f ∙ one-more (pos k) step in
    let r = steps-on n step k in
    ap (λ x. x *ℤ step) e ∙ one-more (n +ℤ pos k) step ∙ omega (arith, ints, r, d)

-- how far a number lies above another one
beyond : (n m : ℤ) → n ≤ℤ m → (k : ℕ) × (m ≡ n +ℤ pos k)
beyond n m h = (natural (m -ℤ n), gap (m -ℤ n) (omega (arith, ints)) (omega (arith, ints, h)))
  where
    gap : (d : ℤ) → m ≡ n +ℤ d → pos 0 ≤ℤ d → m ≡ n +ℤ pos (natural d)
    gap (pos k) e l = e
    gap (negsuc k) e l = absurd (omega (arith, ints, l))

-- the multiple that stands so many numbers on
multiple-at : (step low : ℤ) (k : ℕ) → pos 1 ≤ℤ step → multiple_from step low +ℤ (pos k *ℤ step) ≡ (neg_ℤ (int_div_euclid (neg_ℤ low) step) +ℤ pos k) *ℤ step
multiple-at step low k h =
    ap (λ x. x +ℤ (pos k *ℤ step)) (multiple-is step low h) ∙ sym (steps-on (neg_ℤ (int_div_euclid (neg_ℤ low) step)) step k)

-- a multiple that is not below the window is the first one or comes after it
reached : (step low m p : ℤ) → pos 1 ≤ℤ step → p ≡ m *ℤ step → low ≤ℤ p → neg_ℤ (int_div_euclid (neg_ℤ low) step) ≤ℤ m
reached step low m p h e l =
    let j = neg_ℤ (int_div_euclid (neg_ℤ low) step) in
    elim (order j m) [
      | inl g ↦ g
      | inr g ↦
          let near = multiple-near step low h in
          let is = multiple-is step low h in
          let a = product-mono step (m +ℤ pos 1) j (omega (arith, ints, h)) g in
          let b = *ℤ_comm step (m +ℤ pos 1) in
          let c = *ℤ_comm step j in
          let d = one-more m step in
          absurd (past step low (multiple_from step low) (j *ℤ step) (m *ℤ step) p near.1 is (omega (arith, ints, a, b, c, d)) e l)
    ]
  where
    past : (step low first x y p : ℤ) → first <ℤ (low +ℤ step) → first ≡ x → (y +ℤ step) ≤ℤ x → p ≡ y → low ≤ℤ p → ⊥
    past step low first x y p a b c d e = omega (arith, ints, a, b, c, d, e)

-- the numbers of an axis are the multiples in the window
pub on-axis : (step : ℤ) (window : Span) (p : ℤ) → pos 1 ≤ℤ step
    → (((m : ℤ) × (p ≡ m *ℤ step)) × Holds window p) ↔ ((k : ℕ) × (k < (axis_of step window).count) × (coordinate (axis_of step window) k ≡ p))
on-axis step window p low = (
  λ h.
      let far = beyond (neg_ℤ (int_div_euclid (neg_ℤ window.lo) step)) h.0.0 (reached step window.lo h.0.0 p low h.0.1 h.1.low) in
      let here : coordinate (axis_of step window) far.0 ≡ p = multiple-at step window.lo far.0 low ∙ sym (h.0.1 ∙ ap (λ x. x *ℤ step) far.1) in
      (far.0, (count-points (multiple_from step window.lo) step window.hi low far.0).1 (under here h.1.high), here),
  λ h.
      let near = multiple-near step window.lo low in
      let high = (count-points (multiple_from step window.lo) step window.hi low h.0).0 h.1 in
      let long = steps-long step h.0 low in (
        (neg_ℤ (int_div_euclid (neg_ℤ window.lo) step) +ℤ pos h.0, sym h.2 ∙ multiple-at step window.lo h.0 low),
        record { low = from (multiple_from step window.lo) (pos h.0 *ℤ step) h.0 near.0 long h.2; high = subst (λ (x : ℤ). x ≤ℤ window.hi) h.2 high },
      ),
)
  where
    under : {x : ℤ} → x ≡ p → p ≤ℤ window.hi → x ≤ℤ window.hi
    under {x} e l = subst (λ (y : ℤ). y ≤ℤ window.hi) (sym e) l

    from : (first way : ℤ) (k : ℕ) → window.lo ≤ℤ first → pos k ≤ℤ way → (first +ℤ way) ≡ p → window.lo ≤ℤ p
    from first way k a b e = omega (arith, ints, a, b, e)
