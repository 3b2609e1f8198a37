-- Linear inequalities solved by the quotient whose remainder is not negative, and roots.
use Rattle.std.proofs.Common.{◌≡◌, ◌⊎◌, ◌↔◌, ◌/◌, inl, inr, ℕ, zero, suc, ℤ, pos, negsuc, ◌+ℤ◌, ◌-ℤ◌, ◌*ℤ◌, neg_ℤ, ◌≤ℤ◌, ◌<ℤ◌, arith, ap, sym, subst, ◌∙◌}
use Rattle.std.specs.Int.{int_div_euclid}
use Rattle.std.proofs.lemmas.Int.{ints, clamps}
use Rattle.std.proofs.Math.IntN.{*ℤ_comm, *ℤ-zero, zero-*ℤ, +ℤ_one, -ℤ_one, suc_ℤ-*ℤ, pred_ℤ-*ℤ}
use borrow.Author.Differences.{product_is}
use Rattle.tube_spec.specs.Span.{Span, Holds}
use Rattle.int_interval.specs.Image.{int_abs}
use Rattle.int_interval.proofs.Products.{product-mono, product-anti, product-neg, neg-product}
use Rattle.int_interval.proofs.Images.{square-abs, square-mono}

-- one of both orders
pub order : (x y : ℤ) → (x ≤ℤ y) ⊎ ((y +ℤ pos 1) ≤ℤ x)
order x y = grind (arith, ints)

right-mono : (x y k : ℤ) → pos 0 ≤ℤ k → x ≤ℤ y → (x *ℤ k) ≤ℤ (y *ℤ k)
right-mono x y k h l = omega (arith, ints, product-mono k x y h l, *ℤ_comm x k, *ℤ_comm y k)

right-anti : (x y k : ℤ) → k ≤ℤ pos 0 → x ≤ℤ y → (y *ℤ k) ≤ℤ (x *ℤ k)
right-anti x y k h l = omega (arith, ints, product-anti k x y h l, *ℤ_comm x k, *ℤ_comm y k)

one-more : (q k : ℤ) → (q +ℤ pos 1) *ℤ k ≡ (q *ℤ k) +ℤ k
one-more q k = ap (λ x. x *ℤ k) (+ℤ_one q) ∙ suc_ℤ-*ℤ q k

one-less : (q k : ℤ) → (q +ℤ negsuc 0) *ℤ k ≡ (q *ℤ k) -ℤ k
one-less q k = ap (λ x. x *ℤ k) (-ℤ_one q) ∙ pred_ℤ-*ℤ q k

-- the quotient by a positive number, and by a negative one
quotient-positive : (m : ℤ) (k : ℕ) → (int_div_euclid m (pos (suc k)) *ℤ pos (suc k)) ≤ℤ m × (m <ℤ ((int_div_euclid m (pos (suc k)) *ℤ pos (suc k)) +ℤ pos (suc k)))
quotient-positive (pos a) k = (omega (arith, ints, product_is), omega (arith, ints, product_is))
quotient-positive (negsuc a) k = (omega (arith, ints, product_is), omega (arith, ints, product_is))

quotient-negative : (m : ℤ) (k : ℕ) → (int_div_euclid m (negsuc k) *ℤ negsuc k) ≤ℤ m × (m <ℤ ((int_div_euclid m (negsuc k) *ℤ negsuc k) +ℤ pos (suc k)))
quotient-negative (pos a) k =
    let e = neg-product (pos (a / suc k)) (negsuc k) in
    (omega (arith, ints, product_is, e), omega (arith, ints, product_is, e))
quotient-negative (negsuc a) k = (omega (arith, ints, product_is), omega (arith, ints, product_is))

-- a number times k is at most m, for k above 0 up to the quotient, and for k below 0 from the quotient on
at-most-up : (m p : ℤ) (k : ℕ) → (p *ℤ pos (suc k)) ≤ℤ m ↔ p ≤ℤ int_div_euclid m (pos (suc k))
at-most-up m p k =
    let q = int_div_euclid m (pos (suc k)) in
    let near = quotient-positive m k in
    let above : (q +ℤ pos 1) *ℤ pos (suc k) ≡ (q *ℤ pos (suc k)) +ℤ pos (suc k) = one-more q (pos (suc k)) in (
      λ h. elim (order p q) [
        | inl l ↦ l
        | inr g ↦ let step = right-mono (q +ℤ pos 1) p (pos (suc k)) (omega (arith, ints)) g in absurd (omega (arith, ints, h, step, above, near.1))
      ],
      λ h. let step = right-mono p q (pos (suc k)) (omega (arith, ints)) h in omega (arith, ints, step, near.0),
    )

at-most-down : (m p : ℤ) (k : ℕ) → (p *ℤ negsuc k) ≤ℤ m ↔ int_div_euclid m (negsuc k) ≤ℤ p
at-most-down m p k =
    let q = int_div_euclid m (negsuc k) in
    let near = quotient-negative m k in
    let below : (q +ℤ negsuc 0) *ℤ negsuc k ≡ (q *ℤ negsuc k) +ℤ pos (suc k) = one-less q (negsuc k) ∙ omega (arith, ints) in (
      λ h. elim (order q p) [
        | inl l ↦ l
        | inr g ↦ let step = right-anti p (q +ℤ negsuc 0) (negsuc k) (omega (arith, ints)) (omega (arith, ints, g)) in absurd (omega (arith, ints, h, step, below, near.1))
      ],
      λ h. let step = right-anti q p (negsuc k) (omega (arith, ints)) h in omega (arith, ints, step, near.0),
    )

pub at-most-positive : (m p k q : ℤ) → pos 0 <ℤ k → q ≡ int_div_euclid m k → (p *ℤ k) ≤ℤ m ↔ p ≤ℤ q
at-most-positive m p (pos zero) q h e = absurd (omega (arith, ints, h))
at-most-positive m p (pos (suc n)) q h e = subst (λ x. (p *ℤ pos (suc n)) ≤ℤ m ↔ p ≤ℤ x) (sym e) (at-most-up m p n)
at-most-positive m p (negsuc n) q h e = absurd (omega (arith, ints, h))

pub at-most-negative : (m p k q : ℤ) → k <ℤ pos 0 → q ≡ int_div_euclid m k → (p *ℤ k) ≤ℤ m ↔ q ≤ℤ p
at-most-negative m p (pos n) q h e = absurd (omega (arith, ints, h))
at-most-negative m p (negsuc n) q h e = subst (λ x. (p *ℤ negsuc n) ≤ℤ m ↔ x ≤ℤ p) (sym e) (at-most-down m p n)

pub product-zero : (p k : ℤ) → k ≡ pos 0 → p *ℤ k ≡ pos 0
product-zero p k e = ap (λ x. p *ℤ x) e ∙ *ℤ-zero p

-- at least is at most of the opposites
pub at-least-opposite : (m p k n j : ℤ) → n ≡ neg_ℤ m → j ≡ neg_ℤ k → (p *ℤ j) ≤ℤ n ↔ m ≤ℤ (p *ℤ k)
at-least-opposite m p k n j e d =
    let f = ap (λ x. p *ℤ x) d ∙ product-neg p k in
    (λ h. omega (arith, ints, h, e, f), λ h. omega (arith, ints, h, e, f))

-- the numbers from 0 on whose squares lie between two numbers
pub between-roots : (s : Span) (least greatest low high p : ℤ) → low ≡ s.lo → high ≡ s.hi
    → ((q : ℤ) → pos 0 ≤ℤ q → (low ≤ℤ (q *ℤ q)) ↔ (least ≤ℤ q)) → ((q : ℤ) → pos 0 ≤ℤ q → ((q *ℤ q) ≤ℤ high) ↔ (q ≤ℤ greatest))
    → Holds (record { lo = least; hi = greatest }) (int_abs p) ↔ Holds s (p *ℤ p)
between-roots s least greatest low high p e d f g =
    let size : pos 0 ≤ℤ int_abs p = omega (arith, ints, clamps) in
    let l = f (int_abs p) size in
    let r = g (int_abs p) size in
    let same = square-abs p in (
      λ h. let a = l.1 h.low in let b = r.1 h.high in record { low = omega (arith, ints, a, same, e); high = omega (arith, ints, b, same, d) },
      λ h. record { low = l.0 (omega (arith, ints, h, same, e)); high = r.0 (omega (arith, ints, h, same, d)) },
    )

pub square-positive : (p : ℤ) → pos 0 ≤ℤ (p *ℤ p)
square-positive p = omega (arith, ints, square-abs p, square-mono (pos 0) (int_abs p) (omega (arith, ints)) (omega (arith, ints, clamps)), zero-*ℤ (pos 0))

-- one more than the greatest root of what is below n is the least root of n
pub next-root : (n m r s p : ℤ) → m ≡ n -ℤ pos 1 → s ≡ r +ℤ pos 1 → ((p *ℤ p) ≤ℤ m ↔ p ≤ℤ r) → (n ≤ℤ (p *ℤ p)) ↔ (s ≤ℤ p)
next-root n m r s p u v e = (
  λ k. elim (order p r) [ inl l ↦ absurd (let a = e.1 l in omega (arith, ints, a, k, u)) | inr g ↦ omega (arith, ints, g, v) ],
  λ k. elim (order n (p *ℤ p)) [ inl l ↦ l | inr g ↦ absurd (let a = e.0 (omega (arith, ints, g, u)) in omega (arith, ints, a, k, v)) ],
)
