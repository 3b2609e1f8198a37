-- How far a sensor sees along a line, and which points of the line lie there.
use Rattle.std.proofs.Common.{◌≡◌, ◌↔◌, ◌⊎◌, inl, inr, ℕ, suc, ◌+◌, ◌*◌, ◌-◌, ◌<◌, ◌≤◌, Bool, true, false, ◌&&◌, nat_le, ℤ, pos, negsuc, ◌+ℤ◌, ◌-ℤ◌, neg_ℤ, ◌≤ℤ◌, ◌<ℤ◌, arith, refl, sym, ap, ◌∙◌}
use Rattle.std.specs.Int.{int_max}
use Rattle.std.proofs.Math.Nat.{mul-le-mul_left}
use Rattle.std.proofs.lemmas.Int.{ints, clamps}
use Rattle.std.proofs.lemmas.Bool.Decides.{nat_tests}
use Rattle.tube_spec.specs.Span.{Span, Holds, natural, point, sub_of}
use Rattle.tube_names.specs.Nearness.{is_near}
use Rattle.tube_names.specs.declared.queries.Norm.{Norm}
use Rattle.tube_names.specs.declared.queries.Norm.TheVariants.{Maximum, Disc}
use Rattle.hull_tree.specs.Plane.{least_abs, greatest_abs}

pub square-mono : (a b : ℕ) → a ≤ b → a * a ≤ b * b
square-mono a b h = omega (arith, mul-le-mul_left a h, mul-le-mul_left b h)

pub square-less : (a b : ℕ) → a < b → a * a < b * b
square-less a b h = let e = square-mono (a + 1) b (omega (arith, h)) in omega (arith, e)

order : (a b : ℕ) → (a ≤ b) ⊎ (b < a)
order a b = grind arith

-- the root of a difference of squares
pub root-of : (r a s d : ℕ) → a ≤ r → s * s ≤ r * r - a * a → r * r - a * a < (s + 1) * (s + 1) → (d * d + a * a ≤ r * r) ↔ (d ≤ s)
root-of r a s d h low high =
    let inner = square-mono a r h in (
      λ l. elim (order d s) [ inl g ↦ g | inr g ↦ let e = square-mono (s + 1) d (omega (arith, g)) in absurd (omega (arith, l, e, low, high, inner)) ],
      λ l. let e = square-mono d s l in omega (arith, e, low, inner),
    )

pub root-small : (r a s : ℕ) → s * s ≤ r * r - a * a → s ≤ r
root-small r a s low = elim (order s r) [ inl g ↦ g | inr g ↦ let e = square-less r s g in absurd (omega (arith, e, low)) ]

-- past the radius across nothing is near
pub far : (n : Norm) (r d a : ℕ) → r < a → is_near n r d a ≡ false
far Maximum r d a h = grind (arith, nat_tests)
far Disc r d a h = let e = square-less r a h in grind (arith, nat_tests)

pub near-maximum : (r d a : ℕ) → a ≤ r → (is_near Maximum r d a ≡ true) ↔ (pos d ≤ℤ pos r)
near-maximum r d a h = (λ e. back r d a h e, λ l. there r d a h (omega (arith, ints, l)))
  where
    there : (r d a : ℕ) → a ≤ r → d ≤ r → is_near Maximum r d a ≡ true
    there r d a h l = grind (arith, nat_tests)

    less : (r d a : ℕ) → a ≤ r → is_near Maximum r d a ≡ true → d ≤ r
    less r d a h e = grind (arith, nat_tests)

    back : (r d a : ℕ) → a ≤ r → is_near Maximum r d a ≡ true → pos d ≤ℤ pos r
    back r d a h e = omega (arith, ints, less r d a h e)

pub near-disc : (r d a s : ℕ) → ((d * d + a * a ≤ r * r) ↔ (d ≤ s)) → (is_near Disc r d a ≡ true) ↔ (pos d ≤ℤ pos s)
near-disc r d a s h = (λ e. let l = h.0 (back (d * d + a * a) (r * r) e) in omega (arith, ints, l), λ l. there (d * d + a * a) (r * r) (h.1 (omega (arith, ints, l))))
  where
    there : (x y : ℕ) → x ≤ y → nat_le x y ≡ true
    there x y l = grind (arith, nat_tests)

    back : (x y : ℕ) → nat_le x y ≡ true → x ≤ y
    back x y e = grind (arith, nat_tests)

pub natural-most : (z w : ℤ) → pos 0 ≤ℤ w → (pos (natural z) ≤ℤ w) ↔ (z ≤ℤ w)
natural-most (pos n) w h = (λ l. l, λ l. l)
natural-most (negsuc n) w h = (λ l. omega (arith, ints, h), λ l. h)

-- a place is no farther than a reach from some number of a span
pub least-within : (x : Span) (p w : ℤ) → pos 0 ≤ℤ w → (pos (least_abs (sub_of x (point p))) ≤ℤ w) ↔ Holds (record { lo = x.lo -ℤ w; hi = x.hi +ℤ w }) p
least-within x p w h =
    let most = natural-most (int_max (x.lo -ℤ p) (neg_ℤ (x.hi -ℤ p))) w h in (
      λ l. let g = most.0 l in record { low = omega (arith, ints, clamps, g); high = omega (arith, ints, clamps, g) },
      λ l. most.1 (omega (arith, ints, clamps, l)),
    )

-- a place is no farther than a reach from each number of a span
pub greatest-within : (x : Span) (p w : ℤ) → pos 0 ≤ℤ w → (pos (greatest_abs (sub_of x (point p))) ≤ℤ w) ↔ Holds (record { lo = x.hi -ℤ w; hi = x.lo +ℤ w }) p
greatest-within x p w h =
    let most = natural-most (int_max (x.hi -ℤ p) (neg_ℤ (x.lo -ℤ p))) w h in (
      λ l. let g = most.0 l in record { low = omega (arith, ints, clamps, g); high = omega (arith, ints, clamps, g) },
      λ l. most.1 (omega (arith, ints, clamps, l)),
    )

-- a place that may be seen lies in the run of the reach, and the other way
pub seen-by : (n : Norm) (r dx dy : ℕ) (w p : ℤ) (run : Span) → ((d : ℕ) → (is_near n r d dy ≡ true) ↔ (pos d ≤ℤ w)) → ((pos dx ≤ℤ w) ↔ Holds run p) → (is_near n r dx dy ≡ true) ↔ Holds run p
seen-by n r dx dy w p run reach within = (λ e. within.0 ((reach dx).0 e), λ h. (reach dx).1 (within.1 h))

-- the number itself from 0 on, and else 0
natural-max : (z : ℤ) (r : ℕ) → pos r ≡ int_max z (pos 0) → r ≡ natural z
natural-max (pos n) r e = omega (arith, ints, clamps, e)
natural-max (negsuc n) r e = omega (arith, ints, clamps, e)

-- the differences of a span from a number
pub least-offset : (x : Span) (p : ℤ) (r : ℕ) → pos r ≡ int_max (int_max (x.lo -ℤ p) (neg_ℤ (x.hi -ℤ p))) (pos 0) → r ≡ least_abs (sub_of x (point p))
least-offset x p r e = natural-max (int_max (x.lo -ℤ p) (neg_ℤ (x.hi -ℤ p))) r e

pub greatest-offset : (x : Span) (p : ℤ) (r : ℕ) → pos r ≡ int_max (int_max (x.hi -ℤ p) (neg_ℤ (x.lo -ℤ p))) (pos 0) → r ≡ greatest_abs (sub_of x (point p))
greatest-offset x p r e = natural-max (int_max (x.hi -ℤ p) (neg_ℤ (x.lo -ℤ p))) r e

-- a number from 0 on
pub natural-is : (z : ℤ) (n : ℕ) → pos 0 ≤ℤ z → pos n ≡ z → n ≡ natural z
natural-is (pos m) n h e = omega (arith, ints, e)
natural-is (negsuc m) n h e = absurd (omega (arith, ints, h))
