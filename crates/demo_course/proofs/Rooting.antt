-- Whole square roots.
use Rattle.std.proofs.Common.{◌≡◌, ℕ, zero, suc, ◌+◌, ◌*◌, ◌<◌, ◌≤◌, Bool, true, false, nat_le, if◌then◌else◌, arith, refl}
use Rattle.std.proofs.lemmas.Bool.Decides.{nat_tests}
use Rattle.std.proofs.lemmas.Nat.{mul-le}
use Rattle.std.proofs.Math.Nat.{le-mul_of_pos_right}
use Rattle.std.specs.Prelude.{◌↔◌}
use Rattle.demo_course.specs.Roots.{root_up_to, whole_root}

chosen-square : (t : Bool) (s r n : ℕ) → (t ≡ true → s * s ≤ n) → r * r ≤ n → (if t then s else r) * (if t then s else r) ≤ n
chosen-square true s r n hit miss = hit refl
chosen-square false s r n hit miss = miss

square-low : (n r : ℕ) → root_up_to n r * root_up_to n r ≤ n
unfolding root_up_to
square-low n zero = omega arith
square-low n (suc r) = chosen-square (nat_le (suc r * suc r) n) (suc r) (root_up_to n r) n (λ e. grind (arith, nat_tests)) (square-low n r)

chosen-greatest : (t : Bool) (s r p n : ℕ) → (t ≡ false → n < s * s) → p ≤ s → p * p ≤ n → (p < s → p ≤ r) → p ≤ (if t then s else r)
chosen-greatest true s r p n miss up square below = up
chosen-greatest false s r p n miss up square below = below (grind arith)

root-greatest : (n r p : ℕ) → p ≤ r → p * p ≤ n → p ≤ root_up_to n r
unfolding root_up_to
root-greatest n zero p up square = up
root-greatest n (suc r) p up square = chosen-greatest (nat_le (suc r * suc r) n) (suc r) (root_up_to n r) p n (λ e. grind (arith, nat_tests)) up square (λ l. root-greatest n r p (omega arith) square)

pub square-mono : (p q : ℕ) → p ≤ q → p * p ≤ q * q
square-mono p q h = mul-le p p q q h h

below-square : (p : ℕ) → p ≤ p * p
below-square zero = omega arith
below-square (suc p) = le-mul_of_pos_right (suc p) (omega arith)

pub roots-greatest : (n r : ℕ) → (r * r ≤ n) ↔ (r ≤ whole_root n)
unfolding whole_root
roots-greatest n r = (
  (λ square. root-greatest n n r (omega (arith, square, below-square r)) square),
  (λ up. omega (arith, square-mono r (root_up_to n n) up, square-low n n)),
)

-- a number with the two promises of a root is the whole root
pub root-is : (n r : ℕ) → r * r ≤ n → n < (r + 1) * (r + 1) → r ≡ whole_root n
root-is n r low high =
    let up : r ≤ whole_root n = (roots-greatest n r).0 low in
    let next : (r + 1 ≤ whole_root n) → (r + 1) * (r + 1) ≤ n = (roots-greatest n (r + 1)).1 in
    grind (arith, up, next)
