-- Differences of small numbers, and bounds that are the same.
use Rattle.std.proofs.Common.{◌≡◌, ℕ, ℤ, pos, negsuc, neg_ℤ, ◌-ℤ◌, ◌≤ℤ◌, SFits, w64, to_z, of_z, arith}
use Rattle.std.specs.Int.{int_max}
use Rattle.std.proofs.lemmas.Int.{ints, to_z-of_z}
use Rattle.tube_spec.specs.Span.{natural}
use Rattle.hull_tree.specs.declared.hulls.Bounds.{Bounds}

pub small_fits : (z : ℤ) → neg_ℤ (pos 1000000000) ≤ℤ z → z ≤ℤ pos 1000000000 → SFits w64 z
small_fits (pos n) h k = record { sfits = omega (arith, ints, k) }
small_fits (negsuc n) h k = record { sfits = omega (arith, ints, h) }

pub same_bounds : (p q : Bounds) → p.least_lower ≡ q.least_lower → p.greatest_lower ≡ q.greatest_lower → p.least_upper ≡ q.least_upper → p.greatest_upper ≡ q.greatest_upper → p ≡ q
same_bounds p q a b c d =
    let f : record { least_lower = p.least_lower; greatest_lower = p.greatest_lower; least_upper = p.least_upper; greatest_upper = p.greatest_upper } ≡ record { least_lower = q.least_lower; greatest_lower = q.greatest_lower; least_upper = q.least_upper; greatest_upper = q.greatest_upper } = rw (a, b, c, d) in
    f

-- a difference of two numbers that fit
pub diff_read : (a b : ℤ) → SFits w64 a → SFits w64 b → neg_ℤ (pos 500000000) ≤ℤ a → a ≤ℤ pos 500000000 → neg_ℤ (pos 500000000) ≤ℤ b → b ≤ℤ pos 500000000
    → to_z w64 (of_z w64 (to_z w64 (of_z w64 a) -ℤ to_z w64 (of_z w64 b))) ≡ a -ℤ b
diff_read a b f g h k l m =
    let e : SFits w64 (a -ℤ b) = small_fits (a -ℤ b) (omega (arith, ints, h, k, l, m)) (omega (arith, ints, h, k, l, m)) in
    rw (to_z-of_z w64 a f, to_z-of_z w64 b g, to_z-of_z w64 (a -ℤ b) e)

pub same-gap : (a b c d : ℤ) (r : ℕ) → r ≡ natural (int_max a b) → a ≡ c → b ≡ d → r ≡ natural (int_max c d)
same-gap a b c d r e f g = cc
