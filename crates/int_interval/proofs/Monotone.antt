-- Operations hold the values of members, and give less for less.
use Rattle.std.proofs.Common.{arith, ℤ, ◌+ℤ◌, ◌-ℤ◌, ◌*ℤ◌, neg_ℤ}
use Rattle.std.specs.Int.{int_min, int_max}
use Rattle.std.proofs.lemmas.Int.{ints, clamps}
use Rattle.tube_spec.specs.Span.{Span, IsProper, Holds, IsWithin, add_of, sub_of, scale_of}
use Rattle.int_interval.specs.Image.{neg_of, abs_of, min_of, max_of, mul_of, sqr_of}
use Rattle.int_interval.proofs.Images.{image-mono, image_of_two-mono, proper-within, scale-image, mul-image, sqr-image}

pub add-holds : (a b : Span) (p q : ℤ) → Holds a p → Holds b q → Holds (add_of a b) (p +ℤ q)
add-holds a b p q h k = record { low = omega (arith, ints, h, k); high = omega (arith, ints, h, k) }

pub sub-holds : (a b : Span) (p q : ℤ) → Holds a p → Holds b q → Holds (sub_of a b) (p -ℤ q)
sub-holds a b p q h k = record { low = omega (arith, ints, h, k); high = omega (arith, ints, h, k) }

pub neg-holds : (a : Span) (p : ℤ) → Holds a p → Holds (neg_of a) (neg_ℤ p)
neg-holds a p h = record { low = omega (arith, ints, h); high = omega (arith, ints, h) }

pub min-holds : (a b : Span) (p q : ℤ) → Holds a p → Holds b q → Holds (min_of a b) (int_min p q)
min-holds a b p q h k = record { low = omega (arith, ints, clamps, h, k); high = omega (arith, ints, clamps, h, k) }

pub max-holds : (a b : Span) (p q : ℤ) → Holds a p → Holds b q → Holds (max_of a b) (int_max p q)
max-holds a b p q h k = record { low = omega (arith, ints, clamps, h, k); high = omega (arith, ints, clamps, h, k) }

pub neg-mono : (a c : Span) → IsWithin a c → IsWithin (neg_of a) (neg_of c)
neg-mono a c w = record { low = omega (arith, ints, w); high = omega (arith, ints, w) }

pub abs-mono : (a c : Span) → IsWithin a c → IsWithin (abs_of a) (abs_of c)
abs-mono a c w = record { low = omega (arith, ints, clamps, w); high = omega (arith, ints, clamps, w) }

pub min-mono : (a b c d : Span) → IsWithin a c → IsWithin b d → IsWithin (min_of a b) (min_of c d)
min-mono a b c d v w = record { low = omega (arith, ints, clamps, v, w); high = omega (arith, ints, clamps, v, w) }

pub max-mono : (a b c d : Span) → IsWithin a c → IsWithin b d → IsWithin (max_of a b) (max_of c d)
max-mono a b c d v w = record { low = omega (arith, ints, clamps, v, w); high = omega (arith, ints, clamps, v, w) }

pub scale-mono : (k : ℤ) (a c : Span) → IsProper a → IsWithin a c → IsWithin (scale_of k a) (scale_of k c)
scale-mono k a c h w = image-mono (λ (p : ℤ). k *ℤ p) a c (scale_of k a) (scale_of k c) w (scale-image k a h) (scale-image k c (proper-within a c h w))

pub mul-mono : (a b c d : Span) → IsProper a → IsProper b → IsWithin a c → IsWithin b d → IsWithin (mul_of a b) (mul_of c d)
mul-mono a b c d h k v w =
    image_of_two-mono (λ (p q : ℤ). p *ℤ q) a b c d (mul_of a b) (mul_of c d) v w (mul-image a b h k) (mul-image c d (proper-within a c h v) (proper-within b d k w))

pub sqr-mono : (a c : Span) → IsProper a → IsWithin a c → IsWithin (sqr_of a) (sqr_of c)
sqr-mono a c h w = image-mono (λ (p : ℤ). p *ℤ p) a c (sqr_of a) (sqr_of c) w (sqr-image a h) (sqr-image c (proper-within a c h w))

-- proper spans stay proper
pub neg-proper : (a : Span) → IsProper a → IsProper (neg_of a)
neg-proper a h = omega (arith, ints, h)

pub min-proper : (a b : Span) → IsProper a → IsProper b → IsProper (min_of a b)
min-proper a b h k = omega (arith, ints, clamps, h, k)

pub max-proper : (a b : Span) → IsProper a → IsProper b → IsProper (max_of a b)
max-proper a b h k = omega (arith, ints, clamps, h, k)

pub add-proper : (a b : Span) → IsProper a → IsProper b → IsProper (add_of a b)
add-proper a b h k = omega (arith, ints, h, k)

pub sub-proper : (a b : Span) → IsProper a → IsProper b → IsProper (sub_of a b)
sub-proper a b h k = omega (arith, ints, h, k)

pub proper-abs : (a : Span) → IsProper a → IsProper (abs_of a)
proper-abs a h = omega (arith, ints, clamps, h)
