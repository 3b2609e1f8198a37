-- Exact images of intervals, and the intervals that they are.
use Rattle.std.specs.Prelude.{◌≡◌, ◌⊎◌, Option, Some, ℤ, pos, ◌*ℤ◌, neg_ℤ}
use Rattle.std.specs.Int.{int_min, int_max}
use Rattle.tube_spec.specs.Span.{Span, Holds, join_of, scale_of}
use Rattle.tube_spec.specs.Hull.{IsHullOf}

-- the hull of what f gives of the members of a: both its ends are such values, and it holds them all
unfoldable pub IsImage : (ℤ → ℤ) → Span → Span → Type 0
IsImage f a s = IsHullOf (λ r. (p : ℤ) × Holds a p × (f p ≡ r)) (Some s)

-- the same of a function of two members, one of a and one of b
unfoldable pub IsImageOfTwo : (ℤ → ℤ → ℤ) → Span → Span → Span → Type 0
IsImageOfTwo f a b s = IsHullOf (λ r. (p q : ℤ) × Holds a p × Holds b q × (f p q ≡ r)) (Some s)

-- the hull of the numbers that lie in both, nothing where there is none
unfoldable pub IsMeeting : Span → Span → Option Span → Type 0
IsMeeting a b s = IsHullOf (λ p. Holds a p × Holds b p) s

-- the hull of the numbers that lie in one of both
unfoldable pub IsUnion : Span → Span → Span → Type 0
IsUnion a b s = IsHullOf (λ p. Holds a p ⊎ Holds b p) (Some s)

-- the absolute value
abbrev pub int_abs : ℤ → ℤ
int_abs p = int_max p (neg_ℤ p)

-- the opposites
abbrev pub neg_of : Span → Span
neg_of a = record { lo = neg_ℤ a.hi; hi = neg_ℤ a.lo }

-- the absolute values: from 0 where the span holds 0, and else from the end that is nearer to 0
abbrev pub abs_of : Span → Span
abs_of a = record { lo = int_max (pos 0) (int_max a.lo (neg_ℤ a.hi)); hi = int_max (neg_ℤ a.lo) a.hi }

-- the lesser of two members, and the greater
abbrev pub min_of : Span → Span → Span
min_of a b = record { lo = int_min a.lo b.lo; hi = int_min a.hi b.hi }

abbrev pub max_of : Span → Span → Span
max_of a b = record { lo = int_max a.lo b.lo; hi = int_max a.hi b.hi }

-- the hull of the products of the ends
abbrev pub mul_of : Span → Span → Span
mul_of a b = join_of (scale_of a.lo b) (scale_of a.hi b)

-- the squares of the least and of the greatest absolute value
abbrev pub sqr_of : Span → Span
sqr_of a = let m = abs_of a in record { lo = m.lo *ℤ m.lo; hi = m.hi *ℤ m.hi }
