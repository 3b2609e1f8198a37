-- Inverse images: which members of a span an operation takes into another span, and their hulls.
use Rattle.std.specs.Prelude.{◌&&◌, ◌↔◌, Bool, cond, Option, Some, None, ℤ, pos, ◌+ℤ◌, ◌-ℤ◌, ◌*ℤ◌, int_le}
use Rattle.tube_spec.specs.Span.{Span, IsProper, Holds, point, meet_of, add_of, scale_of, natural}
use Rattle.tube_spec.specs.Hull.{hull_below}
use Rattle.int_interval.specs.Image.{int_abs, min_of, max_of}

-- two spans share a number
abbrev pub Meets : Span → Span → Type 0
Meets a b = (r : ℤ) × Holds a r × Holds b r

-- f takes the number and some member of b into c
abbrev pub TakesInto : (ℤ → ℤ → ℤ) → Span → Span → ℤ → Type 0
TakesInto f b c p = (q : ℤ) × Holds b q × Holds c (f p q)

-- the members of the span are exactly the numbers with the property, and it is nothing where no number has it
unfoldable pub IsSetOf : (ℤ → Type 0) → Option Span → Type 0
IsSetOf P None = (p : ℤ) → P p → ⊥
IsSetOf P (Some s) = IsProper s × ((p : ℤ) → Holds s p ↔ P p)

-- The same tests, computed: a number lies in a span, and two spans share a number.
abbrev pub holds : Span → ℤ → Bool
holds a p = int_le a.lo p && int_le p a.hi

abbrev pub meets : Span → Span → Bool
meets a b = int_le (meet_of a b).lo (meet_of a b).hi

-- the hull of the members of a that pass a test, nothing where none does
unfoldable pub hull_where : (ℤ → Bool) → Span → Option Span
hull_where test a =
    hull_below (λ k. cond (test (a.lo +ℤ pos k)) (Some (point (a.lo +ℤ pos k))) None) (natural (a.hi +ℤ pos 1 -ℤ a.lo))

-- The hull of the members p of a for which the products of p with both ends of b lie to both sides of some number of c, or on it.
unfoldable pub back_mul_of : Span → Span → Span → Option Span
back_mul_of a b c = hull_where (λ p. meets (scale_of p b) c) a

-- The hulls of the members of a whose square, and whose absolute value, lies in c.
unfoldable pub back_sqr_of : Span → Span → Option Span
back_sqr_of a c = hull_where (λ p. holds c (p *ℤ p)) a

unfoldable pub back_abs_of : Span → Span → Option Span
back_abs_of a c = hull_where (λ p. holds c (int_abs p)) a

-- The hulls of the members p of a for which the lesser, the greater, and the sum of p and some member of b lies in c.
unfoldable pub back_min_of : Span → Span → Span → Option Span
back_min_of a b c = hull_where (λ p. meets (min_of (point p) b) c) a

unfoldable pub back_max_of : Span → Span → Span → Option Span
back_max_of a b c = hull_where (λ p. meets (max_of (point p) b) c) a

unfoldable pub back_add_of : Span → Span → Span → Option Span
back_add_of a b c = hull_where (λ p. meets (add_of (point p) b) c) a
