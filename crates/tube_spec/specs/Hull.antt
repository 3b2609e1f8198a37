-- Hulls: of families of spans of which some members are nothing, and of sets of numbers.
use Rattle.std.specs.Prelude.{ℕ, zero, suc, cond, Option, Some, None, ℤ, int_le}
use Rattle.tube_spec.specs.Span.{Span, Holds, IsWithin, join_of}

-- a span where it is proper, and else nothing
abbrev pub proper : Span → Option Span
proper s = cond (int_le s.lo s.hi) (Some s) None

-- the least span that holds both, of which each may be nothing
abbrev pub join_option : Option Span → Option Span → Option Span
join_option None b = b
join_option (Some a) None = Some a
join_option (Some a) (Some b) = Some (join_of a b)

-- the hull of f 0, f 1 and so on below n, of which each may be nothing
abbrev pub hull_below : (ℕ → Option Span) → ℕ → Option Span
hull_below f zero = None
hull_below f (suc n) = join_option (hull_below f n) (f n)

-- nothing lies within all, and a span within a span that holds it
abbrev pub IsWithinOption : Option Span → Option Span → Type 0
IsWithinOption None b = Unit {0}
IsWithinOption (Some a) None = ⊥
IsWithinOption (Some a) (Some b) = IsWithin a b

-- The least span that holds every number with a property: both its ends have it, and it is nothing where no number has it.
abbrev pub IsHullOf : (ℤ → Type 0) → Option Span → Type 0
IsHullOf P None = (p : ℤ) → P p → ⊥
IsHullOf P (Some s) = P s.lo × P s.hi × ((p : ℤ) → P p → Holds s p)
