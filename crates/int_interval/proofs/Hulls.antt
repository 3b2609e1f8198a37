-- Laws of hulls: there is one at most, and the hull of fewer numbers lies within the hull of more.
use Rattle.std.proofs.Common.{◌≡◌, Option, Some, None, ℤ, arith, ap, refl}
use Rattle.std.proofs.lemmas.Int.{ints}
use Rattle.tube_spec.specs.Span.{Span, IsProper, IsWithin, Holds}
use Rattle.tube_spec.specs.Hull.{IsHullOf, IsWithinOption}
use Rattle.tube_spec.proofs.Spans.{same_span}

pub hull-within : (P Q : ℤ → Type 0) (x y : Option Span) → ((p : ℤ) → P p → Q p) → IsHullOf P x → IsHullOf Q y → IsWithinOption x y
hull-within P Q None y f hx hy = tt
hull-within P Q (Some x) None f hx hy = absurd (hy x.lo (f x.lo hx.0))
hull-within P Q (Some x) (Some y) f hx hy = record { low = (hy.2 x.lo (f x.lo hx.0)).low; high = (hy.2 x.hi (f x.hi hx.1)).high }

pub same_hull : (x y : Option Span) → IsWithinOption x y → IsWithinOption y x → x ≡ y
same_hull None None p q = refl
same_hull None (Some y) p q = absurd q
same_hull (Some x) None p q = absurd p
same_hull (Some x) (Some y) p q = ap Some (same_span x y (omega (arith, ints, p, q)) (omega (arith, ints, p, q)))

pub hull-unique : (P : ℤ → Type 0) (x y : Option Span) → IsHullOf P x → IsHullOf P y → x ≡ y
hull-unique P x y hx hy = same_hull x y (hull-within P P x y (λ p h. h) hx hy) (hull-within P P y x (λ p h. h) hy hx)

-- hulls of one property, said in two ways
pub hull-same : (P Q : ℤ → Type 0) (x : Option Span) → ((p : ℤ) → P p → Q p) → ((p : ℤ) → Q p → P p) → IsHullOf P x → IsHullOf Q x
hull-same P Q None f g h = λ p q. h p (g p q)
hull-same P Q (Some s) f g h = (f s.lo h.0, f s.hi h.1, λ p q. h.2 p (g p q))

pub holds-within : (p : ℤ) (a b : Span) → IsWithin a b → Holds a p → Holds b p
holds-within p a b w h = record { low = omega (arith, ints, w, h); high = omega (arith, ints, w, h) }

pub holds-lo : (a : Span) → IsProper a → Holds a a.lo
holds-lo a h = record { low = omega (arith, ints, h); high = omega (arith, ints, h) }

pub holds-hi : (a : Span) → IsProper a → Holds a a.hi
holds-hi a h = record { low = omega (arith, ints, h); high = omega (arith, ints, h) }
