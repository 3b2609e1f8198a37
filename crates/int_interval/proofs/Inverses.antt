-- The inverse images are the hulls that they are meant to be: they hold each member that is taken into c, and give less for less.
use Rattle.std.proofs.Common.{◌≡◌, ◌⊎◌, ◌&&◌, inl, inr, Bool, true, false, IsTrue, Option, Some, None, ℤ, ◌+ℤ◌, ◌-ℤ◌, ◌*ℤ◌, ◌≤ℤ◌, int_le, arith, refl, sym, subst}
use Rattle.std.specs.Int.{int_min, int_max}
use Rattle.std.proofs.lemmas.Int.{ints, clamps}
use Rattle.tube_spec.specs.Span.{Span, IsProper, Holds, IsWithin, point, meet_of, add_of, scale_of}
use Rattle.tube_spec.specs.Hull.{IsHullOf, IsWithinOption}
use Rattle.int_interval.specs.Image.{int_abs, min_of, max_of}
use Rattle.int_interval.specs.Inverse.{Meets, TakesInto, holds, meets, hull_where, back_mul_of, back_sqr_of, back_abs_of, back_min_of, back_max_of, back_add_of}
use Rattle.int_interval.proofs.Hulls.{hull-same, hull-within, holds-within}
use Rattle.int_interval.proofs.Products.{scale-holds}
use Rattle.int_interval.proofs.Monotone.{scale-mono}
use Rattle.int_interval.proofs.Sets.{hull_where-is}

-- the tests compute what they are named for
both-true : (x y : Bool) → IsTrue (x && y) → IsTrue x × IsTrue y
both-true true true h = (refl, refl)
both-true true false h = absurd (cc)
both-true false y h = absurd (cc)

true-both : (x y : Bool) → IsTrue x → IsTrue y → IsTrue (x && y)
true-both true true h k = refl
true-both true false h k = absurd (cc)
true-both false y h k = absurd (cc)

le-true : (x y : ℤ) → IsTrue (int_le x y) → x ≤ℤ y
le-true x y h = grind (arith, ints, h)

true-le : (x y : ℤ) → x ≤ℤ y → IsTrue (int_le x y)
true-le x y h = grind (arith, ints, h)

holds-true : (a : Span) (p : ℤ) → IsTrue (holds a p) → Holds a p
holds-true a p h = let k = both-true (int_le a.lo p) (int_le p a.hi) h in record { low = le-true a.lo p k.0; high = le-true p a.hi k.1 }

true-holds : (a : Span) (p : ℤ) → Holds a p → IsTrue (holds a p)
true-holds a p h = true-both (int_le a.lo p) (int_le p a.hi) (true-le a.lo p h.low) (true-le p a.hi h.high)

meets-true : (a b : Span) → IsTrue (meets a b) → Meets a b
meets-true a b h =
    let l = le-true (meet_of a b).lo (meet_of a b).hi h in
    ((meet_of a b).lo, record { low = omega (arith, ints, clamps, l); high = omega (arith, ints, clamps, l) }, record { low = omega (arith, ints, clamps, l); high = omega (arith, ints, clamps, l) })

true-meets : (a b : Span) → Meets a b → IsTrue (meets a b)
true-meets a b h = true-le (meet_of a b).lo (meet_of a b).hi (omega (arith, ints, clamps, h.1, h.2))

pub meets-within : (a b c d : Span) → IsWithin a c → IsWithin b d → Meets a b → Meets c d
meets-within a b c d v w h = (h.0, holds-within h.0 a c v h.1, holds-within h.0 b d w h.2)

-- a hull by a test is the hull by what the test computes
by-test : (P : ℤ → Type 0) (test : ℤ → Bool) (a : Span) → ((p : ℤ) → IsTrue (test p) → P p) → ((p : ℤ) → P p → IsTrue (test p)) → IsHullOf (λ p. Holds a p × P p) (hull_where test a)
by-test P test a f g = hull-same (λ p. Holds a p × IsTrue (test p)) (λ p. Holds a p × P p) (hull_where test a) (λ p h. (h.0, f p h.1)) (λ p h. (h.0, g p h.1)) (hull_where-is test a)

-- a member with the property lies in the hull
member-holds : (P : ℤ → Type 0) (x : Option Span) (p : ℤ) → P p → IsHullOf P x → IsWithinOption (Some (point p)) x
member-holds P None p h k = absurd (k p h)
member-holds P (Some s) p h k = let i = k.2 p h in record { low = i.low; high = i.high }

-- products
pub back_mul-hull : (a b c : Span) → IsHullOf (λ p. Holds a p × Meets (scale_of p b) c) (back_mul_of a b c)
unfolding back_mul_of
back_mul-hull a b c = by-test (λ p. Meets (scale_of p b) c) (λ p. meets (scale_of p b) c) a (λ p h. meets-true (scale_of p b) c h) (λ p h. true-meets (scale_of p b) c h)

pub back_mul-holds : (a b c : Span) (p q : ℤ) → Holds a p → Holds b q → Holds c (p *ℤ q) → IsWithinOption (Some (point p)) (back_mul_of a b c)
back_mul-holds a b c p q h k l = member-holds (λ p. Holds a p × Meets (scale_of p b) c) (back_mul_of a b c) p (h, (p *ℤ q, scale-holds p q b k, l)) (back_mul-hull a b c)

pub back_mul-mono : (a b c d e f : Span) → IsProper b → IsWithin a d → IsWithin b e → IsWithin c f → IsWithinOption (back_mul_of a b c) (back_mul_of d e f)
back_mul-mono a b c d e f good u v w =
    hull-within (λ p. Holds a p × Meets (scale_of p b) c) (λ p. Holds d p × Meets (scale_of p e) f) (back_mul_of a b c) (back_mul_of d e f)
    (λ p h. (holds-within p a d u h.0, meets-within (scale_of p b) c (scale_of p e) f (scale-mono p b e good v) w h.1)) (back_mul-hull a b c) (back_mul-hull d e f)

-- squares
pub back_sqr-hull : (a c : Span) → IsHullOf (λ p. Holds a p × Holds c (p *ℤ p)) (back_sqr_of a c)
unfolding back_sqr_of
back_sqr-hull a c = by-test (λ p. Holds c (p *ℤ p)) (λ p. holds c (p *ℤ p)) a (λ p h. holds-true c (p *ℤ p) h) (λ p h. true-holds c (p *ℤ p) h)

pub back_sqr-holds : (a c : Span) (p : ℤ) → Holds a p → Holds c (p *ℤ p) → IsWithinOption (Some (point p)) (back_sqr_of a c)
back_sqr-holds a c p h k = member-holds (λ p. Holds a p × Holds c (p *ℤ p)) (back_sqr_of a c) p (h, k) (back_sqr-hull a c)

pub back_sqr-mono : (a c d f : Span) → IsWithin a d → IsWithin c f → IsWithinOption (back_sqr_of a c) (back_sqr_of d f)
back_sqr-mono a c d f u w =
    hull-within (λ p. Holds a p × Holds c (p *ℤ p)) (λ p. Holds d p × Holds f (p *ℤ p)) (back_sqr_of a c) (back_sqr_of d f)
    (λ p h. (holds-within p a d u h.0, holds-within (p *ℤ p) c f w h.1)) (back_sqr-hull a c) (back_sqr-hull d f)

-- absolute values
pub back_abs-hull : (a c : Span) → IsHullOf (λ p. Holds a p × Holds c (int_abs p)) (back_abs_of a c)
unfolding back_abs_of
back_abs-hull a c = by-test (λ p. Holds c (int_abs p)) (λ p. holds c (int_abs p)) a (λ p h. holds-true c (int_abs p) h) (λ p h. true-holds c (int_abs p) h)

pub back_abs-holds : (a c : Span) (p : ℤ) → Holds a p → Holds c (int_abs p) → IsWithinOption (Some (point p)) (back_abs_of a c)
back_abs-holds a c p h k = member-holds (λ p. Holds a p × Holds c (int_abs p)) (back_abs_of a c) p (h, k) (back_abs-hull a c)

pub back_abs-mono : (a c d f : Span) → IsWithin a d → IsWithin c f → IsWithinOption (back_abs_of a c) (back_abs_of d f)
back_abs-mono a c d f u w =
    hull-within (λ p. Holds a p × Holds c (int_abs p)) (λ p. Holds d p × Holds f (int_abs p)) (back_abs_of a c) (back_abs_of d f)
    (λ p h. (holds-within p a d u h.0, holds-within (int_abs p) c f w h.1)) (back_abs-hull a c) (back_abs-hull d f)

-- what f makes of one number and of the members of b, for the three functions of two members
pub takes-within : (f : ℤ → ℤ → ℤ) (b c d e : Span) (p : ℤ) → IsWithin b d → IsWithin c e → TakesInto f b c p → TakesInto f d e p
takes-within f b c d e p v w h = (h.0, holds-within h.0 b d v h.1, holds-within (f p h.0) c e w h.2)

either : (x y : ℤ) → (x ≤ℤ y) ⊎ (y ≤ℤ x)
either x y = grind (arith, ints)

min-takes : (b c : Span) (p : ℤ) → IsProper b → Meets (min_of (point p) b) c → TakesInto int_min b c p
min-takes b c p good h = elim (either p h.0) [
  | inl l ↦ (b.hi, record { low = good; high = omega (arith, ints) }, record { low = omega (arith, ints, clamps, l, h.1, h.2); high = omega (arith, ints, clamps, l, h.1, h.2) })
  | inr l ↦ at h.0 l h.1 h.2
]
  where
    at : (r : ℤ) → r ≤ℤ p → Holds (min_of (point p) b) r → Holds c r → TakesInto int_min b c p
    at r l m k = (int_max r b.lo, record { low = omega (arith, ints, clamps); high = omega (arith, ints, clamps, m, good) }, record { low = omega (arith, ints, clamps, l, m, k); high = omega (arith, ints, clamps, l, m, k) })

takes-min : (b c : Span) (p : ℤ) → TakesInto int_min b c p → Meets (min_of (point p) b) c
takes-min b c p h = (int_min p h.0, record { low = omega (arith, ints, clamps, h.1); high = omega (arith, ints, clamps, h.1) }, h.2)

max-takes : (b c : Span) (p : ℤ) → IsProper b → Meets (max_of (point p) b) c → TakesInto int_max b c p
max-takes b c p good h = elim (either h.0 p) [
  | inl l ↦ (b.lo, record { low = omega (arith, ints); high = good }, record { low = omega (arith, ints, clamps, l, h.1, h.2); high = omega (arith, ints, clamps, l, h.1, h.2) })
  | inr l ↦ at h.0 l h.1 h.2
]
  where
    at : (r : ℤ) → p ≤ℤ r → Holds (max_of (point p) b) r → Holds c r → TakesInto int_max b c p
    at r l m k = (int_min r b.hi, record { low = omega (arith, ints, clamps, m, good); high = omega (arith, ints, clamps) }, record { low = omega (arith, ints, clamps, l, m, k); high = omega (arith, ints, clamps, l, m, k) })

takes-max : (b c : Span) (p : ℤ) → TakesInto int_max b c p → Meets (max_of (point p) b) c
takes-max b c p h = (int_max p h.0, record { low = omega (arith, ints, clamps, h.1); high = omega (arith, ints, clamps, h.1) }, h.2)

add-takes : (b c : Span) (p : ℤ) → Meets (add_of (point p) b) c → TakesInto (λ p q. p +ℤ q) b c p
add-takes b c p h =
    let e : p +ℤ (h.0 -ℤ p) ≡ h.0 = omega (arith, ints) in
    (h.0 -ℤ p, record { low = omega (arith, ints, h.1); high = omega (arith, ints, h.1) }, subst (Holds c) (sym e) h.2)

takes-add : (b c : Span) (p : ℤ) → TakesInto (λ p q. p +ℤ q) b c p → Meets (add_of (point p) b) c
takes-add b c p h = (p +ℤ h.0, record { low = omega (arith, ints, h.1); high = omega (arith, ints, h.1) }, h.2)

pub back_min-hull : (a b c : Span) → IsProper b → IsHullOf (λ p. Holds a p × TakesInto int_min b c p) (back_min_of a b c)
unfolding back_min_of
back_min-hull a b c good = by-test (TakesInto int_min b c) (λ p. meets (min_of (point p) b) c) a (λ p h. min-takes b c p good (meets-true (min_of (point p) b) c h)) (λ p h. true-meets (min_of (point p) b) c (takes-min b c p h))

pub back_max-hull : (a b c : Span) → IsProper b → IsHullOf (λ p. Holds a p × TakesInto int_max b c p) (back_max_of a b c)
unfolding back_max_of
back_max-hull a b c good = by-test (TakesInto int_max b c) (λ p. meets (max_of (point p) b) c) a (λ p h. max-takes b c p good (meets-true (max_of (point p) b) c h)) (λ p h. true-meets (max_of (point p) b) c (takes-max b c p h))

pub back_add-hull : (a b c : Span) → IsHullOf (λ p. Holds a p × TakesInto (λ p q. p +ℤ q) b c p) (back_add_of a b c)
unfolding back_add_of
back_add-hull a b c = by-test (TakesInto (λ p q. p +ℤ q) b c) (λ p. meets (add_of (point p) b) c) a (λ p h. add-takes b c p (meets-true (add_of (point p) b) c h)) (λ p h. true-meets (add_of (point p) b) c (takes-add b c p h))

pub back_min-holds : (a b c : Span) (p q : ℤ) → Holds a p → Holds b q → Holds c (int_min p q) → IsWithinOption (Some (point p)) (back_min_of a b c)
back_min-holds a b c p q h k l = member-holds (λ p. Holds a p × TakesInto int_min b c p) (back_min_of a b c) p (h, (q, k, l)) (back_min-hull a b c (omega (arith, ints, k)))

pub back_max-holds : (a b c : Span) (p q : ℤ) → Holds a p → Holds b q → Holds c (int_max p q) → IsWithinOption (Some (point p)) (back_max_of a b c)
back_max-holds a b c p q h k l = member-holds (λ p. Holds a p × TakesInto int_max b c p) (back_max_of a b c) p (h, (q, k, l)) (back_max-hull a b c (omega (arith, ints, k)))

pub back_add-holds : (a b c : Span) (p q : ℤ) → Holds a p → Holds b q → Holds c (p +ℤ q) → IsWithinOption (Some (point p)) (back_add_of a b c)
back_add-holds a b c p q h k l = member-holds (λ p. Holds a p × TakesInto (λ p q. p +ℤ q) b c p) (back_add_of a b c) p (h, (q, k, l)) (back_add-hull a b c)

takes-mono : (g : ℤ → ℤ → ℤ) (a b c d e f : Span) (x y : Option Span) → IsWithin a d → IsWithin b e → IsWithin c f → IsHullOf (λ p. Holds a p × TakesInto g b c p) x → IsHullOf (λ p. Holds d p × TakesInto g e f p) y → IsWithinOption x y
takes-mono g a b c d e f x y u v w =
    hull-within (λ p. Holds a p × TakesInto g b c p) (λ p. Holds d p × TakesInto g e f p) x y (λ p h. (holds-within p a d u h.0, takes-within g b c e f p v w h.1))

pub back_min-mono : (a b c d e f : Span) → IsProper b → IsWithin a d → IsWithin b e → IsWithin c f → IsWithinOption (back_min_of a b c) (back_min_of d e f)
back_min-mono a b c d e f good u v w = takes-mono int_min a b c d e f (back_min_of a b c) (back_min_of d e f) u v w (back_min-hull a b c good) (back_min-hull d e f (omega (arith, ints, good, v)))

pub back_max-mono : (a b c d e f : Span) → IsProper b → IsWithin a d → IsWithin b e → IsWithin c f → IsWithinOption (back_max_of a b c) (back_max_of d e f)
back_max-mono a b c d e f good u v w = takes-mono int_max a b c d e f (back_max_of a b c) (back_max_of d e f) u v w (back_max-hull a b c good) (back_max-hull d e f (omega (arith, ints, good, v)))

pub back_add-mono : (a b c d e f : Span) → IsWithin a d → IsWithin b e → IsWithin c f → IsWithinOption (back_add_of a b c) (back_add_of d e f)
back_add-mono a b c d e f u v w = takes-mono (λ p q. p +ℤ q) a b c d e f (back_add_of a b c) (back_add_of d e f) u v w (back_add-hull a b c) (back_add-hull d e f)
