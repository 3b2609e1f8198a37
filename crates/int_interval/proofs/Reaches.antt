-- What the backward calls' conditions come to: linear inequalities on the member.
use Rattle.std.proofs.Common.{◌≡◌, ◌⊎◌, ◌↔◌, inl, inr, Option, None, ℤ, pos, ◌+ℤ◌, ◌-ℤ◌, ◌*ℤ◌, ◌≤ℤ◌, ◌<ℤ◌, arith, ap, sym, subst}
use Rattle.std.specs.Int.{int_min, int_max}
use Rattle.std.proofs.lemmas.Int.{ints, clamps}
use Rattle.tube_spec.specs.Span.{Span, IsProper, Holds, scale_of}
use Rattle.tube_spec.specs.Hull.{IsHullOf, join_option}
use Rattle.int_interval.specs.Inverse.{Meets, TakesInto, IsSetOf}
use Rattle.int_interval.proofs.Hulls.{hull-same}
use Rattle.int_interval.proofs.Sets.{hull-join, set-hull, set-same}
use Rattle.int_interval.proofs.Products.{product-mono, product-anti}

-- where a wider property has no member, a narrower one has none
pub none-set : (P Q : ℤ → Type 0) (o : Option Span) → o ≡ None → ((p : ℤ) → Q p → P p) → IsSetOf P None → IsSetOf Q o
unfolding IsSetOf
none-set P Q o e f h = subst (IsSetOf Q) (sym e) (λ p q. h p (f p q))

-- the hull of two sets
pub join-sets : (P Q R : ℤ → Type 0) (x y z : Option Span) → z ≡ join_option x y → IsSetOf P x → IsSetOf Q y → ((p : ℤ) → P p → R p) → ((p : ℤ) → Q p → R p) → ((p : ℤ) → R p → P p ⊎ Q p) → IsHullOf R z
join-sets P Q R x y z e h k f g split =
    subst (IsHullOf R) (sym e) (hull-same (λ p. P p ⊎ Q p) R (join_option x y) both split (hull-join P Q x y (set-hull P x h) (set-hull Q y k)))
  where
    both : (p : ℤ) → P p ⊎ Q p → R p
    both p (inl a) = f p a
    both p (inr b) = g p b

pub set-to-hull : (P Q : ℤ → Type 0) (x : Option Span) → IsSetOf P x → ((p : ℤ) → P p → Q p) → ((p : ℤ) → Q p → P p) → IsHullOf Q x
set-to-hull P Q x h f g = set-hull Q x (set-same P Q x f g h)

-- sums
pub sum-takes : (b c : Span) (p : ℤ) → IsProper b → IsProper c → (c.lo -ℤ b.hi) ≤ℤ p → p ≤ℤ (c.hi -ℤ b.lo) → TakesInto (λ p q. p +ℤ q) b c p
sum-takes b c p good fine l h =
    (int_max b.lo (c.lo -ℤ p), record { low = omega (arith, ints, clamps); high = omega (arith, ints, clamps, good, l) }, record { low = omega (arith, ints, clamps, l, h); high = omega (arith, ints, clamps, h, fine) })

pub takes-sum : (b c : Span) (p : ℤ) → TakesInto (λ p q. p +ℤ q) b c p → (c.lo -ℤ b.hi) ≤ℤ p × p ≤ℤ (c.hi -ℤ b.lo)
takes-sum b c p h = (omega (arith, ints, h.1, h.2), omega (arith, ints, h.1, h.2))

-- lesser numbers
pub min-from : (b c : Span) (p : ℤ) → IsProper b → IsProper c → c.lo ≤ℤ b.hi → b.lo ≤ℤ c.hi → c.lo ≤ℤ p → TakesInto int_min b c p
min-from b c p good fine l h k =
    (int_max b.lo c.lo, record { low = omega (arith, ints, clamps); high = omega (arith, ints, clamps, good, l) }, record { low = omega (arith, ints, clamps, k); high = omega (arith, ints, clamps, h, fine) })

pub min-within : (b c : Span) (p : ℤ) → IsProper b → c.hi ≤ℤ b.lo → Holds c p → TakesInto int_min b c p
min-within b c p good l h = (b.lo, record { low = omega (arith, ints); high = good }, record { low = omega (arith, ints, clamps, l, h); high = omega (arith, ints, clamps, l, h) })

pub takes-from : (b c : Span) (p : ℤ) → TakesInto int_min b c p → c.lo ≤ℤ p × c.lo ≤ℤ b.hi
takes-from b c p h = (omega (arith, ints, clamps, h.1, h.2), omega (arith, ints, clamps, h.1, h.2))

pub takes-below : (b c : Span) (p : ℤ) → c.hi <ℤ b.lo → TakesInto int_min b c p → p ≤ℤ c.hi
takes-below b c p l h = omega (arith, ints, clamps, l, h.1, h.2)

-- greater numbers
pub max-to : (b c : Span) (p : ℤ) → IsProper b → IsProper c → b.lo ≤ℤ c.hi → c.lo ≤ℤ b.hi → p ≤ℤ c.hi → TakesInto int_max b c p
max-to b c p good fine l h k =
    (int_min b.hi c.hi, record { low = omega (arith, ints, clamps, good, l); high = omega (arith, ints, clamps) }, record { low = omega (arith, ints, clamps, h, fine); high = omega (arith, ints, clamps, k) })

pub max-within : (b c : Span) (p : ℤ) → IsProper b → b.hi ≤ℤ c.lo → Holds c p → TakesInto int_max b c p
max-within b c p good l h = (b.hi, record { low = good; high = omega (arith, ints) }, record { low = omega (arith, ints, clamps, l, h); high = omega (arith, ints, clamps, l, h) })

pub takes-to : (b c : Span) (p : ℤ) → TakesInto int_max b c p → p ≤ℤ c.hi × b.lo ≤ℤ c.hi
takes-to b c p h = (omega (arith, ints, clamps, h.1, h.2), omega (arith, ints, clamps, h.1, h.2))

pub takes-above : (b c : Span) (p : ℤ) → b.hi <ℤ c.lo → TakesInto int_max b c p → c.lo ≤ℤ p
takes-above b c p l h = omega (arith, ints, clamps, l, h.1, h.2)

-- two spans share a number where each begins before the other ends
pub meets-from : (a c : Span) → IsProper a → IsProper c → a.lo ≤ℤ c.hi → c.lo ≤ℤ a.hi → Meets a c
meets-from a c good fine l h =
    (int_max a.lo c.lo, record { low = omega (arith, ints, clamps); high = omega (arith, ints, clamps, good, h) }, record { low = omega (arith, ints, clamps); high = omega (arith, ints, clamps, fine, l) })

-- products of a number from 0 on, and of one up to 0
pub reaches-positive : (b c : Span) (p : ℤ) → IsProper b → IsProper c → pos 0 ≤ℤ p → (p *ℤ b.lo) ≤ℤ c.hi × c.lo ≤ℤ (p *ℤ b.hi) → Meets (scale_of p b) c
reaches-positive b c p good fine s h = let o = product-mono p b.lo b.hi s good in meets-from (scale_of p b) c (omega (arith, ints, clamps)) fine (omega (arith, ints, clamps, h.0)) (omega (arith, ints, clamps, h.1))

pub positive-reaches : (b c : Span) (p : ℤ) → IsProper b → pos 0 ≤ℤ p → Meets (scale_of p b) c → (p *ℤ b.lo) ≤ℤ c.hi × c.lo ≤ℤ (p *ℤ b.hi)
positive-reaches b c p good s h = let o = product-mono p b.lo b.hi s good in (omega (arith, ints, clamps, o, h.1, h.2), omega (arith, ints, clamps, o, h.1, h.2))

pub reaches-negative : (b c : Span) (p : ℤ) → IsProper b → IsProper c → p ≤ℤ pos 0 → (p *ℤ b.hi) ≤ℤ c.hi × c.lo ≤ℤ (p *ℤ b.lo) → Meets (scale_of p b) c
reaches-negative b c p good fine s h = let o = product-anti p b.lo b.hi s good in meets-from (scale_of p b) c (omega (arith, ints, clamps)) fine (omega (arith, ints, clamps, h.0)) (omega (arith, ints, clamps, h.1))

pub negative-reaches : (b c : Span) (p : ℤ) → IsProper b → p ≤ℤ pos 0 → Meets (scale_of p b) c → (p *ℤ b.hi) ≤ℤ c.hi × c.lo ≤ℤ (p *ℤ b.lo)
negative-reaches b c p good s h = let o = product-anti p b.lo b.hi s good in (omega (arith, ints, clamps, o, h.1, h.2), omega (arith, ints, clamps, o, h.1, h.2))

-- the same inequality, of equal numbers
pub at-most-same : (p k m j n : ℤ) → j ≡ k → n ≡ m → (p *ℤ j) ≤ℤ n ↔ (p *ℤ k) ≤ℤ m
at-most-same p k m j n e d = let f = ap (λ x. p *ℤ x) e in (λ h. omega (arith, ints, h, d, f), λ h. omega (arith, ints, h, d, f))

pub at-least-same : (p k m j n : ℤ) → j ≡ k → n ≡ m → n ≤ℤ (p *ℤ j) ↔ m ≤ℤ (p *ℤ k)
at-least-same p k m j n e d = let f = ap (λ x. p *ℤ x) e in (λ h. omega (arith, ints, h, d, f), λ h. omega (arith, ints, h, d, f))
