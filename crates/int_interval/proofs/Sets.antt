-- Sets of numbers that are spans, and hulls of their unions.
use Rattle.std.proofs.Common.{◌≡◌, ◌⊎◌, ◌<◌, inl, inr, ℕ, zero, suc, Bool, true, false, cond, IsTrue, Option, Some, None, ℤ, pos, negsuc, ◌+ℤ◌, ◌-ℤ◌, ◌≤ℤ◌, int_le, arith, refl, sym, subst}
use Rattle.std.proofs.lemmas.Int.{ints, clamps}
use Rattle.tube_spec.specs.Span.{Span, IsProper, Holds, point, meet_of, join_of, natural}
use Rattle.tube_spec.specs.Hull.{proper, join_option, hull_below, IsHullOf}
use Rattle.int_interval.specs.Inverse.{IsSetOf, hull_where}
use Rattle.int_interval.proofs.Hulls.{hull-same, holds-lo, holds-hi}
use Rattle.int_interval.proofs.Images.{min-pick, max-pick}

pub set-hull : (P : ℤ → Type 0) (x : Option Span) → IsSetOf P x → IsHullOf P x
unfolding IsSetOf
set-hull P None h = h
set-hull P (Some s) h = ((h.1 s.lo).0 (holds-lo s h.0), (h.1 s.hi).0 (holds-hi s h.0), λ p q. (h.1 p).1 q)

pub set-same : (P Q : ℤ → Type 0) (x : Option Span) → ((p : ℤ) → P p → Q p) → ((p : ℤ) → Q p → P p) → IsSetOf P x → IsSetOf Q x
unfolding IsSetOf
set-same P Q None f g h = λ p q. h p (g p q)
set-same P Q (Some s) f g h = (h.0, λ p. (λ k. f p ((h.1 p).0 k), λ k. (h.1 p).1 (g p k)))

-- of the members of a set, those with a further property
pub set-then : (P Q : ℤ → Type 0) (s : Span) (x : Option Span) → IsSetOf P (Some s) → IsSetOf (λ p. Holds s p × Q p) x → IsSetOf (λ p. P p × Q p) x
unfolding IsSetOf
set-then P Q s x h k = set-same (λ p. Holds s p × Q p) (λ p. P p × Q p) x (λ p e. ((h.1 p).0 e.0, e.1)) (λ p e. ((h.1 p).1 e.0, e.1)) k

pub set-none : (P Q : ℤ → Type 0) → IsSetOf P None → IsSetOf (λ p. P p × Q p) None
unfolding IsSetOf
set-none P Q h p e = h p e.0

pub set-all : (P : ℤ → Type 0) (s : Span) → IsProper s → ((p : ℤ) → Holds s p → P p) → IsSetOf (λ p. Holds s p × P p) (Some s)
unfolding IsSetOf
set-all P s h f = (h, λ p. (λ k. (k, f p k), λ k. k.0))

pub set-empty : (P : ℤ → Type 0) → ((p : ℤ) → P p → ⊥) → IsSetOf P None
unfolding IsSetOf
set-empty P h = h

pub set-from : (P : ℤ → Type 0) (s : Span) → IsProper s → ((p : ℤ) → Holds s p → P p) → ((p : ℤ) → P p → Holds s p) → IsSetOf P (Some s)
unfolding IsSetOf
set-from P s h f g = (h, λ p. (f p, g p))

-- the members of both
pub set-meet : (a b : Span) → IsSetOf (λ p. Holds a p × Holds b p) (proper (meet_of a b))
unfolding IsSetOf
set-meet a b = at (int_le (meet_of a b).lo (meet_of a b).hi) refl
  where
    at : (t : Bool) → int_le (meet_of a b).lo (meet_of a b).hi ≡ t → IsSetOf (λ p. Holds a p × Holds b p) (cond t (Some (meet_of a b)) None)
    at true e = (
      grind (arith, ints, clamps, e),
      λ p. (
        λ h. (record { low = omega (arith, ints, clamps, h); high = omega (arith, ints, clamps, h) }, record { low = omega (arith, ints, clamps, h); high = omega (arith, ints, clamps, h) }),
        λ h. record { low = omega (arith, ints, clamps, h.0, h.1); high = omega (arith, ints, clamps, h.0, h.1) },
      ),
    )
    at false e = λ p h. absurd (grind (arith, ints, clamps, e, h))

-- the hull of a union
pub hull-join : (P Q : ℤ → Type 0) (x y : Option Span) → IsHullOf P x → IsHullOf Q y → IsHullOf (λ p. P p ⊎ Q p) (join_option x y)
hull-join P Q None y h k = hull-same Q (λ p. P p ⊎ Q p) y (λ p e. inr e) (other P Q h) k
  where
    other : (P Q : ℤ → Type 0) → ((p : ℤ) → P p → ⊥) → (p : ℤ) → P p ⊎ Q p → Q p
    other P Q h p (inl e) = absurd (h p e)
    other P Q h p (inr e) = e
hull-join P Q (Some a) None h k = hull-same P (λ p. P p ⊎ Q p) (Some a) (λ p e. inl e) (other P Q k) h
  where
    other : (P Q : ℤ → Type 0) → ((p : ℤ) → Q p → ⊥) → (p : ℤ) → P p ⊎ Q p → P p
    other P Q k p (inl e) = e
    other P Q k p (inr e) = absurd (k p e)
hull-join P Q (Some a) (Some b) h k =
    let R : ℤ → Type 0 = λ p. P p ⊎ Q p in
    (min-pick R a.lo b.lo (inl h.0) (inr k.0), max-pick R a.hi b.hi (inl h.1) (inr k.1), all)
  where
    all : (p : ℤ) → P p ⊎ Q p → Holds (join_of a b) p
    all p (inl e) = let i = h.2 p e in record { low = omega (arith, ints, clamps, i); high = omega (arith, ints, clamps, i) }
    all p (inr e) = let i = k.2 p e in record { low = omega (arith, ints, clamps, i); high = omega (arith, ints, clamps, i) }

-- the hull of those that pass a test
found : (test : ℤ → Bool) (v : ℤ) → IsHullOf (λ p. (p ≡ v) × IsTrue (test p)) (cond (test v) (Some (point v)) None)
found test v = at (test v) refl
  where
    at : (b : Bool) → test v ≡ b → IsHullOf (λ p. (p ≡ v) × IsTrue (test p)) (cond b (Some (point v)) None)
    at true e = ((refl, e), (refl, e), λ p h. subst (Holds (point v)) (sym h.0) (record { low = omega (arith, ints); high = omega (arith, ints) }))
    at false e = λ p h. let t : test v ≡ true = subst (λ (x : ℤ). test x ≡ true) h.0 h.1 in absurd (cc)

below : (test : ℤ → Bool) (start : ℤ) (n : ℕ) → IsHullOf (λ p. ((k : ℕ) × (k < n) × (p ≡ start +ℤ pos k)) × IsTrue (test p)) (hull_below (λ k. cond (test (start +ℤ pos k)) (Some (point (start +ℤ pos k))) None) n)
below test start zero = λ p h. let l = h.0.1 in absurd (omega (arith, l))
below test start (suc n) =
    hull-same (λ p. (((k : ℕ) × (k < n) × (p ≡ start +ℤ pos k)) × IsTrue (test p)) ⊎ ((p ≡ start +ℤ pos n) × IsTrue (test p))) (λ p. ((k : ℕ) × (k < suc n) × (p ≡ start +ℤ pos k)) × IsTrue (test p))
    (hull_below (λ k. cond (test (start +ℤ pos k)) (Some (point (start +ℤ pos k))) None) (suc n)) up down
    (hull-join (λ p. ((k : ℕ) × (k < n) × (p ≡ start +ℤ pos k)) × IsTrue (test p)) (λ p. (p ≡ start +ℤ pos n) × IsTrue (test p)) (hull_below (λ k. cond (test (start +ℤ pos k)) (Some (point (start +ℤ pos k))) None) n) (cond (test (start +ℤ pos n)) (Some (point (start +ℤ pos n))) None)
    (below test start n) (found test (start +ℤ pos n)))
  where
    up : (p : ℤ) → (((k : ℕ) × (k < n) × (p ≡ start +ℤ pos k)) × IsTrue (test p)) ⊎ ((p ≡ start +ℤ pos n) × IsTrue (test p)) → ((k : ℕ) × (k < suc n) × (p ≡ start +ℤ pos k)) × IsTrue (test p)
    up p (inl h) = let l = h.0.1 in ((h.0.0, omega (arith, l), h.0.2), h.1)
    up p (inr h) = ((n, omega arith, h.0), h.1)

    split : (k : ℕ) → k < suc n → (k < n) ⊎ (k ≡ n)
    split k l = grind arith

    down : (p : ℤ) → ((k : ℕ) × (k < suc n) × (p ≡ start +ℤ pos k)) × IsTrue (test p) → (((k : ℕ) × (k < n) × (p ≡ start +ℤ pos k)) × IsTrue (test p)) ⊎ ((p ≡ start +ℤ pos n) × IsTrue (test p))
    down p h = elim (split h.0.0 h.0.1) [
      | inl l ↦ inl ((h.0.0, l, h.0.2), h.1)
      | inr e ↦ inr (subst (λ (k : ℕ). p ≡ start +ℤ pos k) e h.0.2, h.1)
    ]

natural_is : (x : ℤ) (k : ℕ) → pos k ≤ℤ x → pos (natural x) ≡ x
natural_is (pos n) k h = refl
natural_is (negsuc n) k h = absurd (omega (arith, ints, h))

natural-le : (x : ℤ) (k : ℕ) → k < natural x → pos (suc k) ≤ℤ x
natural-le (pos n) k h = omega (arith, ints, h)
natural-le (negsuc n) k h = absurd (omega (arith, h))

index : (z : ℤ) → pos 0 ≤ℤ z → (k : ℕ) × (z ≡ pos k)
index (pos n) h = (n, refl)
index (negsuc n) h = absurd (omega (arith, ints, h))

pub hull_where-is : (test : ℤ → Bool) (a : Span) → IsHullOf (λ p. Holds a p × IsTrue (test p)) (hull_where test a)
unfolding hull_where
hull_where-is test a =
    hull-same (λ p. ((k : ℕ) × (k < natural (a.hi +ℤ pos 1 -ℤ a.lo)) × (p ≡ a.lo +ℤ pos k)) × IsTrue (test p)) (λ p. Holds a p × IsTrue (test p)) (hull_below (λ k. cond (test (a.lo +ℤ pos k)) (Some (point (a.lo +ℤ pos k))) None) (natural (a.hi +ℤ pos 1 -ℤ a.lo)))
    up down (below test a.lo (natural (a.hi +ℤ pos 1 -ℤ a.lo)))
  where
    up : (p : ℤ) → ((k : ℕ) × (k < natural (a.hi +ℤ pos 1 -ℤ a.lo)) × (p ≡ a.lo +ℤ pos k)) × IsTrue (test p) → Holds a p × IsTrue (test p)
    up p h =
        let k = h.0.0 in let e = h.0.2 in
        let l = natural-le (a.hi +ℤ pos 1 -ℤ a.lo) k h.0.1 in
        (record { low = omega (arith, ints, e); high = omega (arith, ints, e, l) }, h.1)

    down : (p : ℤ) → Holds a p × IsTrue (test p) → ((k : ℕ) × (k < natural (a.hi +ℤ pos 1 -ℤ a.lo)) × (p ≡ a.lo +ℤ pos k)) × IsTrue (test p)
    down p h =
        let i = index (p -ℤ a.lo) (omega (arith, ints, h.0)) in
        let e = i.1 in
        let n = natural_is (a.hi +ℤ pos 1 -ℤ a.lo) i.0 (omega (arith, ints, h.0, e)) in
        ((i.0, omega (arith, ints, h.0, e, n), omega (arith, ints, e)), h.1)
