-- What the judgement of a box says of its pairs.
use Rattle.std.proofs.Common.{◌≡◌, ℕ, zero, suc, ◌+◌, ◌*◌, ◌-◌, ◌<◌, ◌≤◌, Bool, true, false, cond, not, ◌&&◌, ◌||◌, List, length, nat_lt, nat_le, ℤ, pos, negsuc, ◌-ℤ◌, neg_ℤ, ◌≤ℤ◌, arith, refl, sym, subst, ◌⊎◌, inl, inr}
use Rattle.std.proofs.lemmas.Int.{ints, clamps}
use Rattle.std.specs.Int.{int_max}
use Rattle.std.proofs.Math.Nat.{mul-le-mul_left}
use Rattle.std.proofs.lemmas.Bool.Decides.{nat_tests}
use Rattle.tube_spec.specs.Span.{Span, natural, sub_of, IsBounded, IsProper}
use Rattle.tube_spec.specs.Box.{cell_at, IsBox, AreBounded}
use Rattle.hull_tree.specs.Plane.{Plane, is_possible, is_valid, least_abs, change}
use Rattle.tube_names.specs.Nearness.{is_near}
use Rattle.hull_tree.specs.declared.hulls.Bounds.{Bounds}
use Rattle.hull_tree.specs.Judging.{IsSmall, bounds_of, bounds_over, both, TickBox, IsInBox, least_gap, greatest_gap, judged, is_out, is_within, Says, over_a, over_b}
use Rattle.tube_names.specs.declared.queries.Norm.{Norm}
use Rattle.tube_names.specs.declared.queries.Norm.TheVariants.{Maximum, Disc}
use Rattle.hull_tree.specs.declared.tree.Judged.TheVariants.{Out, Within, Mixed}

-- an interval's bounds lie between those of a range
pub record IsAmong (s : Span) (p : Bounds) : Type 0 where
  pub least_lower : p.least_lower ≤ℤ s.lo
  pub greatest_lower : s.lo ≤ℤ p.greatest_lower
  pub least_upper : p.least_upper ≤ℤ s.hi
  pub greatest_upper : s.hi ≤ℤ p.greatest_upper

among-self : (s : Span) → IsAmong s (bounds_of s)
among-self s = record { least_lower = omega (arith, ints); greatest_lower = omega (arith, ints); least_upper = omega (arith, ints); greatest_upper = omega (arith, ints) }

among-left : (s : Span) (p q : Bounds) → IsAmong s p → IsAmong s (both p q)
among-left s p q h = record { least_lower = omega (arith, ints, clamps, h); greatest_lower = omega (arith, ints, clamps, h); least_upper = omega (arith, ints, clamps, h); greatest_upper = omega (arith, ints, clamps, h) }

among-right : (s : Span) (p q : Bounds) → IsAmong s q → IsAmong s (both p q)
among-right s p q h = record { least_lower = omega (arith, ints, clamps, h); greatest_lower = omega (arith, ints, clamps, h); least_upper = omega (arith, ints, clamps, h); greatest_upper = omega (arith, ints, clamps, h) }

split-suc : (k n : ℕ) → k ≤ suc n → (k ≤ n) ⊎ (k ≡ suc n)
split-suc k n h = grind arith

pub among-over : (xs : List Span) (a n k : ℕ) → k ≤ n → IsAmong (cell_at xs (a + k)) (bounds_over xs a n)
among-over xs a zero k h = let e : a + k ≡ a = omega arith in subst (λ (j : ℕ). IsAmong (cell_at xs j) (bounds_of (cell_at xs a))) (sym e) (among-self (cell_at xs a))
among-over xs a (suc n) k h =
    elim (split-suc k n h) [
      | inl small ↦ among-left _ _ _ (among-over xs a n k small)
      | inr same ↦ subst (λ (j : ℕ). IsAmong (cell_at xs (a + j)) (bounds_over xs a (suc n))) (sym same) (among-right _ (bounds_over xs a n) _ (among-self (cell_at xs (a + suc n))))
    ]

pub among-a : (xs : List Span) (x : TickBox) (a b : ℕ) → IsInBox x a b → IsAmong (cell_at xs a) (over_a xs x)
among-a xs x a b h = let e : x.first_a + (a - x.first_a) ≡ a = omega arith in subst (λ (j : ℕ). IsAmong (cell_at xs j) (over_a xs x)) e (among-over xs x.first_a (x.last_a - x.first_a) (a - x.first_a) (omega arith))

pub among-b : (xs : List Span) (x : TickBox) (a b : ℕ) → IsInBox x a b → IsAmong (cell_at xs b) (over_b xs x)
among-b xs x a b h = let e : x.first_b + (b - x.first_b) ≡ b = omega arith in subst (λ (j : ℕ). IsAmong (cell_at xs j) (over_b xs x)) e (among-over xs x.first_b (x.last_b - x.first_b) (b - x.first_b) (omega arith))

pub natural-mono : (x y : ℤ) → x ≤ℤ y → natural x ≤ natural y
natural-mono (pos a) (pos b) h = omega (arith, ints, h)
natural-mono (negsuc a) y h = omega arith
natural-mono (pos a) (negsuc b) h = absurd (omega (arith, ints, h))

gap-below : (p q : Bounds) (s t : Span) → IsAmong s p → IsAmong t q → least_gap p q ≤ least_abs (sub_of t s)
gap-below p q s t h k = natural-mono (int_max (p.least_lower -ℤ q.greatest_upper) (q.least_lower -ℤ p.greatest_upper)) (int_max (t.lo -ℤ s.hi) (neg_ℤ (t.hi -ℤ s.lo))) (omega (arith, ints, clamps, h, k))

gap-above : (p q : Bounds) (s t : Span) → IsAmong s p → IsAmong t q → least_abs (sub_of t s) ≤ greatest_gap p q
gap-above p q s t h k = natural-mono (int_max (t.lo -ℤ s.hi) (neg_ℤ (t.hi -ℤ s.lo))) (int_max (p.greatest_lower -ℤ q.least_upper) (q.greatest_lower -ℤ p.least_upper)) (omega (arith, ints, clamps, h, k))

-- the least absolute value of a change lies between both gaps
pub least-above : (xs : List Span) (x : TickBox) (a b : ℕ) → IsInBox x a b → least_gap (over_a xs x) (over_b xs x) ≤ least_abs (change xs a b)
least-above xs x a b h =
    let p = among-a xs x a b h in
    let q = among-b xs x a b h in
    gap-below (over_a xs x) (over_b xs x) (cell_at xs a) (cell_at xs b) p q

pub least-below : (xs : List Span) (x : TickBox) (a b : ℕ) → IsInBox x a b → least_abs (change xs a b) ≤ greatest_gap (over_a xs x) (over_b xs x)
least-below xs x a b h =
    let p = among-a xs x a b h in
    let q = among-b xs x a b h in
    gap-above (over_a xs x) (over_b xs x) (cell_at xs a) (cell_at xs b) p q

square-mono : (a b : ℕ) → a ≤ b → a * a ≤ b * b
square-mono a b h = omega (arith, mul-le-mul_left a h, mul-le-mul_left b h)

pub near-mono : (n : Norm) (r dx dy ex ey : ℕ) → dx ≤ ex → dy ≤ ey → is_near n r ex ey ≡ true → is_near n r dx dy ≡ true
near-mono Maximum r dx dy ex ey h k near = grind (arith, nat_tests)
near-mono Disc r dx dy ex ey h k near =
    let p = square-mono dx ex h in
    let q = square-mono dy ey k in
    grind (arith, nat_tests)

-- what the three tests of a box of one pair are
pub both-false : (x y : Bool) → x ≡ false → (x && y) ≡ false
both-false true y e = absurd (cc)
both-false false y e = refl

pub right-false : (x y : Bool) → y ≡ false → (x && y) ≡ false
right-false true y e = e
right-false false y e = refl

far : (n : Norm) (r dx dy ex ey : ℕ) → dx ≤ ex → dy ≤ ey → is_near n r dx dy ≡ false → is_near n r ex ey ≡ false
far n r dx dy ex ey h k miss = at (is_near n r ex ey) refl
  where
    at : (z : Bool) → is_near n r ex ey ≡ z → z ≡ false
    at true e = let f = near-mono n r dx dy ex ey h k e in absurd (cc)
    at false e = refl

out-says : (p : Plane) (x : TickBox) → is_out p x ≡ true → Says (is_possible p) x Out
out-says p x e a b h = at (nat_lt x.last_b (x.first_a + p.gap)) (is_near p.norm p.radius _ _) refl refl e
  where
    at : (late near : Bool) → nat_lt x.last_b (x.first_a + p.gap) ≡ late
        → is_near p.norm p.radius (least_gap (over_a p.xs x) (over_b p.xs x)) (least_gap (over_a p.ys x) (over_b p.ys x)) ≡ near
        → (late || not near) ≡ true → is_possible p a b ≡ false
    at true near is_late is_near_so t =
        let early : nat_le (a + p.gap) b ≡ false = grind (arith, nat_tests) in
        both-false _ _ (right-false _ _ early)
    at false false is_late is_near_so t =
        right-false _ _ (far p.norm p.radius _ _ _ _ (least-above p.xs x a b h) (least-above p.ys x a b h) is_near_so)
    at false true is_late is_near_so t = absurd (cc)

within-says : (p : Plane) (x : TickBox) → x.last_b < length p.xs → is_within p x ≡ true → Says (is_possible p) x Within
within-says p x len e a b h = at (nat_le (x.last_a + p.gap) x.first_b) (is_near p.norm p.radius _ _) refl refl e
  where
    at : (early near : Bool) → nat_le (x.last_a + p.gap) x.first_b ≡ early
        → is_near p.norm p.radius (greatest_gap (over_a p.xs x) (over_b p.xs x)) (greatest_gap (over_a p.ys x) (over_b p.ys x)) ≡ near
        → (early && near) ≡ true → is_possible p a b ≡ true
    at true true is_early is_near_so t =
        let valid : is_valid p a b ≡ true = grind (arith, nat_tests) in
        let close = near-mono p.norm p.radius _ _ _ _ (least-below p.xs x a b h) (least-below p.ys x a b h) is_near_so in
        rw (valid, close)
    at true false is_early is_near_so t = absurd (cc)
    at false near is_early is_near_so t = absurd (cc)

point-same : (xs : List Span) (a b c d : ℕ) → a ≡ c → b ≡ d → least_gap (bounds_over xs a (c - a)) (bounds_over xs b (d - b)) ≡ greatest_gap (bounds_over xs a (c - a)) (bounds_over xs b (d - b))
point-same xs a b c d e f =
    let za : c - a ≡ 0 = omega arith in
    let zb : d - b ≡ 0 = omega arith in
    rw (za, zb)

mixed-says : (p : Plane) (x : TickBox) → is_out p x ≡ false → is_within p x ≡ false → Says (is_possible p) x Mixed
mixed-says p x out within e f =
    let sx = point-same p.xs x.first_a x.first_b x.last_a x.last_b e f in
    let sy = point-same p.ys x.first_a x.first_b x.last_a x.last_b e f in
    at (nat_lt x.last_b (x.first_a + p.gap)) (is_near p.norm p.radius (least_gap (over_a p.xs x) (over_b p.xs x)) (least_gap (over_a p.ys x) (over_b p.ys x))) refl refl out
    (subst (λ (d : ℕ). (nat_le (x.last_a + p.gap) x.first_b && is_near p.norm p.radius d (least_gap (over_a p.ys x) (over_b p.ys x))) ≡ false) (sym sx)
    (subst (λ (d : ℕ). (nat_le (x.last_a + p.gap) x.first_b && is_near p.norm p.radius (greatest_gap (over_a p.xs x) (over_b p.xs x)) d) ≡ false) (sym sy) within))
  where
    at : (late near : Bool) → nat_lt x.last_b (x.first_a + p.gap) ≡ late
        → is_near p.norm p.radius (least_gap (over_a p.xs x) (over_b p.xs x)) (least_gap (over_a p.ys x) (over_b p.ys x)) ≡ near
        → (late || not near) ≡ false
        → (nat_le (x.last_a + p.gap) x.first_b && is_near p.norm p.radius (least_gap (over_a p.xs x) (over_b p.xs x)) (least_gap (over_a p.ys x) (over_b p.ys x))) ≡ false → ⊥
    at true near is_late is_near_so t u = absurd (cc)
    at false false is_late is_near_so t u = absurd (cc)
    at false true is_late is_near_so t u =
        let early : nat_le (x.last_a + p.gap) x.first_b ≡ true = grind (arith, nat_tests) in
        let u2 = rw (early, is_near_so) at u in
        absurd (cc)

pub judged-says : (p : Plane) (x : TickBox) → x.last_b < length p.xs → Says (is_possible p) x (judged p x)
judged-says p x len = at (is_out p x) (is_within p x) refl refl
  where
    at : (out within : Bool) → is_out p x ≡ out → is_within p x ≡ within → Says (is_possible p) x (cond out Out (cond within Within Mixed))
    at true within e f = out-says p x e
    at false true e f = within-says p x len f
    at false false e f = mixed-says p x e f

bounded-point : (s : Span) (p : ℤ) → IsBounded 500000000 s → s.lo ≤ℤ p → p ≤ℤ s.hi → IsBounded 500000000 (record { lo = p; hi = p })
bounded-point s p h k l = record { low = omega (arith, ints, h, k, l); high = omega (arith, ints, h, k, l) }

small-of : (s : Span) → IsBounded 500000000 s → IsProper s → IsSmall (bounds_of s)
small-of s h k = record {
  least_lower = bounded-point s s.lo h (omega (arith, ints)) k;
  greatest_lower = bounded-point s s.lo h (omega (arith, ints)) k;
  least_upper = bounded-point s s.hi h k (omega (arith, ints));
  greatest_upper = bounded-point s s.hi h k (omega (arith, ints));
}

small-both : (p q : Bounds) → IsSmall p → IsSmall q → IsSmall (both p q)
small-both p q h k = record {
  least_lower = record { low = omega (arith, ints, clamps, h.least_lower, k.least_lower); high = omega (arith, ints, clamps, h.least_lower, k.least_lower) };
  greatest_lower = record { low = omega (arith, ints, clamps, h.greatest_lower, k.greatest_lower); high = omega (arith, ints, clamps, h.greatest_lower, k.greatest_lower) };
  least_upper = record { low = omega (arith, ints, clamps, h.least_upper, k.least_upper); high = omega (arith, ints, clamps, h.least_upper, k.least_upper) };
  greatest_upper = record { low = omega (arith, ints, clamps, h.greatest_upper, k.greatest_upper); high = omega (arith, ints, clamps, h.greatest_upper, k.greatest_upper) };
}

pub small-over : (xs : List Span) (a n : ℕ) → AreBounded xs → IsBox xs → IsSmall (bounds_over xs a n)
small-over xs a zero h k = small-of (cell_at xs a) (h a) (k a)
small-over xs a (suc n) h k = small-both (bounds_over xs a n) (bounds_of (cell_at xs (a + suc n))) (small-over xs a n h k) (small-of (cell_at xs (a + suc n)) (h (a + suc n)) (k (a + suc n)))

-- one tick more
pub bounds-more : (xs : List Span) (first k : ℕ) → first ≤ k → both (bounds_over xs first (k - first)) (bounds_of (cell_at xs (k + 1))) ≡ bounds_over xs first (k + 1 - first)
bounds-more xs first k h =
    let e : k + 1 - first ≡ suc (k - first) = omega arith in
    let f : first + suc (k - first) ≡ k + 1 = omega arith in
    rw (e, f)
