-- Products of a rate with a number of ticks, and what a rate that stays the same adds.
use Rattle.std.proofs.Common.{◌≡◌, ℕ, zero, suc, ◌+◌, ◌-◌, ◌<◌, ◌≤◌, ℤ, pos, negsuc, neg_ℤ, ◌+ℤ◌, ◌*ℤ◌, ◌≤ℤ◌, arith, sym, ap, ap₂, ◌∙◌, to_z, w64}
use Rattle.std.specs.Int.{int_min, int_max}
use Rattle.std.proofs.lemmas.Int.{ints, clamps, to_z_pos}
use Rattle.std.proofs.Math.IntN.{suc_ℤ-*ℤ, zero-*ℤ, *ℤ-zero, pos-*ℤ-negsuc, pos-*ℤ-pos}
use Rattle.tube_spec.specs.Span.{Span, IsProper, IsWithin, IsBounded, join_of, point, add_of, scale_of, times_of}
use Rattle.tube_spec.proofs.Spans.{same_span, scaled-mono}
use Rattle.int_interval.specs.Image.{neg_of}
use Rattle.ctc_eval.specs.Gains.{sum_over, gain}
use Rattle.ctc_eval.specs.GainLaws.{gain-on}
use Rattle.ctc_eval.proofs.Carrying.{gain-later, gain-earlier, back-or-here}

times-next : (k : ℕ) (x : ℤ) → pos (suc k) *ℤ x ≡ (pos k *ℤ x) +ℤ x
times-next k x = suc_ℤ-*ℤ (pos k) x

times-sum : (m n : ℕ) (x : ℤ) → pos (m + n) *ℤ x ≡ (pos m *ℤ x) +ℤ (pos n *ℤ x)
times-sum m zero x = let e : m + 0 ≡ m = omega arith in let z = zero-*ℤ x in ap (λ (k : ℕ). pos k *ℤ x) e ∙ omega (arith, ints, z)
times-sum m (suc n) x =
    let e : m + suc n ≡ suc (m + n) = omega arith in
    ap (λ (k : ℕ). pos k *ℤ x) e ∙ omega (arith, ints, times-next (m + n) x, times-next n x, times-sum m n x)

times-split : (w k : ℕ) (x : ℤ) → k ≤ w → pos w *ℤ x ≡ (pos (w - k) *ℤ x) +ℤ (pos k *ℤ x)
times-split w k x h =
    let e : (w - k) + k ≡ w = omega (arith, h) in
    ap (λ (n : ℕ). pos n *ℤ x) (sym e) ∙ times-sum (w - k) k x

times-rise : (m n : ℕ) (x : ℤ) → m ≤ n → pos 0 ≤ℤ x → (pos m *ℤ x) ≤ℤ (pos n *ℤ x)
times-rise m n x h p =
    let more = scaled-mono (n - m) (pos 0) x p in
    let none = *ℤ-zero (pos (n - m)) in
    let e = times-split n m x h in
    omega (arith, ints, more, none, e)

times-fall : (m n : ℕ) (x : ℤ) → m ≤ n → x ≤ℤ pos 0 → (pos n *ℤ x) ≤ℤ (pos m *ℤ x)
times-fall m n x h p =
    let less = scaled-mono (n - m) x (pos 0) p in
    let none = *ℤ-zero (pos (n - m)) in
    let e = times-split n m x h in
    omega (arith, ints, less, none, e)

-- a line lies between its ends
record Between (p q r : ℤ) : Type 0 where
  low : int_min p r ≤ℤ q
  high : q ≤ℤ int_max p r

up-between : (p q r : ℤ) → p ≤ℤ q → q ≤ℤ r → Between p q r
up-between p q r a b = record { low = omega (arith, ints, clamps, a, b); high = omega (arith, ints, clamps, a, b) }

down-between : (p q r : ℤ) → q ≤ℤ p → r ≤ℤ q → Between p q r
down-between p q r a b = record { low = omega (arith, ints, clamps, a, b); high = omega (arith, ints, clamps, a, b) }

rises : (m k n : ℕ) (x : ℤ) → m ≤ k → k ≤ n → Between (pos m *ℤ x) (pos k *ℤ x) (pos n *ℤ x)
rises m k n (pos x) p q = up-between _ _ _ (times-rise m k (pos x) p (omega (arith, ints))) (times-rise k n (pos x) q (omega (arith, ints)))
rises m k n (negsuc x) p q = down-between _ _ _ (times-fall m k (negsuc x) p (omega (arith, ints))) (times-fall k n (negsuc x) q (omega (arith, ints)))

falls : (m k n : ℕ) (x : ℤ) → m ≤ k → k ≤ n → Between (pos n *ℤ x) (pos k *ℤ x) (pos m *ℤ x)
falls m k n (pos x) p q = down-between _ _ _ (times-rise k n (pos x) q (omega (arith, ints))) (times-rise m k (pos x) p (omega (arith, ints)))
falls m k n (negsuc x) p q = up-between _ _ _ (times-fall k n (negsuc x) q (omega (arith, ints))) (times-fall m k (negsuc x) p (omega (arith, ints)))

pub times-rises : (m k n : ℕ) (v : Span) → m ≤ k → k ≤ n → IsWithin (times_of k v) (join_of (times_of m v) (times_of n v))
times-rises m k n v p q = record { low = (rises m k n v.lo p q).low; high = (rises m k n v.hi p q).high }

pub times-falls : (m k n : ℕ) (v : Span) → m ≤ k → k ≤ n → IsWithin (times_of k v) (join_of (times_of n v) (times_of m v))
times-falls m k n v p q = record { low = (falls m k n v.lo p q).low; high = (falls m k n v.hi p q).high }

-- ---- the products of an interval

pub scale-times : (k : ℕ) (v : Span) → IsProper v → scale_of (pos k) v ≡ times_of k v
scale-times k v p =
    let up = scaled-mono k v.lo v.hi p in
    same_span (scale_of (pos k) v) (times_of k v) (omega (arith, ints, clamps, up)) (omega (arith, ints, clamps, up))

pub times-bounded : (k : ℕ) (v : Span) → k ≤ 100000 → IsBounded 500000000 v → IsBounded 50000000000000 (times_of k v)
times-bounded k v few b =
    let low = scaled-mono k (negsuc 499999999) v.lo b.low in
    let high = scaled-mono k v.hi (pos 500000000) b.high in
    let el = pos-*ℤ-negsuc k 499999999 in
    let eh = pos-*ℤ-pos k 500000000 in
    record { low = omega (arith, ints, low, el, few); high = omega (arith, ints, high, eh, few) }

pub wider : (v : Span) → IsBounded 50000000000000 v → IsBounded 4000000000000000000 v
wider v b = record { low = omega (arith, ints, b); high = omega (arith, ints, b) }

pub read-ticks : (n : ℕ) → n ≤ 100000 → to_z w64 n ≡ pos n
read-ticks n few = to_z_pos w64 n (omega (arith, few))

-- ---- what a rate adds that stays the same

times-more : (n : ℕ) (v : Span) → times_of (suc n) v ≡ add_of (times_of n v) v
times-more n v = same_span (times_of (suc n) v) (add_of (times_of n v) v) (times-next n v.lo) (times-next n v.hi)

times-none : (v : Span) → times_of 0 v ≡ point (pos 0)
times-none v = same_span (times_of 0 v) (point (pos 0)) (zero-*ℤ v.lo) (zero-*ℤ v.hi)

pub times-neg : (n : ℕ) (v : Span) → times_of n (neg_of v) ≡ neg_of (times_of n v)
times-neg zero v = times-none (neg_of v) ∙ sym (ap neg_of (times-none v))
times-neg (suc n) v =
    let before = times-neg n v in
    let low = ap (λ (s : Span). s.lo) before in
    let high = ap (λ (s : Span). s.hi) before in
    same_span (times_of (suc n) (neg_of v)) (neg_of (times_of (suc n) v)) (omega (arith, ints, low, times-next n (neg_ℤ v.hi), times-next n v.hi)) (omega (arith, ints, high, times-next n (neg_ℤ v.lo), times-next n v.lo))

-- from a on and below b
abbrev pub Stays : (ℕ → Span) → Span → ℕ → ℕ → Type 0
Stays f v a b = (i : ℕ) → a ≤ i → i < b → f i ≡ v

sum-times : (f : ℕ → Span) (v : Span) (a n : ℕ) → Stays f v a (a + n) → sum_over f a n ≡ times_of n v
sum-times f v a zero h = sym (times-none v)
sum-times f v a (suc n) h = ap₂ add_of (sum-times f v a n (λ i p q. h i p (omega (arith, q)))) (h (a + n) (omega arith) (omega arith)) ∙ sym (times-more n v)

pub gain-times : (f : ℕ → Span) (v : Span) (k b : ℕ) → k ≤ b → Stays f v k b → gain f k b ≡ times_of (b - k) v
gain-times f v k b l h = gain-on f k b l ∙ sum-times f v k (b - k) (λ i p q. h i p (omega (arith, q, l)))

pub gain-times-back : (f : ℕ → Span) (v : Span) (k a : ℕ) → a ≤ k → Stays f v a k → gain f k a ≡ times_of (k - a) (neg_of v)
gain-times-back f v k a l h = back-or-here f k a l ∙ ap neg_of (sum-times f v a (k - a) (λ i p q. h i p (omega (arith, q, l)))) ∙ sym (times-neg (k - a) v)

-- from a tick before, and from one after
pub gain-moved : (f : ℕ → Span) (v : Span) (k g n : ℕ) → k ≤ g → Stays f v g (g + n) → gain f k (g + n) ≡ add_of (gain f k g) (times_of n v)
gain-moved f v k g zero l h =
    let e : g + 0 ≡ g = omega arith in
    let none = times-none v in
    let low = ap (λ (s : Span). s.lo) none in
    let high = ap (λ (s : Span). s.hi) none in
    ap (gain f k) e ∙ same_span (gain f k g) (add_of (gain f k g) (times_of 0 v)) (omega (arith, ints, low)) (omega (arith, ints, high))
gain-moved f v k g (suc n) l h =
    let e : g + suc n ≡ g + n + 1 = omega arith in
    let before = gain-moved f v k g n l (λ i p q. h i p (omega (arith, q))) in
    ap (gain f k) e ∙ gain-later f k (g + n) (omega (arith, l)) ∙ ap₂ add_of before (h (g + n) (omega arith) (omega arith))
    ∙ same_span (add_of (add_of (gain f k g) (times_of n v)) v) (add_of (gain f k g) (times_of (suc n) v)) (omega (arith, ints, times-next n v.lo)) (omega (arith, ints, times-next n v.hi))

pub gain-moved-back : (f : ℕ → Span) (v : Span) (k g n : ℕ) → g + n ≤ k → Stays f v g (g + n) → gain f k g ≡ add_of (gain f k (g + n)) (times_of n (neg_of v))
gain-moved-back f v k g zero l h =
    let e : g + 0 ≡ g = omega arith in
    let none = times-none (neg_of v) in
    let low = ap (λ (s : Span). s.lo) none in
    let high = ap (λ (s : Span). s.hi) none in
    same_span (gain f k g) (add_of (gain f k g) (times_of 0 (neg_of v))) (omega (arith, ints, low)) (omega (arith, ints, high)) ∙ ap (λ (j : ℕ). add_of (gain f k j) (times_of 0 (neg_of v))) (sym e)
gain-moved-back f v k g (suc n) l h =
    let e : g + suc n ≡ g + n + 1 = omega arith in
    let before = gain-moved-back f v k g n (omega (arith, l)) (λ i p q. h i p (omega (arith, q))) in
    let step = gain-earlier f k (g + n) (omega (arith, l)) in
    let here = h (g + n) (omega arith) (omega arith) in
    before ∙ ap (λ (s : Span). add_of s (times_of n (neg_of v))) (step ∙ ap (λ (s : Span). add_of (gain f k (g + n + 1)) (neg_of s)) here)
    ∙ same_span (add_of (add_of (gain f k (g + n + 1)) (neg_of v)) (times_of n (neg_of v))) (add_of (gain f k (g + n + 1)) (times_of (suc n) (neg_of v))) (omega (arith, ints, times-next n (neg_ℤ v.hi))) (omega (arith, ints, times-next n (neg_ℤ v.lo)))
    ∙ ap (λ (j : ℕ). add_of (gain f k j) (times_of (suc n) (neg_of v))) (sym e)
