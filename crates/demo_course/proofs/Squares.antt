-- Squares of whole numbers, and the lengths of steps.
use Rattle.std.proofs.Common.{◌≡◌, ℕ, suc, ◌+◌, ◌*◌, ◌<◌, ◌≤◌, List, ℤ, pos, negsuc, neg_ℤ, unsigned_abs, ◌+ℤ◌, ◌*ℤ◌, arith, refl, sym, ap, ap₂, ◌∙◌}
use Rattle.std.proofs.lemmas.Int.{ints}
use Rattle.std.proofs.lemmas.Nat.{mul-le}
use Rattle.tube_spec.specs.Span.{Holds, natural}
use Rattle.demo_course.specs.Course.{difference, distance_of, squared_distance}
use Rattle.demo_course.specs.Laws.{within, AreDistances, IsBoundedCourse}
use Rattle.demo_course.specs.Roots.{whole_root}
use Rattle.demo_course.specs.declared.Axis.{Axis}
use Rattle.demo_course.specs.declared.Axis.TheVariants.{X, Y}
use Rattle.demo_course.proofs.Reaching.{place-within, position-within, rate-within}
use Rattle.demo_course.proofs.Rooting.{roots-greatest}

-- a square is that of the absolute value
pub square-abs : (z : ℤ) → z *ℤ z ≡ pos (unsigned_abs z * unsigned_abs z)
square-abs (pos n) = refl
square-abs (negsuc n) = refl

pub abs-small : (n : ℕ) (z : ℤ) → Holds (within n) z → unsigned_abs z ≤ n
abs-small n (pos m) h = omega (arith, ints, h.high)
abs-small n (negsuc m) h = omega (arith, ints, h.low)

-- the sum of two squares as a natural number
pub sum-is : (a b : ℤ) → (a *ℤ a) +ℤ (b *ℤ b) ≡ pos (unsigned_abs a * unsigned_abs a + unsigned_abs b * unsigned_abs b)
sum-is a b = ap₂ ◌+ℤ◌ (square-abs a) (square-abs b)

sum-natural : (a b : ℤ) → (a *ℤ a) +ℤ (b *ℤ b) ≡ pos (natural ((a *ℤ a) +ℤ (b *ℤ b)))
sum-natural a b = sum-is a b ∙ ap (λ (z : ℤ). pos (natural z)) (sym (sum-is a b))

pub square-small : (z : ℤ) → Holds (within 60000) z → unsigned_abs z * unsigned_abs z ≤ 3600000000
square-small z h = mul-le (unsigned_abs z) (unsigned_abs z) 60000 60000 (abs-small 60000 z h) (abs-small 60000 z h)

-- distances of a course from its beacons
pub distance-small : (words : List ℕ) (k i : ℕ) → k ≤ 2000 → distance_of words k i ≤ 90000
unfolding distance_of
distance-small words k i early =
    let near : (axis : Axis) → Holds (within 60000) (difference words axis k i) = λ axis.
    let p = position-within words axis k in
    let q = place-within words axis i in
    record { low = omega (arith, ints, p.low, q.high, early); high = omega (arith, ints, p.high, q.low, early) } in
    let sum = ap natural (sum-is (difference words X k i) (difference words Y k i)) in
    let far : 90001 ≤ whole_root (natural (squared_distance words k i)) → 90001 * 90001 ≤ natural (squared_distance words k i) = (roots-greatest (natural (squared_distance words k i)) 90001).1 in
    let one = square-small (difference words X k i) (near X) in
    let other = square-small (difference words Y k i) (near Y) in
    let bound : natural (squared_distance words k i) ≤ 7200000000 = omega (arith, sum, one, other) in
    grind (arith, far, bound)

pub distances : (words : List ℕ) → AreDistances words
unfolding distance_of
distances words k i =
    let d = squared_distance words k i in
    let r = whole_root (natural d) in
    let is = sum-natural (difference words X k i) (difference words Y k i) in
    let low : r * r ≤ natural d = (roots-greatest (natural d) r).1 (omega arith) in
    let next : (r + 1) * (r + 1) ≤ natural d → r + 1 ≤ r = (roots-greatest (natural d) (r + 1)).0 in
    let high : natural d < (r + 1) * (r + 1) = grind (arith, next) in
    record { low = omega (arith, ints, is, low); high = omega (arith, ints, is, high) }

pub bounded : (words : List ℕ) → IsBoundedCourse words
bounded words = record { rate = rate-within words; position = position-within words; place = place-within words; distance = distance-small words }
