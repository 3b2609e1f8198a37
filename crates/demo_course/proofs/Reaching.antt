-- Draws and their sums stay within their reach.
use Rattle.std.proofs.Common.{◌≡◌, ℕ, zero, suc, ◌+◌, ◌*◌, ◌≤◌, List, ℤ, pos, neg_ℤ, ◌+ℤ◌, arith, refl, slice_index, ap, add-one}
use Rattle.std.proofs.lemmas.Int.{ints}
use Rattle.tube_spec.specs.Span.{Span, Holds}
use Rattle.demo_course.specs.Draws.{draw, offset_of, place_of, rate_of}
use Rattle.demo_course.specs.Course.{position_at, rate_at, stretch_of, sum_until}
use Rattle.demo_course.specs.Laws.{within, IsMoved}
use Rattle.demo_course.specs.declared.Axis.{Axis}

draw-within : (reach word : ℕ) → Holds (within reach) (draw reach word)
draw-within reach word = record { low = omega (arith, ints); high = omega (arith, ints) }

pub rate-within : (words : List ℕ) (axis : Axis) (j : ℕ) → Holds (within 20) (rate_of words axis j)
unfolding rate_of
rate-within words axis j = draw-within 20 (slice_index words (2 * j + offset_of axis))

pub place-within : (words : List ℕ) (axis : Axis) (i : ℕ) → Holds (within 20000) (place_of words axis i)
unfolding place_of
place-within words axis i = draw-within 20000 (slice_index words (2 * i + 40 + offset_of axis))

sum-within : (f : ℕ → ℤ) → ((k : ℕ) → Holds (within 20) (f k)) → (n : ℕ) → Holds (within (20 * n)) (sum_until f n)
unfolding sum_until
sum-within f each zero = record { low = omega (arith, ints); high = omega (arith, ints) }
sum-within f each (suc n) =
    let before = sum-within f each n in
    let now = each n in
    record { low = omega (arith, ints, before.low, now.low); high = omega (arith, ints, before.high, now.high) }

pub position-within : (words : List ℕ) (axis : Axis) (k : ℕ) → Holds (within (20 * k)) (position_at words axis k)
position-within words axis k = sum-within (rate_at words axis) (λ k. rate-within words axis (stretch_of k)) k

pub sum-more : (f : ℕ → ℤ) (n : ℕ) → sum_until f (n + 1) ≡ sum_until f n +ℤ f n
unfolding sum_until
sum-more f n = rw add-one refl

sum-none : (f : ℕ → ℤ) → sum_until f 0 ≡ pos 0
unfolding sum_until
sum-none f = refl

pub moved : (words : List ℕ) → IsMoved words
moved words = record { begins = λ axis. sum-none (rate_at words axis); moves = λ axis k. sum-more (rate_at words axis) k }
