-- The hull of an assignment with the points at a distance is stable under each projection of the distance.
use Rattle.std.proofs.Common.{◌≡◌, ℕ, zero, suc, ◌<◌, ◌≤◌, ◌⊎◌, inl, inr, nat_eq, Bool, true, false, cond, Option, Some, None, option_map, List, arith, sym, ap, ap₂, subst, refl, All, slice_index, ℤ, pos, ◌+ℤ◌, ◌-ℤ◌, ◌*ℤ◌}
use Rattle.std.proofs.lemmas.Int.{ints}
use Rattle.std.proofs.lemmas.List.{length-map}
use Rattle.tube_spec.specs.Span.{Span, Holds, point, add_of, sub_of}
use Rattle.tube_spec.specs.Hull.{IsWithinOption}
use Rattle.tube_spec.specs.Narrowing.{Narrowing, IsUnder, narrowing_of}
use Rattle.tube_spec.specs.Shape.{Shape}
use Rattle.tube_spec.specs.Box.{cell_at}
use Rattle.tube_spec.specs.Projection.{IsStable}
use Rattle.tube_spec.specs.Assignment.{Assignment, number_of, IsHull}
use Rattle.int_interval.specs.Image.{sqr_of}
use Rattle.int_interval.proofs.Images.{sqr-holds}
use Rattle.int_interval.proofs.Inverses.{back_sqr-holds}
use Rattle.int_interval.proofs.Monotone.{add-holds, sub-holds}
use Rattle.tube_names.specs.Points.{cells_of}
use Rattle.ctc_dist.specs.PointLaws.{hull-at}
use Rattle.ctc_dist.specs.Distances.{sum_below, span_sum_below, squares_from, dimension, difference, square_but, other_squares, offset_of, forth, back, dist_projections_at, dist_projections, DistFits, difference_in, IsAtDistance}
use Rattle.ctc_dist.specs.DistLaws.{dist-each}

holds-point : (p : ℤ) → Holds (point p) p
holds-point p = record { low = omega (arith, ints); high = omega (arith, ints) }

-- a sum of members
span_sum-holds : (f : ℕ → Span) (g : ℕ → ℤ) (n : ℕ) → ((k : ℕ) → k < n → Holds (f k) (g k)) → Holds (span_sum_below f n) (sum_below g n)
span_sum-holds f g zero h = holds-point (pos 0)
span_sum-holds f g (suc n) h = add-holds (span_sum_below f n) (f n) (sum_below g n) (g n) (span_sum-holds f g n (λ k l. h k (omega arith))) (h n (omega arith))

-- the terms of a sum, with 0 in the place i
abbrev but : (ℕ → ℤ) → ℕ → ℕ → ℤ
but f i j = cond (nat_eq j i) (pos 0) (f j)

but-other : (f : ℕ → ℤ) (i j : ℕ) → (j ≡ i → ⊥) → but f i j ≡ f j
but-other f i j h = grind (arith, h)

but-same : (f : ℕ → ℤ) (i : ℕ) → but f i i ≡ pos 0
but-same f i = grind arith

sum-before : (f : ℕ → ℤ) (i n : ℕ) → n ≤ i → sum_below (but f i) n ≡ sum_below f n
sum-before f i zero l = refl
sum-before f i (suc n) l = ap₂ ◌+ℤ◌ (sum-before f i n (omega (arith, l))) (but-other f i n (λ e. omega (arith, l, e)))

last-or : (i n : ℕ) → i < suc n → (i < n) ⊎ (i ≡ n)
last-or i n l = grind arith

-- a sum is that of the other terms and the one
sum-split : (f : ℕ → ℤ) (i n : ℕ) → i < n → sum_below f n ≡ sum_below (but f i) n +ℤ f i
sum-split f i zero l = absurd (omega (arith, l))
sum-split f i (suc n) l = elim (last-or i n l) [
  | inl m ↦
      let others = but-other f i n (λ e. omega (arith, m, e)) in
      omega (arith, ints, sum-split f i n m, others)
  | inr e ↦
      let before = sum-before f i n (omega (arith, e)) in
      let here : but f i n ≡ pos 0 = subst (λ (k : ℕ). but f i k ≡ pos 0) e (but-same f i) in
      let last : f n ≡ f i = ap f (sym e) in
      omega (arith, ints, before, here, last)
]

-- a point lies in the other one and the offset
forth-under : (x y : ℤ) (o : Option Span) → IsWithinOption (Some (point (x -ℤ y))) o → IsUnder (point x) (narrowing_of (option_map (add_of (point y)) o))
forth-under x y None h = absurd h
forth-under x y (Some s) h = record { low = omega (arith, ints, h); high = omega (arith, ints, h) }

back-under : (x y : ℤ) (o : Option Span) → IsWithinOption (Some (point (x -ℤ y))) o → IsUnder (point y) (narrowing_of (option_map (sub_of (point x)) o))
back-under x y None h = absurd h
back-under x y (Some s) h = record { low = omega (arith, ints, h); high = omega (arith, ints, h) }

under-by : (t u : Span) (h k : Narrowing) → t ≡ u → h ≡ k → IsUnder u k → IsUnder t h
under-by t u h k p q g = subst (λ (s : Span). IsUnder s h) (sym p) (subst (IsUnder u) (sym q) g)

-- points at numbers x 0, x 1 and so on, and y 0, y 1 and so on
module _ (p b : List ℕ) (q : Span) (xs : List Span) (x y : ℕ → ℤ)
    (one : (i : ℕ) → i < dimension p b → cell_at xs (slice_index p i) ≡ point (x i))
    (other : (i : ℕ) → i < dimension p b → cell_at xs (slice_index b i) ≡ point (y i))
    (far : Holds q (sum_below (λ i. (x i -ℤ y i) *ℤ (x i -ℤ y i)) (dimension p b))) where
  abbrev square : ℕ → ℤ
  square i = (x i -ℤ y i) *ℤ (x i -ℤ y i)

  difference-holds : (i : ℕ) → i < dimension p b → Holds (difference p b xs i) (x i -ℤ y i)
  difference-holds i l = subst (λ (s : Span). Holds s (x i -ℤ y i)) (sym (ap₂ sub_of (one i l) (other i l))) (sub-holds (point (x i)) (point (y i)) (x i) (y i) (holds-point (x i)) (holds-point (y i)))

  zero-or-holds : (t : Bool) (s : Span) (v : ℤ) → Holds s v → Holds (cond t (point (pos 0)) s) (cond t (pos 0) v)
  zero-or-holds true s v h = holds-point (pos 0)
  zero-or-holds false s v h = h

  others-hold : (i : ℕ) → Holds (other_squares p b xs i) (sum_below (but square i) (dimension p b))
  others-hold i =
      span_sum-holds (square_but p b xs i) (but square i) (dimension p b)
      (λ j l. zero-or-holds (nat_eq j i) (sqr_of (difference p b xs j)) (square j) (sqr-holds (difference p b xs j) (x j -ℤ y j) (difference-holds j l)))

  offset-holds : (i : ℕ) → i < dimension p b → IsWithinOption (Some (point (x i -ℤ y i))) (offset_of p b q xs i)
  offset-holds i l =
      let all = sum_below square (dimension p b) in
      let rest = sum_below (but square i) (dimension p b) in
      let left : all -ℤ rest ≡ square i = omega (arith, ints, sum-split square i (dimension p b) l) in
      back_sqr-holds (difference p b xs i) (sub_of q (other_squares p b xs i)) (x i -ℤ y i) (difference-holds i l)
      (subst (Holds (sub_of q (other_squares p b xs i))) left (sub-holds q (other_squares p b xs i) all rest far (others-hold i)))

  forth-stable : (i : ℕ) → i < dimension p b → IsStable xs (forth p b q i)
  forth-stable i l =
      under-by _ _ _ _ (one i l) (ap (λ (s : Span). narrowing_of (option_map (add_of s) (offset_of p b q xs i))) (other i l)) (forth-under (x i) (y i) (offset_of p b q xs i) (offset-holds i l))

  back-stable : (i : ℕ) → i < dimension p b → IsStable xs (back p b q i)
  back-stable i l =
      under-by _ _ _ _ (other i l) (ap (λ (s : Span). narrowing_of (option_map (sub_of s) (offset_of p b q xs i))) (one i l)) (back-under (x i) (y i) (offset_of p b q xs i) (offset-holds i l))

  at-stable : All (IsStable xs) (dist_projections_at p b q)
  at-stable = dist-each (IsStable xs) p b q forth-stable back-stable

pub dist-stable : (s : Shape) (a : Assignment) (hull : List Span) → IsHull s a hull → (p b : List ℕ) (near far : ℤ) → DistFits s p b near far → IsAtDistance a p b near far
    → All (IsStable hull) (dist_projections s p b near far)
dist-stable s a hull is p b near far fits says =
    let ep = length-map p (slice_index s.vars) in
    let eb = length-map b (slice_index s.vars) in
    let n : dimension (cells_of s p) (cells_of s b) ≡ dimension p b = omega (arith, ep, eb) in
    at-stable (cells_of s p) (cells_of s b) (squares_from near far) hull (λ i. number_of a (slice_index p i)) (λ i. number_of a (slice_index b i))
    (λ i l. hull-at s a hull is p fits.one i (omega (arith, l, ep)))
    (λ i l. hull-at s a hull is b fits.other i (omega (arith, l, eb)))
    (subst (λ (k : ℕ). Holds (squares_from near far) (sum_below (λ i. difference_in a p b i *ℤ difference_in a p b i) k)) (sym n) says)
