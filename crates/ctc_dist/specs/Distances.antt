-- The distance constraint: the distance of two points lies from near to far. A point has one cell a coordinate.
use Rattle.std.specs.Prelude.{◌≡◌, ℕ, zero, suc, ◌≤◌, ◌<◌, nat_eq, cond, min, Option, option_map, List, ◌++◌, length, All, map, slice_index, ℤ, pos, ◌+ℤ◌, ◌-ℤ◌, ◌*ℤ◌, ◌≤ℤ◌}
use Rattle.std.specs.List.{range_with_len}
use Rattle.tube_spec.specs.Limits.{greatest_radius}
use Rattle.tube_spec.specs.Span.{Span, Holds, point, add_of, sub_of}
use Rattle.tube_spec.specs.Narrowing.{narrowing_of}
use Rattle.tube_spec.specs.Shape.{Shape}
use Rattle.tube_spec.specs.Box.{cell_at}
use Rattle.tube_spec.specs.Projection.{Projection}
use Rattle.tube_spec.specs.Assignment.{Assignment, number_of}
use Rattle.int_interval.specs.Image.{sqr_of}
use Rattle.int_interval.specs.Inverse.{back_sqr_of}
use Rattle.tube_names.specs.Points.{cells_of}

-- f 0 + f 1 and so on below n: of numbers, and of spans
abbrev pub sum_below : (ℕ → ℤ) → ℕ → ℤ
sum_below f zero = pos 0
sum_below f (suc n) = sum_below f n +ℤ f n

abbrev pub span_sum_below : (ℕ → Span) → ℕ → Span
span_sum_below f zero = point (pos 0)
span_sum_below f (suc n) = add_of (span_sum_below f n) (f n)

-- Q: the squares of near and of far
abbrev pub squares_from : ℤ → ℤ → Span
squares_from near far = record { lo = near *ℤ near; hi = far *ℤ far }

-- how many coordinates both points have
abbrev pub dimension : List ℕ → List ℕ → ℕ
dimension p b = min (length p) (length b)

-- P_i - B_i, in a box where the coordinates of one point have the cells p and those of the other the cells b
abbrev pub difference : List ℕ → List ℕ → List Span → ℕ → Span
difference p b xs i = sub_of (cell_at xs (slice_index p i)) (cell_at xs (slice_index b i))

-- the square of P_j - B_j, and 0 where j is i
abbrev pub square_but : List ℕ → List ℕ → List Span → ℕ → ℕ → Span
square_but p b xs i j = cond (nat_eq j i) (point (pos 0)) (sqr_of (difference p b xs j))

-- the sum of the squares of P_j - B_j over the coordinates j other than i
abbrev pub other_squares : List ℕ → List ℕ → List Span → ℕ → Span
other_squares p b xs i = span_sum_below (square_but p b xs i) (dimension p b)

-- D_i: the hull of the d in P_i - B_i with d * d in Q minus that sum
abbrev pub offset_of : List ℕ → List ℕ → Span → List Span → ℕ → Option Span
offset_of p b q xs i = back_sqr_of (difference p b xs i) (sub_of q (other_squares p b xs i))

-- P_i lies in B_i + D_i
abbrev pub forth : List ℕ → List ℕ → Span → ℕ → Projection
forth p b q i = record { target = slice_index p i; formula = λ xs. narrowing_of (option_map (add_of (cell_at xs (slice_index b i))) (offset_of p b q xs i)) }

-- B_i lies in P_i - D_i
abbrev pub back : List ℕ → List ℕ → Span → ℕ → Projection
back p b q i = record { target = slice_index b i; formula = λ xs. narrowing_of (option_map (sub_of (cell_at xs (slice_index p i))) (offset_of p b q xs i)) }

-- for each coordinate that of P_i, and then for each coordinate that of B_i
abbrev pub dist_projections_at : List ℕ → List ℕ → Span → List Projection
dist_projections_at p b q = map (forth p b q) (range_with_len 0 (dimension p b)) ++ map (back p b q) (range_with_len 0 (dimension p b))

-- the projections of the distance of two points, which are lists of variables
abbrev pub dist_projections : Shape → List ℕ → List ℕ → ℤ → ℤ → List Projection
dist_projections s p b near far = dist_projections_at (cells_of s p) (cells_of s b) (squares_from near far)

-- the cells that they read: the coordinates of both points
abbrev pub dist_scope : Shape → List ℕ → List ℕ → List ℕ
dist_scope s p b = cells_of s p ++ cells_of s b

-- Both points have two or three coordinates, all variables of the shape, and 0 <= near <= far <= 2,000,000,000.
pub record DistFits (s : Shape) (p b : List ℕ) (near far : ℤ) : Type 0 where
  pub some : 2 ≤ length p
  pub few : length p ≤ 3
  pub alike : length b ≡ length p
  pub one : All (λ v. v < length s.vars) p
  pub other : All (λ v. v < length s.vars) b
  pub from_zero : pos 0 ≤ℤ near
  pub in_order : near ≤ℤ far
  pub bounded : far ≤ℤ pos greatest_radius

-- what two points of an assignment differ by in a coordinate
abbrev pub difference_in : Assignment → List ℕ → List ℕ → ℕ → ℤ
difference_in a p b i = number_of a (slice_index p i) -ℤ number_of a (slice_index b i)

-- what the constraint says of an assignment: the sum of the squared differences lies in near * near .. far * far
abbrev pub IsAtDistance : Assignment → List ℕ → List ℕ → ℤ → ℤ → Type 0
IsAtDistance a p b near far = Holds (squares_from near far) (sum_below (λ i. difference_in a p b i *ℤ difference_in a p b i) (dimension p b))
