-- The laws of the distance constraint as a contractor, over plain numbers.
use Rattle.std.proofs.Common.{◌≡◌, ℕ, zero, suc, ◌<◌, nat_eq, Bool, true, false, cond, Option, Some, None, option_map, List, ◌++◌, arith, refl, ap, ap₂, All, Contains, slice_index, ℤ, pos}
use Rattle.std.proofs.lemmas.List.Elements.{All-append, Contains-append_left, Contains-append_right}
use Rattle.tube_spec.specs.Span.{Span, IsProper, IsWithin, point, add_of, sub_of}
use Rattle.tube_spec.specs.Hull.{IsWithinOption}
use Rattle.tube_spec.specs.Narrowing.{narrowing_of}
use Rattle.tube_spec.specs.Shape.{Shape, IsShape, Extends}
use Rattle.tube_spec.specs.Box.{cell_at, IsBox, IsBelow}
use Rattle.tube_spec.specs.Projection.{Projection, IsMonotone, ReadsOnly}
use Rattle.tube_spec.proofs.Spans.{IsWithin-refl, add-mono, sub-mono, narrowing_of-mono}
use Rattle.int_interval.specs.Image.{sqr_of}
use Rattle.int_interval.specs.Inverse.{back_sqr_of}
use Rattle.int_interval.proofs.Monotone.{sqr-mono, sub-proper}
use Rattle.int_interval.proofs.Inverses.{back_sqr-mono}
use Rattle.tube_names.specs.Points.{cells_of}
use Rattle.ctc_dist.specs.PointLaws.{contains-at}
use Rattle.tube_names.proofs.PointCells.{All-each, cells-in, vars-more, cells-same}
use Rattle.ctc_dist.specs.Distances.{span_sum_below, squares_from, dimension, difference, square_but, other_squares, offset_of, forth, back, dist_projections_at, dist_projections, dist_scope, DistFits}

span_sum-mono : (f g : ℕ → Span) (n : ℕ) → ((k : ℕ) → IsWithin (f k) (g k)) → IsWithin (span_sum_below f n) (span_sum_below g n)
span_sum-mono f g zero h = IsWithin-refl (point (pos 0))
span_sum-mono f g (suc n) h = add-mono (span_sum_below f n) (f n) (span_sum_below g n) (g n) (span_sum-mono f g n h) (h n)

span_sum-same : (f g : ℕ → Span) (n : ℕ) → ((k : ℕ) → k < n → f k ≡ g k) → span_sum_below f n ≡ span_sum_below g n
span_sum-same f g zero h = refl
span_sum-same f g (suc n) h = ap₂ add_of (span_sum-same f g n (λ k l. h k (omega arith))) (h n (omega arith))

zero-or-mono : (t : Bool) (a b : Span) → IsWithin a b → IsWithin (cond t (point (pos 0)) a) (cond t (point (pos 0)) b)
zero-or-mono true a b h = IsWithin-refl (point (pos 0))
zero-or-mono false a b h = h

option-mono : (f g : Span → Span) (a b : Option Span) → ((s t : Span) → IsWithin s t → IsWithin (f s) (g t)) → IsWithinOption a b → IsWithinOption (option_map f a) (option_map g b)
option-mono f g None b h w = tt
option-mono f g (Some s) None h w = absurd w
option-mono f g (Some s) (Some t) h w = h s t w

-- what holds of the projections on each coordinate holds of all
pub dist-each : (P : Projection → Type 0) (p b : List ℕ) (q : Span) → ((i : ℕ) → i < dimension p b → P (forth p b q i)) → ((i : ℕ) → i < dimension p b → P (back p b q i)) → All P (dist_projections_at p b q)
dist-each P p b q one other = All-append P _ _ (All-each P (forth p b q) (dimension p b) one) (All-each P (back p b q) (dimension p b) other)

-- what a lesser box leaves lies within what a greater one leaves
module _ (p b : List ℕ) (q : Span) (xs ys : List Span) (good : IsBox xs) (low : IsBelow xs ys) where
  difference-mono : (i : ℕ) → IsWithin (difference p b xs i) (difference p b ys i)
  difference-mono i = sub-mono (cell_at xs (slice_index p i)) (cell_at xs (slice_index b i)) (cell_at ys (slice_index p i)) (cell_at ys (slice_index b i)) (low.each (slice_index p i)) (low.each (slice_index b i))

  square-mono : (i j : ℕ) → IsWithin (square_but p b xs i j) (square_but p b ys i j)
  square-mono i j =
      let proper : IsProper (difference p b xs j) = sub-proper (cell_at xs (slice_index p j)) (cell_at xs (slice_index b j)) (good (slice_index p j)) (good (slice_index b j)) in
      zero-or-mono (nat_eq j i) (sqr_of (difference p b xs j)) (sqr_of (difference p b ys j)) (sqr-mono (difference p b xs j) (difference p b ys j) proper (difference-mono j))

  offset-mono : (i : ℕ) → IsWithinOption (offset_of p b q xs i) (offset_of p b q ys i)
  offset-mono i =
      back_sqr-mono (difference p b xs i) (sub_of q (other_squares p b xs i)) (difference p b ys i) (sub_of q (other_squares p b ys i)) (difference-mono i)
      (sub-mono q (other_squares p b xs i) q (other_squares p b ys i) (IsWithin-refl q) (span_sum-mono (square_but p b xs i) (square_but p b ys i) (dimension p b) (square-mono i)))

pub forth-mono : (Fits : List Span → Type 0) (p b : List ℕ) (q : Span) (i : ℕ) → IsMonotone Fits (forth p b q i)
forth-mono Fits p b q i xs ys bx by fits low =
    let x = cell_at xs (slice_index b i) in
    let y = cell_at ys (slice_index b i) in
    narrowing_of-mono (option_map (add_of x) (offset_of p b q xs i)) (option_map (add_of y) (offset_of p b q ys i))
    (option-mono (add_of x) (add_of y) (offset_of p b q xs i) (offset_of p b q ys i) (λ s t w. add-mono x s y t (low.each (slice_index b i)) w) (offset-mono p b q xs ys bx low i))

pub back-mono : (Fits : List Span → Type 0) (p b : List ℕ) (q : Span) (i : ℕ) → IsMonotone Fits (back p b q i)
back-mono Fits p b q i xs ys bx by fits low =
    let x = cell_at xs (slice_index p i) in
    let y = cell_at ys (slice_index p i) in
    narrowing_of-mono (option_map (sub_of x) (offset_of p b q xs i)) (option_map (sub_of y) (offset_of p b q ys i))
    (option-mono (sub_of x) (sub_of y) (offset_of p b q xs i) (offset_of p b q ys i) (λ s t w. sub-mono x s y t (low.each (slice_index p i)) w) (offset-mono p b q xs ys bx low i))

-- boxes that agree on the coordinates of both points leave the same
module _ (p b : List ℕ) (q : Span) (xs ys : List Span) (same : (k : ℕ) → Contains (p ++ b) k → cell_at xs k ≡ cell_at ys k) where
  one-same : (i : ℕ) → i < dimension p b → cell_at xs (slice_index p i) ≡ cell_at ys (slice_index p i)
  one-same i l = same (slice_index p i) (Contains-append_left p b (slice_index p i) (contains-at p i (omega (arith, l))))

  other-same : (i : ℕ) → i < dimension p b → cell_at xs (slice_index b i) ≡ cell_at ys (slice_index b i)
  other-same i l = same (slice_index b i) (Contains-append_right p b (slice_index b i) (contains-at b i (omega (arith, l))))

  difference-same : (i : ℕ) → i < dimension p b → difference p b xs i ≡ difference p b ys i
  difference-same i l = ap₂ sub_of (one-same i l) (other-same i l)

  offset-same : (i : ℕ) → i < dimension p b → offset_of p b q xs i ≡ offset_of p b q ys i
  offset-same i l =
      ap₂ (λ (d s : Span). back_sqr_of d (sub_of q s)) (difference-same i l)
      (span_sum-same (square_but p b xs i) (square_but p b ys i) (dimension p b) (λ k m. ap (λ (d : Span). cond (nat_eq k i) (point (pos 0)) (sqr_of d)) (difference-same k m)))

pub dist-monotone : (Fits : List Span → Type 0) (s : Shape) (p b : List ℕ) (near far : ℤ) → All (IsMonotone Fits) (dist_projections s p b near far)
dist-monotone Fits s p b near far =
    dist-each (IsMonotone Fits) (cells_of s p) (cells_of s b) (squares_from near far)
    (λ i l. forth-mono Fits (cells_of s p) (cells_of s b) (squares_from near far) i)
    (λ i l. back-mono Fits (cells_of s p) (cells_of s b) (squares_from near far) i)

pub dist-reads_only : (Fits : List Span → Type 0) (s : Shape) (p b : List ℕ) (near far : ℤ) → All (ReadsOnly Fits (dist_scope s p b)) (dist_projections s p b near far)
dist-reads_only Fits s p b near far =
    let ps = cells_of s p in
    let bs = cells_of s b in
    let q = squares_from near far in
    dist-each (ReadsOnly Fits (dist_scope s p b)) ps bs q
    (λ i l xs ys fx fy same. ap₂ (λ (c : Span) (o : Option Span). narrowing_of (option_map (add_of c) o)) (other-same ps bs q xs ys same i l) (offset-same ps bs q xs ys same i l))
    (λ i l xs ys fx fy same. ap₂ (λ (c : Span) (o : Option Span). narrowing_of (option_map (sub_of c) o)) (one-same ps bs q xs ys same i l) (offset-same ps bs q xs ys same i l))

pub dist-in_store : (s : Shape) (p b : List ℕ) (near far : ℤ) → IsShape s → DistFits s p b near far → All (λ k. k < s.cells) (dist_scope s p b) × All (λ (x : Projection). x.target < s.cells) (dist_projections s p b near far)
dist-in_store s p b near far shape fits =
    let ps = cells-in s shape p fits.one in
    let bs = cells-in s shape b fits.other in (
      All-append (λ (k : ℕ). k < s.cells) (cells_of s p) (cells_of s b) ps bs,
      dist-each (λ (x : Projection). x.target < s.cells) (cells_of s p) (cells_of s b) (squares_from near far) (λ i l. ps i 0 (omega (arith, l))) (λ i l. bs i 0 (omega (arith, l))),
    )

pub dist-fits_more : (s t : Shape) (p b : List ℕ) (near far : ℤ) → Extends s t → DistFits s p b near far → DistFits t p b near far
dist-fits_more s t p b near far grows fits = record {
  some = fits.some;
  few = fits.few;
  alike = fits.alike;
  one = vars-more s t grows p fits.one;
  other = vars-more s t grows b fits.other;
  from_zero = fits.from_zero;
  in_order = fits.in_order;
  bounded = fits.bounded;
}

pub dist-same_projections : (s t : Shape) (p b : List ℕ) (near far : ℤ) → Extends s t → DistFits s p b near far → dist_projections t p b near far ≡ dist_projections s p b near far
dist-same_projections s t p b near far grows fits =
    ap₂ (λ (ps bs : List ℕ). dist_projections_at ps bs (squares_from near far)) (cells-same s t grows p fits.one) (cells-same s t grows b fits.other)

pub dist-same_scope : (s t : Shape) (p b : List ℕ) (near far : ℤ) → Extends s t → DistFits s p b near far → dist_scope t p b ≡ dist_scope s p b
dist-same_scope s t p b near far grows fits = ap₂ ◌++◌ (cells-same s t grows p fits.one) (cells-same s t grows b fits.other)
