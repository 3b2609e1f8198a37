-- The definitions tried on numbers.
use Rattle.std.proofs.Common.{◌≡◌, ℕ, zero, suc, ◌<◌, Option, Some, None, List, [], ◌∷◌, ℤ, pos, negsuc, arith, refl, slice_index_or, length, IsTrue, Bool, true, false, int_le, ◌&&◌}
use Rattle.std.proofs.lemmas.Int.{ints}
use Rattle.std.proofs.lemmas.List.Elements.{All-from_recursion}
use Rattle.tube_spec.specs.Span.{Span, IsWithin, point, meet_of, join_of, add_of, sub_of, times_of, scale_of, width_of}
use Rattle.tube_spec.specs.Hull.{proper, hull_below}
use Rattle.tube_spec.specs.Box.{cell_at, IsBelow, measure_of}
use Rattle.tube_spec.specs.Tick.{tick_place, at_tick, over_ticks}
use Rattle.tube_spec.specs.Projection.{Projection, IsStable, holds_by}
use Rattle.tube_spec.specs.Fixpoint.{IsFixpoint, IsGreatest}
use Rattle.tube_spec.specs.Assignment.{Assignment}
use Rattle.tube_spec.specs.Owner.{Owner, SignalIn, VariableIn, shape_of, start_of, hull_box}
use Rattle.tube_spec.proofs.Spans.{IsWithin-refl}
use Rattle.tube_spec.proofs.Boxes.{IsBelow-refl, IsBelow-cons, IsBox-nil, IsBox-cons}
use Rattle.tube_spec.proofs.Hulls.{IsBelow-from}

abbrev from : ℤ → ℤ → Span
from lo hi = record { lo = lo; hi = hi }

-- spans
meet-shares : meet_of (from (pos 0) (pos 5)) (from (pos 3) (pos 9)) ≡ from (pos 3) (pos 5)
meet-shares = refl

join-covers : join_of (from (pos 0) (pos 2)) (from (pos 7) (pos 9)) ≡ from (pos 0) (pos 9)
join-covers = refl

sum-of : add_of (from (pos 1) (pos 2)) (from (negsuc 9) (pos 10)) ≡ from (negsuc 8) (pos 12)
sum-of = refl

difference-of : sub_of (from (pos 1) (pos 2)) (from (negsuc 9) (pos 10)) ≡ from (negsuc 8) (pos 12)
difference-of = refl

five-times : times_of 5 (from (negsuc 19) (pos 20)) ≡ from (negsuc 99) (pos 100)
five-times = refl

turned : scale_of (negsuc 1) (from (pos 3) (pos 4)) ≡ from (negsuc 7) (negsuc 5)
turned = refl

width-is : width_of (from (negsuc 9) (pos 10)) ≡ 20
width-is = refl

-- the hull of a family of which two members are nothing
abbrev with_gaps : ℕ → Option Span
with_gaps k = slice_index_or (None ∷ Some (from (pos 3) (pos 5)) ∷ None ∷ Some (from (negsuc 0) (pos 2)) ∷ []) k None

hull-over_gaps : hull_below with_gaps 4 ≡ Some (from (negsuc 0) (pos 5))
hull-over_gaps = refl

hull-before : hull_below with_gaps 1 ≡ None
hull-before = refl

nothing-shared : proper (meet_of (from (pos 0) (pos 2)) (from (pos 3) (pos 9))) ≡ None
nothing-shared = refl

-- a grid of three slices, of two ticks, one and two
abbrev grid : List ℕ
grid = 0 ∷ 2 ∷ 3 ∷ 5 ∷ []

places : tick_place grid 0 ∷ tick_place grid 1 ∷ tick_place grid 2 ∷ tick_place grid 3 ∷ tick_place grid 4 ∷ tick_place grid 5 ∷ [] ≡ 0 ∷ 1 ∷ 2 ∷ 4 ∷ 5 ∷ 6 ∷ []
places = refl

-- one signal and one variable over it, an assignment, its hull and the box of declared ranges
abbrev owners : List Owner
owners = SignalIn (from (negsuc 9) (pos 10)) ∷ VariableIn (from (pos 0) (pos 9)) ∷ []

abbrev assignment : Assignment
assignment = record { signals = (pos 0 ∷ pos 3 ∷ pos 1 ∷ pos 1 ∷ negsuc 1 ∷ pos 4 ∷ []) ∷ []; vars = pos 7 ∷ [] }

abbrev hull : List Span
hull = point (pos 0) ∷ from (pos 0) (pos 3) ∷ point (pos 1) ∷ point (pos 1) ∷ point (pos 1) ∷ from (negsuc 1) (pos 4) ∷ point (pos 4) ∷ point (pos 7) ∷ []

hull-is : hull_box grid owners assignment ≡ hull
hull-is = refl

measure-is : measure_of (Some hull) ≡ 9
measure-is = refl

at_tick-is : at_tick (shape_of grid owners) hull 0 4 ≡ from (negsuc 1) (pos 4)
at_tick-is = refl

over_ticks-is : over_ticks (shape_of grid owners) hull 0 1 3 ≡ from (pos 0) (pos 3)
over_ticks-is = refl

-- the order of boxes as a test, for boxes of numbers
abbrev is_below : List Span → List Span → Bool
is_below [] [] = true
is_below [] (y ∷ ys) = false
is_below (x ∷ xs) [] = false
is_below (x ∷ xs) (y ∷ ys) = (int_le y.lo x.lo && int_le x.hi y.hi) && is_below xs ys

is_below-true : (xs ys : List Span) → IsTrue (is_below xs ys) → IsBelow xs ys
is_below-true [] [] h = IsBelow-refl []
is_below-true [] (y ∷ ys) h = (cc)
is_below-true (x ∷ xs) [] h = (cc)
is_below-true (x ∷ xs) (y ∷ ys) h =
    IsBelow-cons x y xs ys (record { low = grind (arith, ints); high = grind (arith, ints) }) (is_below-true xs ys (grind arith))

hull-below_start : IsBelow hull (start_of grid owners)
hull-below_start = is_below-true hull (start_of grid owners) refl

-- Two cells, each of which lies within the other, from 0..10 and 4..20: the greatest common fixpoint is 4..10 in both.
abbrev both : List Projection
both = holds_by 0 (λ xs. cell_at xs 1) ∷ holds_by 1 (λ xs. cell_at xs 0) ∷ []

abbrev four_to_ten : List Span
four_to_ten = from (pos 4) (pos 10) ∷ from (pos 4) (pos 10) ∷ []

two-cells : IsGreatest both (Some (from (pos 0) (pos 10) ∷ from (pos 4) (pos 20) ∷ [])) (Some four_to_ten)
two-cells = (fixpoint, below, greatest)
  where
    fixpoint : IsFixpoint both four_to_ten
    fixpoint = record {
      box = IsBox-cons (from (pos 4) (pos 10)) (from (pos 4) (pos 10) ∷ []) (omega (arith, ints)) (IsBox-cons (from (pos 4) (pos 10)) [] (omega (arith, ints)) IsBox-nil);
      stable = All-from_recursion (IsStable four_to_ten) both (IsWithin-refl (from (pos 4) (pos 10)), (IsWithin-refl (from (pos 4) (pos 10)), tt));
    }

    below : IsBelow four_to_ten (from (pos 0) (pos 10) ∷ from (pos 4) (pos 20) ∷ [])
    below = is_below-true four_to_ten (from (pos 0) (pos 10) ∷ from (pos 4) (pos 20) ∷ []) refl

    greatest : (q : List Span) → IsFixpoint both q → IsBelow q (from (pos 0) (pos 10) ∷ from (pos 4) (pos 20) ∷ []) → IsBelow q four_to_ten
    greatest q fix low =
        let first : IsWithin (cell_at q 0) (cell_at q 1) = fix.stable 0 (holds_by 0 (λ xs. cell_at xs 1)) (omega arith) in
        let second : IsWithin (cell_at q 1) (cell_at q 0) = fix.stable 1 (holds_by 0 (λ xs. cell_at xs 1)) (omega arith) in
        let a : IsWithin (cell_at q 0) (from (pos 0) (pos 10)) = low.each 0 in
        let b : IsWithin (cell_at q 1) (from (pos 4) (pos 20)) = low.each 1 in
        IsBelow-from q four_to_ten low.len (λ k l. at q low.len first second a b k l)
      where
        at : (q : List Span) → length q ≡ 2 → IsWithin (cell_at q 0) (cell_at q 1) → IsWithin (cell_at q 1) (cell_at q 0) → IsWithin (cell_at q 0) (from (pos 0) (pos 10)) → IsWithin (cell_at q 1) (from (pos 4) (pos 20))
            → (k : ℕ) → k < length q → IsWithin (cell_at q k) (cell_at four_to_ten k)
        at q two first second a b zero l = record { low = omega (arith, ints, first, second, a, b); high = omega (arith, ints, first, second, a, b) }
        at q two first second a b (suc zero) l = record { low = omega (arith, ints, first, second, a, b); high = omega (arith, ints, first, second, a, b) }
        at q two first second a b (suc (suc k)) l = absurd (omega (arith, l, two))

-- From 0..3 and 5..9 there is none.
two-cells_apart : IsGreatest both (Some (from (pos 0) (pos 3) ∷ from (pos 5) (pos 9) ∷ [])) None
two-cells_apart q fix low =
    let first : IsWithin (cell_at q 0) (cell_at q 1) = fix.stable 0 (holds_by 0 (λ xs. cell_at xs 1)) (omega arith) in
    let a : IsWithin (cell_at q 0) (from (pos 0) (pos 3)) = low.each 0 in
    let b : IsWithin (cell_at q 1) (from (pos 5) (pos 9)) = low.each 1 in
    omega (arith, ints, first.low, a.high, b.low, fix.box 0)
