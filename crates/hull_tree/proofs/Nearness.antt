-- Trajectories in a box, and its possible and sure pairs.
use Rattle.std.proofs.Common.{◌≡◌, ℕ, ◌+◌, ◌<◌, ◌≤◌, Bool, true, false, ◌&&◌, List, length, nat_lt, nat_le, ℤ, pos, ◌-ℤ◌, neg_ℤ, arith, refl, sym, subst}
use Rattle.std.proofs.lemmas.Bool.Decides.{nat_tests}
use Rattle.std.proofs.lemmas.Int.{ints, clamps}
use Rattle.std.proofs.lemmas.List.FromFn.{length-map-range_with_len, get_or-map-range_with_len}
use Rattle.std.specs.Int.{int_max}
use Rattle.tube_spec.specs.Span.{Span, Holds, natural, sub_of, point}
use Rattle.tube_spec.specs.Grid.{IsGrid, last_tick}
use Rattle.tube_spec.specs.Shape.{Shape}
use Rattle.tube_spec.specs.Box.{cell_at, IsBelow}
use Rattle.tube_spec.specs.Tick.{at_tick}
use Rattle.tube_spec.specs.Assignment.{Assignment, value_at, IsHull}
use Rattle.tube_spec.proofs.Ticks.{at_tick-holds}
use Rattle.hull_tree.specs.Plane.{plane_of, tube_of, is_valid, is_possible, is_sure, least_abs, greatest_abs, change}
use Rattle.hull_tree.specs.Revisits.{magnitude, IsRevisit}
use Rattle.tube_names.specs.declared.queries.Query.{Query}
use Rattle.hull_tree.proofs.Judgements.{natural-mono, near-mono}

pub length-tube_of : (s : Shape) (box : List Span) (signal : ℕ) → length (tube_of s box signal) ≡ last_tick s.grid + 1
length-tube_of s box signal = length-map-range_with_len (at_tick s box signal) 0 (last_tick s.grid + 1)

-- what the plane has at a tick
pub tube_of-tick : (s : Shape) (box : List Span) (signal k : ℕ) → k ≤ last_tick s.grid → cell_at (tube_of s box signal) k ≡ at_tick s box signal k
tube_of-tick s box signal k h = get_or-map-range_with_len (at_tick s box signal) 0 (last_tick s.grid + 1) k k (point (pos 0)) (omega (arith, h)) (omega arith)

-- a change of values lies between the least and the greatest absolute change of their spans
pub least-magnitude : (s t : Span) (p q : ℤ) → Holds s p → Holds t q → least_abs (sub_of t s) ≤ magnitude (q -ℤ p)
least-magnitude s t p q h k = natural-mono (int_max (t.lo -ℤ s.hi) (neg_ℤ (t.hi -ℤ s.lo))) (int_max (q -ℤ p) (neg_ℤ (q -ℤ p))) (omega (arith, ints, clamps, h, k))

pub magnitude-greatest : (s t : Span) (p q : ℤ) → Holds s p → Holds t q → magnitude (q -ℤ p) ≤ greatest_abs (sub_of t s)
magnitude-greatest s t p q h k = natural-mono (int_max (q -ℤ p) (neg_ℤ (q -ℤ p))) (int_max (t.hi -ℤ s.lo) (neg_ℤ (t.lo -ℤ s.hi))) (omega (arith, ints, clamps, h, k))

-- the values of an assignment in a box, at the ticks of its plane
holds-at : (s : Shape) (w : Assignment) (hull xs : List Span) → IsGrid s.grid → IsHull s w hull → IsBelow hull xs → (signal k : ℕ) → signal < length s.signals → k ≤ last_tick s.grid
    → Holds (cell_at (tube_of s xs signal) k) (value_at w signal k)
holds-at s w hull xs grid is below signal k named within =
    subst (λ (x : Span). Holds x (value_at w signal k)) (sym (tube_of-tick s xs signal k within)) (at_tick-holds s w hull xs grid is below signal k named within)

and-true : (x y : Bool) → x ≡ true → y ≡ true → (x && y) ≡ true
and-true x y e f = rw (e, f)

and-left : (x y : Bool) → (x && y) ≡ true → x ≡ true
and-left true y e = refl
and-left false y e = absurd (cc)

and-right : (x y : Bool) → (x && y) ≡ true → y ≡ true
and-right true y e = e
and-right false y e = absurd (cc)

pub possible-revisit : (s : Shape) (w : Assignment) (hull xs : List Span) (q : Query) → IsGrid s.grid → IsHull s w hull → IsBelow hull xs → q.x.0 < length s.signals → q.y.0 < length s.signals
    → (a b : ℕ) → IsRevisit q (last_tick s.grid) (value_at w q.x.0) (value_at w q.y.0) a b → is_possible (plane_of s xs q) a b ≡ true
possible-revisit s w hull xs q grid is below nx ny a b r =
    let len : length (tube_of s xs q.x.0) ≡ last_tick s.grid + 1 = length-tube_of s xs q.x.0 in
    let early : nat_lt b (length (tube_of s xs q.x.0)) ≡ true = tick-test b (length (tube_of s xs q.x.0)) (omega (arith, len, r.within)) in
    let apart : nat_le (a + q.gap) b ≡ true = gap-test (a + q.gap) b r.apart in
    let before : a ≤ last_tick s.grid = omega (arith, r.apart, r.within) in
    let dx = least-magnitude (cell_at (tube_of s xs q.x.0) a) (cell_at (tube_of s xs q.x.0) b) (value_at w q.x.0 a) (value_at w q.x.0 b) (holds-at s w hull xs grid is below q.x.0 a nx before) (holds-at s w hull xs grid is below q.x.0 b nx r.within) in
    let dy = least-magnitude (cell_at (tube_of s xs q.y.0) a) (cell_at (tube_of s xs q.y.0) b) (value_at w q.y.0 a) (value_at w q.y.0 b) (holds-at s w hull xs grid is below q.y.0 a ny before) (holds-at s w hull xs grid is below q.y.0 b ny r.within) in
    and-true _ _ (and-true _ _ early apart)
    (near-mono q.norm (natural q.radius) (least_abs (change (tube_of s xs q.x.0) a b)) (least_abs (change (tube_of s xs q.y.0) a b)) (magnitude (value_at w q.x.0 b -ℤ value_at w q.x.0 a)) (magnitude (value_at w q.y.0 b -ℤ value_at w q.y.0 a)) dx dy r.near)
  where
    tick-test : (b n : ℕ) → b < n → nat_lt b n ≡ true
    tick-test b n h = grind (arith, nat_tests)

    gap-test : (a b : ℕ) → a ≤ b → nat_le a b ≡ true
    gap-test a b h = grind (arith, nat_tests)

pub sure-revisit : (s : Shape) (w : Assignment) (hull xs : List Span) (q : Query) → IsGrid s.grid → IsHull s w hull → IsBelow hull xs → q.x.0 < length s.signals → q.y.0 < length s.signals
    → (a b : ℕ) → is_sure (plane_of s xs q) a b ≡ true → IsRevisit q (last_tick s.grid) (value_at w q.x.0) (value_at w q.y.0) a b
sure-revisit s w hull xs q grid is below nx ny a b sure =
    let len : length (tube_of s xs q.x.0) ≡ last_tick s.grid + 1 = length-tube_of s xs q.x.0 in
    let valid : is_valid (plane_of s xs q) a b ≡ true = and-left _ _ sure in
    let early : b < length (tube_of s xs q.x.0) = tick-of b (length (tube_of s xs q.x.0)) (and-left _ _ valid) in
    let apart : a + q.gap ≤ b = gap-of (a + q.gap) b (and-right _ _ valid) in
    let within : b ≤ last_tick s.grid = omega (arith, len, early) in
    let before : a ≤ last_tick s.grid = omega (arith, apart, within) in
    let dx = magnitude-greatest (cell_at (tube_of s xs q.x.0) a) (cell_at (tube_of s xs q.x.0) b) (value_at w q.x.0 a) (value_at w q.x.0 b) (holds-at s w hull xs grid is below q.x.0 a nx before) (holds-at s w hull xs grid is below q.x.0 b nx within) in
    let dy = magnitude-greatest (cell_at (tube_of s xs q.y.0) a) (cell_at (tube_of s xs q.y.0) b) (value_at w q.y.0 a) (value_at w q.y.0 b) (holds-at s w hull xs grid is below q.y.0 a ny before) (holds-at s w hull xs grid is below q.y.0 b ny within) in
    record {
      apart = apart;
      within = within;
      near = near-mono q.norm (natural q.radius) (magnitude (value_at w q.x.0 b -ℤ value_at w q.x.0 a)) (magnitude (value_at w q.y.0 b -ℤ value_at w q.y.0 a)) (greatest_abs (change (tube_of s xs q.x.0) a b)) (greatest_abs (change (tube_of s xs q.y.0) a b)) dx dy (and-right _ _ sure);
    }
  where
    tick-of : (b n : ℕ) → nat_lt b n ≡ true → b < n
    tick-of b n e = grind (arith, nat_tests)

    gap-of : (a b : ℕ) → nat_le a b ≡ true → a ≤ b
    gap-of a b e = grind (arith, nat_tests)
