-- Trajectories in a box, and what they see.
use Rattle.std.proofs.Common.{◌≡◌, ◌↔◌, ◌⊎◌, inl, inr, ℕ, zero, suc, ◌+◌, ◌*◌, ◌-◌, ◌<◌, ◌≤◌, Bool, true, false, cond, leb, ltb, nat_le, ◌&&◌, List, [], ◌∷◌, length, slice_index, ℤ, pos, negsuc, ◌+ℤ◌, ◌-ℤ◌, ◌*ℤ◌, neg_ℤ, ◌≤ℤ◌, ◌<ℤ◌, arith, refl, sym, subst, ap, zero-add, ◌∙◌}
use Rattle.std.specs.Int.{int_max, int_div_euclid}
use Rattle.std.proofs.lemmas.Int.{ints, clamps}
use Rattle.std.proofs.Math.IntN.{*ℤ_comm}
use Rattle.std.proofs.Math.Nat.{mul-le-mul_left}
use Rattle.std.proofs.lemmas.Bool.Decides.{nat_tests}
use Rattle.tube_spec.specs.Span.{Span, Holds, IsWithin, natural, point, sub_of}
use Rattle.tube_spec.specs.Grid.{IsGrid, last_tick}
use Rattle.tube_spec.specs.Shape.{Shape}
use Rattle.tube_spec.specs.Box.{cell_at, IsBelow, IsBox}
use Rattle.tube_spec.specs.Tick.{tick_place, at_tick, join_over}
use Rattle.tube_spec.specs.Assignment.{Assignment, value_at, IsHull}
use Rattle.tube_spec.proofs.Families.{join_over-holds}
use Rattle.tube_spec.proofs.Ticks.{at_tick-holds}
use Rattle.hull_tree.specs.Plane.{tube_of, least_abs, greatest_abs}
use Rattle.hull_tree.specs.Revisits.{magnitude}
use Rattle.hull_tree.proofs.Judgements.{natural-mono, near-mono}
use Rattle.hull_tree.proofs.Nearness.{length-tube_of, tube_of-tick, least-magnitude, magnitude-greatest}
use Rattle.tube_names.specs.declared.queries.Norm.{Norm}
use Rattle.tube_names.specs.declared.queries.Norm.TheVariants.{Maximum, Disc}
use Rattle.tube_names.specs.declared.queries.Query.{Query}
use Rattle.tube_names.specs.Nearness.{is_near}
use Rattle.area_paver.specs.Survey.{Survey, Sees, survey_of, offset, may_see, must_see, IsSeen, IsUnseen, IsMark}
use Rattle.area_paver.specs.Lattice.{signal_cell, signal_hull, widened, multiple_from, count_to, axis_of, coordinate}
use Rattle.area_paver.specs.Charts.{window_x, window_y}
use Rattle.area_paver.specs.Laws.{SeenBy, Tells}
use Rattle.area_paver.specs.declared.chart.Mark.{Mark}
use Rattle.area_paver.specs.declared.chart.Mark.TheVariants.{Never, Seen, Open}
use Rattle.area_paver.proofs.Axes.{count-points, multiple-near}
use Rattle.area_paver.proofs.Sight.{square-less, natural-most}

-- a tick stands among the cells of a signal
place-last : (grid : List ℕ) (k : ℕ) → tick_place grid k ≤ 2 * length grid - 2
place-last [] k = omega arith
place-last (a ∷ []) k = omega arith
place-last (a ∷ (b ∷ rest)) k = by (leb k a) (ltb k b) (place-last (b ∷ rest) k)
  where
    by : (x y : Bool) → tick_place (b ∷ rest) k ≤ 2 * length (b ∷ rest) - 2 → cond x 0 (cond y 1 (suc (suc (tick_place (b ∷ rest) k)))) ≤ 2 * length (a ∷ (b ∷ rest)) - 2
    by true y h = omega arith
    by false true h = omega arith
    by false false h = omega (arith, h)

-- near places are near in each coordinate
near-x : (n : Norm) (r dx dy : ℕ) → is_near n r dx dy ≡ true → dx ≤ r
near-x Maximum r dx dy h = grind (arith, nat_tests)
near-x Disc r dx dy h = squared r dx dy (tested (dx * dx + dy * dy) (r * r) h)
  where
    tested : (x y : ℕ) → nat_le x y ≡ true → x ≤ y
    tested x y e = grind (arith, nat_tests)

    order : (a b : ℕ) → (a ≤ b) ⊎ (b < a)
    order a b = grind arith

    squared : (r dx dy : ℕ) → dx * dx + dy * dy ≤ r * r → dx ≤ r
    squared r dx dy h = elim (order dx r) [ inl l ↦ l | inr g ↦ let e = square-less r dx g in absurd (omega (arith, h, e)) ]

pub near-swap : (n : Norm) (r dx dy : ℕ) → is_near n r dy dx ≡ is_near n r dx dy
near-swap Maximum r dx dy = both (nat_le dy r) (nat_le dx r)
  where
    both : (x y : Bool) → (x && y) ≡ (y && x)
    both true true = refl
    both true false = refl
    both false true = refl
    both false false = refl
near-swap Disc r dx dy = let e : dy * dy + dx * dx ≡ dx * dx + dy * dy = omega arith in ap (λ (x : ℕ). nat_le x (r * r)) e

-- a place within a radius of a number in a span lies in the wider span
in-window : (t : Span) (v p : ℤ) (r : ℤ) → Holds t v → pos 0 ≤ℤ r → magnitude (v -ℤ p) ≤ natural r → Holds (widened r t) p
in-window t v p (pos r) h positive near =
    let most = (natural-most (int_max (v -ℤ p) (neg_ℤ (v -ℤ p))) (pos r) positive).0 (omega (arith, ints, near)) in
    record { low = omega (arith, ints, clamps, h, most); high = omega (arith, ints, clamps, h, most) }
in-window t v p (negsuc r) h positive near = absurd (omega (arith, ints, positive))

pub true-not : (x : Bool) → x ≡ true → x ≡ false → ⊥
true-not x e f = absurd (cc)

module _ (s : Shape) (w : Assignment) (hull box : List Span) (q : Query) (grid : IsGrid s.grid) (is : IsHull s w hull) (below : IsBelow hull box) (nx : q.x.0 < length s.signals) (ny : q.y.0 < length s.signals) (positive : pos 0 ≤ℤ q.radius) where
  -- the values of the assignment at the ticks
  holds-at : (signal k : ℕ) → signal < length s.signals → k ≤ last_tick s.grid → Holds (cell_at (tube_of s box signal) k) (value_at w signal k)
  holds-at signal k named within = subst (λ (x : Span). Holds x (value_at w signal k)) (sym (tube_of-tick s box signal k within)) (at_tick-holds s w hull box grid is below signal k named within)

  in-hull : (signal k : ℕ) → signal < length s.signals → k ≤ last_tick s.grid → Holds (signal_hull s box signal) (value_at w signal k)
  in-hull signal k named within =
      let here = at_tick-holds s w hull box grid is below signal k named within in
      let wide : IsWithin (at_tick s box signal k) (signal_hull s box signal) =
      subst (λ (i : ℕ). IsWithin (signal_cell s box signal i) (signal_hull s box signal)) (zero-add (tick_place s.grid k)) (join_over-holds (signal_cell s box signal) 0 (2 * length s.grid - 2) (tick_place s.grid k) (place-last s.grid k)) in
      record { low = omega (arith, ints, here.low, wide.low); high = omega (arith, ints, here.high, wide.high) }

  point-holds : (p : ℤ) → Holds (point p) p
  point-holds p = record { low = omega (arith, ints); high = omega (arith, ints) }

  pub tells : (p r : ℤ) → Tells s box q w p r
  tells p r = record {
    seen = λ m. sees m;
    never = λ m v. unseen m v;
    window_x = λ v. in-window (signal_hull s box q.x.0) (value_at w q.x.0 v.tick) p q.radius (in-hull q.x.0 v.tick nx v.within) positive (near-x q.norm (natural q.radius) _ _ v.near);
    window_y = λ v. in-window (signal_hull s box q.y.0) (value_at w q.y.0 v.tick) r q.radius (in-hull q.y.0 v.tick ny v.within) positive (near-x q.norm (natural q.radius) _ _ (near-swap q.norm (natural q.radius) _ _ ∙ v.near));
  }
    where
      sees : IsSeen (survey_of s box q) p r → SeenBy s w q p r
      sees m =
          let within : m.0 ≤ last_tick s.grid = omega (arith, m.1, length-tube_of s box q.x.0) in
          let dx = magnitude-greatest (point p) (cell_at (tube_of s box q.x.0) m.0) p (value_at w q.x.0 m.0) (point-holds p) (holds-at q.x.0 m.0 nx within) in
          let dy = magnitude-greatest (point r) (cell_at (tube_of s box q.y.0) m.0) r (value_at w q.y.0 m.0) (point-holds r) (holds-at q.y.0 m.0 ny within) in
          record { tick = m.0; within = within; near = near-mono q.norm (natural q.radius) _ _ (greatest_abs (offset (tube_of s box q.x.0) m.0 p)) (greatest_abs (offset (tube_of s box q.y.0) m.0 r)) dx dy m.2 }

      unseen : IsUnseen (survey_of s box q) p r → SeenBy s w q p r → ⊥
      unseen m v =
          let dx = least-magnitude (point p) (cell_at (tube_of s box q.x.0) v.tick) p (value_at w q.x.0 v.tick) (point-holds p) (holds-at q.x.0 v.tick nx v.within) in
          let dy = least-magnitude (point r) (cell_at (tube_of s box q.y.0) v.tick) r (value_at w q.y.0 v.tick) (point-holds r) (holds-at q.y.0 v.tick ny v.within) in
          true-not (may_see (survey_of s box q) v.tick p r)
          (near-mono q.norm (natural q.radius) (least_abs (offset (tube_of s box q.x.0) v.tick p)) (least_abs (offset (tube_of s box q.y.0) v.tick r)) _ _ dx dy v.near)
          (m v.tick (omega (arith, v.within, length-tube_of s box q.x.0)))

-- what is seen for sure may be seen
must-may : (v : Survey) (k : ℕ) (p r : ℤ) → IsBox v.xs → IsBox v.ys → must_see v k p r ≡ true → may_see v k p r ≡ true
must-may v k p r hx hy m = near-mono v.norm v.radius _ _ (greatest_abs (offset v.xs k p)) (greatest_abs (offset v.ys k r)) (least-greatest (cell_at v.xs k) p (hx k)) (least-greatest (cell_at v.ys k) r (hy k)) m
  where
    least-greatest : (t : Span) (p : ℤ) → t.lo ≤ℤ t.hi → least_abs (sub_of t (point p)) ≤ greatest_abs (sub_of t (point p))
    least-greatest t p h = natural-mono (int_max (t.lo -ℤ p) (neg_ℤ (t.hi -ℤ p))) (int_max (t.hi -ℤ p) (neg_ℤ (t.lo -ℤ p))) (omega (arith, ints, clamps, h))

-- a place has one mark
pub one-mark : (v : Survey) (p r : ℤ) (m n : Mark) → IsBox v.xs → IsBox v.ys → IsMark v p r m → IsMark v p r n → m ≡ n
one-mark v p r m n hx hy = by m n
  where
    both : IsSeen v p r → IsUnseen v p r → ⊥
    both a b = true-not (may_see v a.0 p r) (must-may v a.0 p r hx hy a.2) (b a.0 a.1)

    by : (m n : Mark) → IsMark v p r m → IsMark v p r n → m ≡ n
    by Never Never a b = refl
    by Never Seen a b = absurd (both b a)
    by Never Open a b = absurd (b.1 a)
    by Seen Never a b = absurd (both a b)
    by Seen Seen a b = refl
    by Seen Open a b = absurd (b.0 a)
    by Open Never a b = absurd (a.1 b)
    by Open Seen a b = absurd (a.0 b)
    by Open Open a b = refl
