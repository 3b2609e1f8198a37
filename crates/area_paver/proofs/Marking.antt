-- From the runs of ticks to marks, and from lines of marks to a chart.
use Rattle.std.proofs.Common.{◌≡◌, ◌↔◌, ◌⊎◌, inl, inr, ℕ, suc, ◌+◌, ◌*◌, ◌-◌, ◌<◌, ◌≤◌, min, Bool, true, false, cond, List, [], ◌∷◌, ◌++◌, Vec, Global, vec_items, Option, Some, None, Result, length, get_or, ℤ, pos, ◌+ℤ◌, ◌-ℤ◌, ◌*ℤ◌, ◌≤ℤ◌, arith, refl, sym, subst, ap, ◌∙◌}
use Rattle.std.specs.Option.{IfSome}
use Rattle.std.proofs.lemmas.Int.{ints, clamps}
use Rattle.tube_spec.specs.Span.{Span, Holds, natural, point, sub_of}
use Rattle.tube_spec.specs.Shape.{Shape}
use Rattle.tube_spec.proofs.Spans.{same_span}
use Rattle.tube_spec.specs.Box.{cell_at}
use Rattle.hull_tree.specs.Plane.{tube_of, least_abs, greatest_abs}
use Rattle.tube_names.specs.declared.queries.Norm.{Norm}
use Rattle.tube_names.specs.declared.queries.Query.{Query}
use Rattle.tube_names.specs.Nearness.{is_near}
use Rattle.area_paver.specs.Survey.{Survey, survey_of, may_see, must_see, IsSeen, IsUnseen, IsMark}
use Rattle.area_paver.specs.Lattice.{most_points, signal_hull, widened, axis_of, coordinate, IsAxis}
use Rattle.area_paver.specs.Runs.{IsCovered, IsMarkBy, Covers}
use Rattle.area_paver.specs.Charts.{Chart, IsChartOver, AreLines, marks_of, mark_in, mark_by, mark_of, points_of, window_x, window_y}
use Rattle.area_paver.specs.declared.axis.Axis.{Axis}
use Rattle.area_paver.specs.declared.chart.Mark.{Mark}
use Rattle.area_paver.specs.declared.chart.Mark.TheVariants.{Never, Seen, Open}
use Rattle.area_paver.proofs.Sight.{least-within, greatest-within}
use Rattle.area_paver.proofs.Seeing.{near-swap, true-not}
use Rattle.area_paver.proofs.Tables.{get-before, get-last, marks-append, split}

pub added : {A B C D : Type 0} → (A ↔ (B ⊎ C)) → (C ↔ D) → A ↔ (B ⊎ D)
added {A} {B} {C} {D} h k = (
  λ a. elim (h.0 a) [ inl b ↦ inl b | inr g ↦ inr (k.0 g) ],
  λ s. elim s [ inl b ↦ h.1 (inl b) | inr d ↦ h.1 (inr (k.1 d)) ],
)

pub none-added : {B C : Type 0} → (C → ⊥) → B ↔ (B ⊎ C)
none-added {B} {C} h = (λ b. inl b, λ s. elim s [ inl b ↦ b | inr g ↦ absurd (h g) ])

order : (x y : ℤ) → (x ≤ℤ y) ⊎ ((y +ℤ pos 1) ≤ℤ x)
order x y = grind (arith, ints)

order-nat : (x y : ℕ) → (x < y) ⊎ (y ≤ x)
order-nat x y = grind arith

-- the points between two numbers are those from the one count on, before the other
pub run-of : (a : Axis) (low high lower : ℤ) (start stop end k : ℕ) → k < a.count → lower ≡ low -ℤ pos 1
    → ((k < start) ↔ ((a.first +ℤ (pos k *ℤ a.step)) ≤ℤ lower)) → ((k < stop) ↔ ((a.first +ℤ (pos k *ℤ a.step)) ≤ℤ high)) → end ≡ min stop a.count
    → ((start ≤ k) × (k < end)) ↔ Holds (record { lo = low; hi = high }) (coordinate a k)
run-of a low high lower start stop end k named e before upto m = (
  λ h.
      let u = upto.0 (omega (arith, h.1, m)) in
      record { low = elim (order (coordinate a k) lower) [ inl l ↦ absurd (let b = before.1 l in omega (arith, b, h.0)) | inr g ↦ omega (arith, ints, g, e) ]; high = u },
  λ h.
      let u = upto.1 h.high in
      (elim (order-nat k start) [ inl l ↦ absurd (let b = before.0 l in above (coordinate a k) b h.low) | inr g ↦ g ], omega (arith, u, named, m)),
)
  where
    above : (p : ℤ) → p ≤ℤ lower → low ≤ℤ p → ⊥
    above p b l = omega (arith, ints, b, l, e)

-- the points of a line that may be seen at a tick
pub may-add : {A B : Type 0} (n : Norm) (r dy ey : ℕ) (x : Span) (p w low high : ℤ) → dy ≡ ey → pos 0 ≤ℤ w → low ≡ x.lo -ℤ w → high ≡ x.hi +ℤ w
    → ((d : ℕ) → (is_near n r d dy ≡ true) ↔ (pos d ≤ℤ w)) → (A ↔ (B ⊎ Holds (record { lo = low; hi = high }) p)) → A ↔ (B ⊎ (is_near n r (least_abs (sub_of x (point p))) ey ≡ true))
may-add {A} {B} n r dy ey x p w low high e positive el eh reach h =
    let within = least-within x p w positive in
    let far = reach (least_abs (sub_of x (point p))) in
    added h (
      λ g. subst (λ (d : ℕ). is_near n r (least_abs (sub_of x (point p))) d ≡ true) e (far.1 (within.1 (record { low = subst (λ (z : ℤ). z ≤ℤ p) el g.low; high = subst (λ (z : ℤ). p ≤ℤ z) eh g.high }))),
      λ g.
          let s = within.0 (far.0 (subst (λ (d : ℕ). is_near n r (least_abs (sub_of x (point p))) d ≡ true) (sym e) g)) in
          record { low = subst (λ (z : ℤ). z ≤ℤ p) (sym el) s.low; high = subst (λ (z : ℤ). p ≤ℤ z) (sym eh) s.high },
    )

-- the points of a line that are surely seen at a tick
pub must-add : {A B : Type 0} (n : Norm) (r dy ey : ℕ) (x : Span) (p w low high : ℤ) → dy ≡ ey → pos 0 ≤ℤ w → low ≡ x.hi -ℤ w → high ≡ x.lo +ℤ w
    → ((d : ℕ) → (is_near n r d dy ≡ true) ↔ (pos d ≤ℤ w)) → (A ↔ (B ⊎ Holds (record { lo = low; hi = high }) p)) → A ↔ (B ⊎ (is_near n r (greatest_abs (sub_of x (point p))) ey ≡ true))
must-add {A} {B} n r dy ey x p w low high e positive el eh reach h =
    let within = greatest-within x p w positive in
    let far = reach (greatest_abs (sub_of x (point p))) in
    added h (
      λ g. subst (λ (d : ℕ). is_near n r (greatest_abs (sub_of x (point p))) d ≡ true) e (far.1 (within.1 (record { low = subst (λ (z : ℤ). z ≤ℤ p) el g.low; high = subst (λ (z : ℤ). p ≤ℤ z) eh g.high }))),
      λ g.
          let s = within.0 (far.0 (subst (λ (d : ℕ). is_near n r (greatest_abs (sub_of x (point p))) d ≡ true) (sym e) g)) in
          record { low = subst (λ (z : ℤ). z ≤ℤ p) (sym el) s.low; high = subst (λ (z : ℤ). p ≤ℤ z) (sym eh) s.high },
    )

-- where the line is too far off no point is added
pub far-add : {B : Type 0} (n : Norm) (r dx dy ey : ℕ) → dy ≡ ey → ((d : ℕ) → is_near n r d dy ≡ false) → B ↔ (B ⊎ (is_near n r dx ey ≡ true))
far-add {B} n r dx dy ey e far = none-added (λ g. true-not (is_near n r dx ey) g (subst (λ (d : ℕ). is_near n r dx d ≡ false) e (far dx)))

-- the same of what the tubes are at a tick
pub tick-may : (v : Survey) (k : ℕ) (a : Axis) (q : ℤ) (x y : Span) (old new : List ℕ) → x ≡ cell_at v.xs k → y ≡ cell_at v.ys k
    → ((i : ℕ) → i < a.count → IsCovered new i ↔ (IsCovered old i ⊎ (is_near v.norm v.radius (least_abs (sub_of x (point (coordinate a i)))) (least_abs (sub_of y (point q))) ≡ true)))
    → (i : ℕ) → i < a.count → IsCovered new i ↔ (IsCovered old i ⊎ (may_see v k (coordinate a i) q ≡ true))
tick-may v k a q x y old new e f h i l =
    subst (λ (s : Span). IsCovered new i ↔ (IsCovered old i ⊎ (is_near v.norm v.radius (least_abs (sub_of s (point (coordinate a i)))) (least_abs (sub_of (cell_at v.ys k) (point q))) ≡ true))) e
    (subst (λ (s : Span). IsCovered new i ↔ (IsCovered old i ⊎ (is_near v.norm v.radius (least_abs (sub_of x (point (coordinate a i)))) (least_abs (sub_of s (point q))) ≡ true))) f (h i l))

pub tick-must : (v : Survey) (k : ℕ) (a : Axis) (q : ℤ) (x y : Span) (old new : List ℕ) → x ≡ cell_at v.xs k → y ≡ cell_at v.ys k
    → ((i : ℕ) → i < a.count → IsCovered new i ↔ (IsCovered old i ⊎ (is_near v.norm v.radius (greatest_abs (sub_of x (point (coordinate a i)))) (greatest_abs (sub_of y (point q))) ≡ true)))
    → (i : ℕ) → i < a.count → IsCovered new i ↔ (IsCovered old i ⊎ (must_see v k (coordinate a i) q ≡ true))
tick-must v k a q x y old new e f h i l =
    subst (λ (s : Span). IsCovered new i ↔ (IsCovered old i ⊎ (is_near v.norm v.radius (greatest_abs (sub_of s (point (coordinate a i)))) (greatest_abs (sub_of (cell_at v.ys k) (point q))) ≡ true))) e
    (subst (λ (s : Span). IsCovered new i ↔ (IsCovered old i ⊎ (is_near v.norm v.radius (greatest_abs (sub_of x (point (coordinate a i)))) (greatest_abs (sub_of s (point q))) ≡ true))) f (h i l))

not-true : (x : Bool) → (x ≡ true → ⊥) → x ≡ false
not-true true h = absurd (h refl)
not-true false h = refl

-- the mark by the runs of all ticks is the mark of the place
pub by-mark : (v : Survey) (a : Axis) (q : ℤ) (sure possible : List ℕ) (i : ℕ) (m : Mark) → i < a.count
    → Covers sure a.count (length v.xs) (λ k c. must_see v k (coordinate a c) q) → Covers possible a.count (length v.xs) (λ k c. may_see v k (coordinate a c) q)
    → IsMarkBy sure possible i m → IsMark v (coordinate a i) q m
by-mark v a q sure possible i Seen l s p h = (s i l).0 h
by-mark v a q sure possible i Never l s p h = λ k g. not-true (may_see v k (coordinate a i) q) (λ e. h.1 ((p i l).1 (k, g, e)))
by-mark v a q sure possible i Open l s p h = (
  λ g. h.0 ((s i l).1 g),
  λ g. let t = (p i l).0 h.1 in true-not (may_see v t.0 (coordinate a i) q) t.2 (g t.0 t.1),
)

-- one line more
pub lines-mark : (v : Survey) (a b : Axis) (lines more : List (Vec Mark Global)) (line : Vec Mark Global) (n : ℕ) (q : ℤ) → length (marks_of lines) ≡ n → more ≡ lines ++ line ∷ []
    → ((i c : ℕ) → i < n → c < a.count → IsMark v (coordinate a c) (coordinate b i) (mark_in (marks_of lines) i c)) → q ≡ coordinate b n
    → ((c : ℕ) → c < a.count → IsMark v (coordinate a c) q (get_or (vec_items line) c Open))
    → (i c : ℕ) → i < n + 1 → c < a.count → IsMark v (coordinate a c) (coordinate b i) (mark_in (marks_of more) i c)
lines-mark v a b lines more line n q len e old is here i c l g =
    elim (split i n l) [
      | inl h ↦
          let same : get_or (marks_of more) i [] ≡ get_or (marks_of lines) i [] = ap (λ (x : List (List Mark)). get_or x i []) (marks-append lines more line e) ∙ get-before (marks_of lines) (vec_items line) [] i (omega (arith, h, len)) in
          subst (λ (row : List Mark). IsMark v (coordinate a c) (coordinate b i) (get_or row c Open)) (sym same) (old i c h g)
      | inr h ↦
          let same : get_or (marks_of more) i [] ≡ vec_items line = ap (λ (x : List (List Mark)). get_or x i []) (marks-append lines more line e) ∙ get-last (marks_of lines) (vec_items line) [] i (omega (arith, h, len)) in
          subst (λ (row : List Mark). IsMark v (coordinate a c) (coordinate b i) (get_or row c Open)) (sym same)
          (subst (λ (z : ℤ). IsMark v (coordinate a c) z (get_or (vec_items line) c Open)) (is ∙ ap (coordinate b) (sym h)) (here c g))
    ]

-- a survey with its coordinates exchanged marks exchanged places
may-swap : (v : Survey) (k : ℕ) (p q : ℤ) → may_see (record { xs = v.ys; ys = v.xs; radius = v.radius; norm = v.norm }) k q p ≡ may_see v k p q
may-swap v k p q = near-swap v.norm v.radius _ _

must-swap : (v : Survey) (k : ℕ) (p q : ℤ) → must_see (record { xs = v.ys; ys = v.xs; radius = v.radius; norm = v.norm }) k q p ≡ must_see v k p q
must-swap v k p q = near-swap v.norm v.radius _ _

pub mark-swap : (v : Survey) (p q : ℤ) (m : Mark) → length v.ys ≡ length v.xs → IsMark (record { xs = v.ys; ys = v.xs; radius = v.radius; norm = v.norm }) q p m → IsMark v p q m
mark-swap v p q Seen len h = (h.0, omega (arith, h.1, len), sym (must-swap v h.0 p q) ∙ h.2)
mark-swap v p q Never len h = λ k l. sym (may-swap v k p q) ∙ h k (omega (arith, l, len))
mark-swap v p q Open len h = (
  λ s. h.0 (s.0, omega (arith, s.1, len), must-swap v s.0 p q ∙ s.2),
  λ u. h.1 (λ k l. may-swap v k p q ∙ u k (omega (arith, l, len))),
)

pub by-turned : (v : Survey) (a b : Axis) (t : Bool) (lines : List (List Mark)) → t ≡ true → length v.ys ≡ length v.xs
    → ((i c : ℕ) → i < a.count → c < b.count → IsMark (record { xs = v.ys; ys = v.xs; radius = v.radius; norm = v.norm }) (coordinate b c) (coordinate a i) (mark_in lines i c))
    → (i j : ℕ) → i < a.count → j < b.count → IsMark v (coordinate a i) (coordinate b j) (mark_by t lines i j)
by-turned v a b t lines e len h i j li lj =
    subst (λ (x : Bool). IsMark v (coordinate a i) (coordinate b j) (mark_by x lines i j)) (sym e) (mark-swap v (coordinate a i) (coordinate b j) (mark_in lines i j) len (h i j li lj))

-- ---- over a box

pub axis-told : (box : Option (List Span)) (s : Shape) (signal : ℕ) (hull : Span) (low high by step given : ℤ) (a : Axis) → IfSome box (λ xs. hull ≡ signal_hull s xs signal) → low ≡ hull.lo -ℤ by → high ≡ hull.hi +ℤ by
    → given ≡ step → a ≡ axis_of given (record { lo = low; hi = high }) → IfSome box (λ xs. a ≡ axis_of step (widened by (signal_hull s xs signal)))
axis-told None s signal hull low high by step given a h el eh es e = tt
axis-told (Some xs) s signal hull low high by step given a h el eh es e =
    e ∙ ap (λ (z : ℤ). axis_of z (record { lo = low; hi = high })) es ∙ ap (axis_of step) (same_span (record { lo = low; hi = high }) (widened by hull) el eh) ∙ ap (λ (t : Span). axis_of step (widened by t)) h

pub chart-told : (box : Option (List Span)) (s : Shape) (query : Query) (xl yl : List Span) (radius : ℕ) (a b : Axis) (c : Chart)
    → IfSome box (λ xs. xl ≡ tube_of s xs query.x.0) → IfSome box (λ xs. yl ≡ tube_of s xs query.y.0) → radius ≡ natural query.radius → c.columns ≡ a → c.rows ≡ b
    → ((i j : ℕ) → i < a.count → j < b.count → IsMark (record { xs = xl; ys = yl; radius = radius; norm = query.norm }) (coordinate a i) (coordinate b j) (mark_of c i j))
    → IfSome box (λ xs. IsChartOver (survey_of s xs query) a b c)
chart-told None s query xl yl radius a b c hx hy r ea eb h = tt
chart-told (Some xs) s query xl yl radius a b c hx hy r ea eb h =
    record {
      columns = ea;
      rows = eb;
      marks = λ i j li lj.
          subst (λ (l : List Span). IsMark (record { xs = l; ys = tube_of s xs query.y.0; radius = natural query.radius; norm = query.norm }) (coordinate a i) (coordinate b j) (mark_of c i j)) hx
          (subst (λ (l : List Span). IsMark (record { xs = xl; ys = l; radius = natural query.radius; norm = query.norm }) (coordinate a i) (coordinate b j) (mark_of c i j)) hy
          (subst (λ (n : ℕ). IsMark (record { xs = xl; ys = yl; radius = n; norm = query.norm }) (coordinate a i) (coordinate b j) (mark_of c i j)) r (h i j li lj)));
    }

pub points-told : (box : Option (List Span)) (s : Shape) (query : Query) (step : ℤ) (a b : Axis) (P : Type 0) → IfSome box (λ xs. a ≡ axis_of step (window_x s xs query)) → IfSome box (λ xs. b ≡ axis_of step (window_y s xs query))
    → (P ↔ (most_points < a.count * b.count)) → IfSome box (λ xs. P ↔ (most_points < points_of s xs query step))
points-told None s query step a b P ea eb h = tt
points-told (Some xs) s query step a b P ea eb h = subst (λ (n : ℕ). P ↔ (most_points < n)) (ap (λ (c : Axis). c.count * b.count) ea ∙ ap (λ (c : Axis). (axis_of step (window_x s xs query)).count * c.count) eb) h

pub over-told : (box : Option (List Span)) (s : Shape) (query : Query) (step : ℤ) (a b : Axis) (c : Chart) → IfSome box (λ xs. a ≡ axis_of step (window_x s xs query)) → IfSome box (λ xs. b ≡ axis_of step (window_y s xs query))
    → IfSome box (λ xs. IsChartOver (survey_of s xs query) a b c) → IfSome box (λ xs. IsChartOver (survey_of s xs query) (axis_of step (window_x s xs query)) (axis_of step (window_y s xs query)) c)
over-told None s query step a b c ea eb h = tt
over-told (Some xs) s query step a b c ea eb h =
    subst (λ (d : Axis). IsChartOver (survey_of s xs query) d (axis_of step (window_y s xs query)) c) ea (subst (λ (d : Axis). IsChartOver (survey_of s xs query) a d c) eb h)
