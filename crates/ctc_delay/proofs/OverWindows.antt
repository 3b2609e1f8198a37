-- Hulls over windows: how they join, what they are of a box, and that held places are fired as the formulas are.
use Rattle.std.proofs.Common.{◌≡◌, ℕ, zero, suc, ◌+◌, ◌-◌, ◌*◌, ◌/◌, ◌<◌, ◌≤◌, ◌⊎◌, inl, inr, Option, Some, None, IsSome, IfSome, List, ◌∷◌, ◌++◌, cond, ℤ, pos, negsuc, ◌+ℤ◌, ◌≤ℤ◌, int_le, arith, refl, sym, ap, subst, ◌∙◌, All, length, map, slice_index, slice_index_or}
use Rattle.std.specs.List.{range_with_len}
use Rattle.std.proofs.lemmas.Bool.{cases_lt}
use Rattle.std.proofs.lemmas.Int.{ints}
use Rattle.std.proofs.lemmas.List.{map-append}
use Rattle.std.proofs.lemmas.List.FromFn.{length-map-range_with_len, get_or-map-range_with_len}
use Rattle.tube_spec.specs.Span.{Span, IsWithin, join_of, point}
use Rattle.tube_spec.specs.Narrowing.{Narrowing, Within, Whole, narrowing_of}
use Rattle.tube_spec.specs.Grid.{IsGrid, last_tick}
use Rattle.tube_spec.specs.Shape.{Shape}
use Rattle.tube_spec.specs.Box.{cell_at}
use Rattle.tube_spec.specs.Tick.{join_over}
use Rattle.tube_spec.specs.Projection.{Projection}
use Rattle.tube_spec.proofs.Spans.{IsWithin-refl, IsWithin-trans, join-left, join-right, join-least, same_span}
use Rattle.tube_spec.proofs.Families.{join_over-holds, join_over-least}
use Rattle.tube_spec.proofs.Ticks.{Rises}
use Rattle.ctc_core.specs.Given.{projection_at, no_projection}
use Rattle.ctc_core.proofs.Fixing.{Fixes}
use Rattle.ctc_delay.specs.Places.{place_count, place_first, place_last}
use Rattle.ctc_delay.specs.Delays.{at_tick_from, lies_in, delayed_hull, delay_to_at, delay_from_at}
use Rattle.ctc_delay.specs.Ranges.{AreDelays}
use Rattle.ctc_delay.specs.Hulls.{lies_in-holds, holds-lies_in}
use Rattle.ctc_delay.specs.Windows.{IsOver, cells_of, signal_at, held_projection, held_projections}
use Rattle.ctc_delay.specs.declared.held.Held.{Held}
use Rattle.ctc_delay.proofs.DelayHulls.{hull-earlier, hull-later}
use Rattle.ctc_delay.proofs.Formulas.{guarded}

-- ---- places begin and end ever later

boundary-order : (grid : List ℕ) → Rises grid → (i n : ℕ) → i + n < length grid → slice_index grid i ≤ slice_index grid (i + n)
boundary-order grid up i zero l =
    let e : i ≡ i + 0 = omega arith in
    subst (λ (m : ℕ). slice_index grid i ≤ slice_index grid m) e (omega arith)
boundary-order grid up i (suc n) l =
    let before = boundary-order grid up i n (omega (arith, l)) in
    let next = up (i + n) (omega (arith, l)) in
    let e : i + n + 1 ≡ i + suc n = omega arith in
    subst (λ (m : ℕ). slice_index grid i ≤ slice_index grid m) e (omega (arith, before, next))

boundary-mono : (grid : List ℕ) → Rises grid → (i j : ℕ) → i ≤ j → j < length grid → slice_index grid i ≤ slice_index grid j
boundary-mono grid up i j h l =
    let e : i + (j - i) ≡ j = omega (arith, h) in
    subst (λ (m : ℕ). slice_index grid i ≤ slice_index grid m) e (boundary-order grid up i (j - i) (omega (arith, h, l)))

pub first-rises : (grid : List ℕ) → IsGrid grid → (from place : ℕ) → from ≤ place → place < place_count grid → place_first grid from ≤ place_first grid place
first-rises grid is from place h among = boundary-mono grid is.rising (from / 2) (place / 2) (omega (arith, h)) (omega (arith, among, is.slices))

pub last-rises : (grid : List ℕ) → IsGrid grid → (from place : ℕ) → from ≤ place → place < place_count grid → place_last grid from ≤ place_last grid place
last-rises grid is from place h among = boundary-mono grid is.rising ((from + 1) / 2) ((place + 1) / 2) (omega (arith, h)) (omega (arith, among, is.slices))

-- ---- hulls over ticks

pub join-is : (f : ℕ → Span) (a b : ℕ) → a ≤ b → IsOver f a b (join_over f a (b - a))
join-is f a b order = record {
  holds = λ k low high.
      let there : a + (k - a) ≡ k = omega (arith, low) in
      subst (λ (t : ℕ). IsWithin (f t) (join_over f a (b - a))) there (join_over-holds f a (b - a) (k - a) (omega (arith, low, high)));
  least = λ t all. join_over-least f a (b - a) t (λ k h. all (a + k) (omega arith) (omega (arith, h, order)));
}

-- the hull over some ticks and that over the ticks from the last of them on
pub over-join : (f : ℕ → Span) (a m b : ℕ) (p q : Span) → a ≤ m → m ≤ b → IsOver f a m p → IsOver f m b q → IsOver f a b (join_of p q)
over-join f a m b p q low high one two = record {
  holds = λ k after before. elim (cases_lt m k) [
    | inl l ↦ IsWithin-trans (f k) q (join_of p q) (two.holds k (omega (arith, l)) before) (join-right p q)
    | inr l ↦ IsWithin-trans (f k) p (join_of p q) (one.holds k after l) (join-left p q)
  ];
  least = λ t all. join-least p q t (one.least t (λ k after before. all k after (omega (arith, before, high)))) (two.least t (λ k after before. all k (omega (arith, after, low)) before));
}

-- a fact of the cells of a box that is there
pub of-cells : (box : Option (List Span)) (P : List Span → Type 0) → IsSome box → IfSome box P → P (cells_of box)
of-cells None P some h = absurd (cc)
of-cells (Some xs) P some h = h

-- the hull over one tick
pub over-one : (f : ℕ → Span) (a : ℕ) (p : Span) → p ≡ f a → IsOver f a a p
over-one f a p e = record {
  holds = λ k low high.
      let same : a ≡ k = omega (arith, low, high) in
      subst (λ (s : Span). IsWithin (f k) s) (sym (e ∙ ap f same)) (IsWithin-refl (f k));
  least = λ t all. subst (λ (s : Span). IsWithin s t) (sym e) (all a (omega arith) (omega arith));
}

-- the hull up to a tick is that up to a later one, where the ticks between have what that tick has
pub over-still : (f : ℕ → Span) (first from last : ℕ) (p : Span) → first ≤ from → from ≤ last → IsOver f first from p → ((k : ℕ) → from ≤ k → k ≤ last → f k ≡ f from) → IsOver f first last p
over-still f first from last p low high over same = record {
  holds = λ k after before. elim (cases_lt from k) [
    | inl l ↦ subst (λ (s : Span). IsWithin s p) (sym (same k (omega (arith, l)) before)) (over.holds from low (omega arith))
    | inr l ↦ over.holds k after l
  ];
  least = λ t all. over.least t (λ k after before. all k after (omega (arith, before, high)));
}

-- and with one tick more
pub over-next : (f : ℕ → Span) (first from tick : ℕ) (p q : Span) → first ≤ from → from < tick → IsOver f first from p → ((k : ℕ) → from ≤ k → k < tick → f k ≡ f from) → q ≡ f tick → IsOver f first tick (join_of p q)
over-next f first from tick p q low high over same e = record {
  holds = λ k after before. elim (cases_lt k tick) [
    | inl l ↦ IsWithin-trans (f k) p (join_of p q) ((over-still f first from (tick - 1) p low (omega (arith, high)) over (λ j a b. same j a (omega (arith, b, high)))).holds k after (omega (arith, l))) (join-left p q)
    | inr l ↦
        let last : tick ≡ k = omega (arith, l, before) in
        subst (λ (s : Span). IsWithin s (join_of p q)) (e ∙ ap f last) (join-right p q)
  ];
  least = λ t all. join-least p q t (over.least t (λ k after before. all k after (omega (arith, before, high)))) (subst (λ (s : Span). IsWithin s t) (sym e) (all tick (omega (arith, low, high)) (omega arith)));
}

-- there is one hull over some ticks
pub over-same : (f : ℕ → Span) (a b : ℕ) (p q : Span) → IsOver f a b p → IsOver f a b q → p ≡ q
over-same f a b p q one two =
    let v = one.least q two.holds in
    let w = two.least p one.holds in
    same_span p q (omega (arith, ints, v.low, w.low)) (omega (arith, ints, v.high, w.high))

-- ---- the delays of a span that does not reach past the last tick

pub greatest-is : (tau : Span) (last least greatest : ℕ) → AreDelays tau last least greatest → tau.hi ≤ℤ pos last → tau.hi ≤ℤ pos greatest
greatest-is tau last least greatest are few = at tau.hi refl
  where
    at : (h : ℤ) → tau.hi ≡ h → tau.hi ≤ℤ pos greatest
    at (pos n) e =
        let low = (lies_in-holds tau least (are.inside least (omega arith) are.order)).low in
        let high = (lies_in-holds tau least (are.inside least (omega arith) are.order)).high in
        let here = are.outside n (omega (arith, ints, few, e)) (holds-lies_in tau n (record { low = omega (arith, ints, low, high, e); high = omega (arith, ints, e) })) in
        omega (arith, ints, here.1, e)
    at (negsuc n) e =
        let high = (lies_in-holds tau least (are.inside least (omega arith) are.order)).high in
        absurd (omega (arith, ints, high, e))

-- ---- what the formulas give of the hull over a window

-- a fact of a box that is there, from one of its cells
pub if-cells : (box : Option (List Span)) (P Q : List Span → Type 0) → IfSome box P → (P (cells_of box) → Q (cells_of box)) → IfSome box Q
if-cells None P Q h f = tt
if-cells (Some xs) P Q h f = f h

over-at : (f : ℕ → Span) (a b c d : ℕ) (hull : Span) → a ≡ c → b ≡ d → IsOver f a b hull → IsOver f c d hull
over-at f a b c d hull e g over = subst (λ (t : ℕ). IsOver f c t hull) g (subst (λ (t : ℕ). IsOver f t b hull) e over)

module _ (grid : List ℕ) (xs : List Span) (x y tau place least greatest : ℕ) (hull t : Span) (is : t ≡ cell_at xs tau) (are : AreDelays t (last_tick grid) least greatest)
    (order : place_first grid place ≤ place_last grid place) where
  pub to-window : t.hi ≤ℤ pos (place_first grid place) → greatest ≤ place_first grid place
      → IsOver (at_tick_from grid xs x) ((place_first grid place + 0) - greatest) ((place_last grid place + (greatest - least) + 0) - greatest) hull → (delay_to_at grid x y tau place).formula xs ≡ Within hull
  to-window reached few over =
      let g : ℕ → Span = at_tick_from grid xs x in
      let a : ℕ = place_first grid place in
      let b : ℕ = place_last grid place in
      let there : (a - greatest) ≤ (b - least) = omega (arith, order, are.order) in
      let first : (a + 0) - greatest ≡ a - greatest = omega arith in
      let end : (b + (greatest - least) + 0) - greatest ≡ b - least = omega (arith, order, few, are.order) in
      let here = over-at g ((a + 0) - greatest) ((b + (greatest - least) + 0) - greatest) (a - greatest) (b - least) hull first end over in
      ap (λ (v : Span). cond (int_le v.hi (pos a)) (narrowing_of (delayed_hull (λ k d. g (k - d)) v (last_tick grid) a b)) Whole) (sym is)
      ∙ sym (guarded t.hi (pos a) (delayed_hull (λ k d. g (k - d)) t (last_tick grid) a b) reached)
      ∙ ap narrowing_of (sym (hull-earlier g t (last_tick grid) a b least greatest are order few))
      ∙ ap Within (over-same g (a - greatest) (b - least) (join_over g (a - greatest) ((b - least) - (a - greatest))) hull (join-is g (a - greatest) (b - least) there) here)

  pub from-window : (pos (place_last grid place) +ℤ t.hi) ≤ℤ pos (last_tick grid)
      → IsOver (at_tick_from grid xs y) ((place_first grid place + least) - 0) ((place_last grid place + (greatest - least) + least) - 0) hull → (delay_from_at grid x y tau place).formula xs ≡ Within hull
  from-window reached over =
      let g : ℕ → Span = at_tick_from grid xs y in
      let a : ℕ = place_first grid place in
      let b : ℕ = place_last grid place in
      let there : (a + least) ≤ (b + greatest) = omega (arith, order, are.order) in
      let first : (a + least) - 0 ≡ a + least = omega arith in
      let end : (b + (greatest - least) + least) - 0 ≡ b + greatest = omega (arith, are.order) in
      let here = over-at g ((a + least) - 0) ((b + (greatest - least) + least) - 0) (a + least) (b + greatest) hull first end over in
      ap (λ (v : Span). cond (int_le (pos b +ℤ v.hi) (pos (last_tick grid))) (narrowing_of (delayed_hull (λ j d. g (j + d)) v (last_tick grid) a b)) Whole) (sym is)
      ∙ sym (guarded (pos b +ℤ t.hi) (pos (last_tick grid)) (delayed_hull (λ j d. g (j + d)) t (last_tick grid) a b) reached)
      ∙ ap narrowing_of (sym (hull-later g t (last_tick grid) a b least greatest are order))
      ∙ ap Within (over-same g (a + least) (b + greatest) (join_over g (a + least) ((b + greatest) - (a + least))) hull (join-is g (a + least) (b + greatest) there) here)

-- ---- held places as projections

pub held-below : (s : Shape) (h : Held) (i : ℕ) → i < length (held_projections s h) → i < h.count
held-below s h i l = omega (arith, l, length-map-range_with_len (held_projection s h) 0 h.count)

pub held-at : (s : Shape) (h : Held) (i : ℕ) → i < length (held_projections s h) → projection_at (held_projections s h) i ≡ held_projection s h i
held-at s h i l = get_or-map-range_with_len (held_projection s h) 0 h.count i i no_projection (held-below s h i l) (omega arith)

-- what is kept gives, whatever the box, what the formulas give of this one
pub held-fixes : (s : Shape) (h : Held) (p : ℕ → Projection) (first : ℕ) (box : Option (List Span)) → h.first ≡ first → ((j : ℕ) → (p j).target ≡ slice_index s.signals h.signal.0 + j)
    → ((j : ℕ) → j < h.count → IfSome box (λ xs. (p (first + j)).formula xs ≡ Within (slice_index_or h.hulls j (point (pos 0))))) → IfSome box (λ xs. Fixes xs (map p (range_with_len first h.count)) (held_projections s h))
held-fixes s h p first None e targets formulas = tt
held-fixes s h p first (Some xs) e targets formulas =
    let size = length-map-range_with_len p first h.count in
    let at = λ (k : ℕ) (d : Projection) (l : k < length (map p (range_with_len first h.count))). get_or-map-range_with_len p first h.count k (first + k) d (omega (arith, l, size)) refl in
    let kept = λ (k : ℕ) (d : Projection) (l : k < length (map p (range_with_len first h.count))). get_or-map-range_with_len (held_projection s h) 0 h.count k k d (omega (arith, l, size)) (omega arith) in
    record {
      len = size ∙ sym (length-map-range_with_len (held_projection s h) 0 h.count);
      target = λ k d l. ap (λ (q : Projection). q.target) (at k d l) ∙ targets (first + k) ∙ ap (λ (n : ℕ). slice_index s.signals h.signal.0 + (n + k)) (sym e) ∙ sym (ap (λ (q : Projection). q.target) (kept k d l));
      formula = λ k d ys l. ap (λ (q : Projection). q.formula ys) (kept k d l) ∙ sym (formulas k (omega (arith, l, size))) ∙ sym (ap (λ (q : Projection). q.formula xs) (at k d l));
    }

-- ---- some places and then more

range-append : (a m n : ℕ) → range_with_len a (m + n) ≡ range_with_len a m ++ range_with_len (a + m) n
range-append a zero n =
    let e : 0 + n ≡ n = omega arith in
    let d : a ≡ a + 0 = omega arith in
    ap (range_with_len a) e ∙ ap (λ (b : ℕ). range_with_len b n) d
range-append a (suc m) n =
    let e : suc m + n ≡ suc (m + n) = omega arith in
    let d : a + 1 + m ≡ a + suc m = omega arith in
    ap (range_with_len a) e ∙ ap (λ (l : List ℕ). a ∷ l) (range-append (a + 1) m n ∙ ap (λ (b : ℕ). range_with_len (a + 1) m ++ range_with_len b n) d)

map-range-append : (p : ℕ → Projection) (a m n : ℕ) → map p (range_with_len a (m + n)) ≡ map p (range_with_len a m) ++ map p (range_with_len (a + m) n)
map-range-append p a m n = ap (map p) (range-append a m n) ∙ map-append p (range_with_len a m) (range_with_len (a + m) n)

pub map-range-more : (p : ℕ → Projection) (m n : ℕ) → map p (range_with_len 0 (m + n)) ≡ map p (range_with_len 0 m) ++ map p (range_with_len m n)
map-range-more p m n =
    let start : 0 + m ≡ m = omega arith in
    map-range-append p 0 m n ∙ ap (λ (a : ℕ). map p (range_with_len 0 m) ++ map p (range_with_len a n)) start

-- a number from one on is that one or a later one, and one below the next is that one or below
pub same-or-other : (j k : ℕ) → j ≤ k → (j ≡ k) ⊎ (j < k)
same-or-other j k h = grind arith

pub below-or-same : (k j : ℕ) → k < j + 1 → (k < j) ⊎ (j ≡ k)
below-or-same k j h = grind arith
