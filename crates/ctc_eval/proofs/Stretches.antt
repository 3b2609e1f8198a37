-- Over the ticks inside a slice what a signal shares with a value stays the same, and so does its rate: hulls over them, and hulls carried past them.
use Rattle.std.proofs.Common.{◌≡◌, ℕ, ◌+◌, ◌-◌, ◌*◌, ◌<◌, ◌≤◌, ◌⊎◌, inl, inr, Bool, true, false, cond, leb, ◌&&◌, Option, Some, None, IfSome, IsSome, ◌↔◌, List, length, slice_index, ℤ, pos, arith, refl, sym, ap, ap₂, subst, ◌∙◌}
use Rattle.std.specs.Option.{option_map}
use Rattle.std.proofs.lemmas.Int.{ints, clamps}
use Rattle.tube_spec.specs.Span.{Span, IsProper, IsWithin, IsBounded, join_of, point, add_of, times_of}
use Rattle.tube_spec.specs.Hull.{join_option, IsWithinOption}
use Rattle.tube_spec.specs.Grid.{IsGrid}
use Rattle.tube_spec.specs.Shape.{Shape}
use Rattle.tube_spec.specs.Tick.{tick_place, at_tick}
use Rattle.tube_spec.proofs.Spans.{IsWithinOption-trans, join_option-left, join_option-right, join_option-least, join-least, same_span, IsWithin-refl}
use Rattle.tube_spec.proofs.Ticks.{tick_place-gate, tick_place-inside, last-greatest}
use Rattle.int_interval.specs.Image.{neg_of}
use Rattle.slice_gates.specs.declared.clock.Ticks.{Ticks}
use Rattle.ctc_eval.specs.Clock.{only_in, IsHullOver}
use Rattle.ctc_eval.specs.Gains.{gain}
use Rattle.ctc_eval.specs.GainLaws.{gain-here}
use Rattle.ctc_eval.specs.Evals.{shared_at, met_at, reached_from}
use Rattle.ctc_eval.specs.declared.sweep.Asked.{Asked}
use Rattle.ctc_eval.specs.declared.sweep.Asked.TheVariants.{Value, Time}
use Rattle.ctc_eval.specs.Asking.{asked_at, part_of}
use Rattle.ctc_eval.specs.Walks.{at_place, shared_by, later_by, IsInside, AreInside}
use Rattle.ctc_eval.proofs.Hulls.{hull-first, hull-given, only-inside, only-outside}
use Rattle.ctc_eval.proofs.Carrying.{carry-on, hull-later, step-same, gain-earlier}
use Rattle.ctc_eval.proofs.Products.{Stays, gain-times, gain-times-back, gain-moved, gain-moved-back, times-rises, times-falls}

-- ---- hulls over ticks one after another

before-or-on : (k m : ℕ) → (k < m) ⊎ (m ≤ k)
before-or-on k m = grind arith

pub hull-append : (f : ℕ → Option Span) (a m b : ℕ) (g h : Option Span) → a ≤ m → m ≤ b → IsHullOver f a m g → IsHullOver f m b h → IsHullOver f a b (join_option g h)
hull-append f a m b g h p q before after = record {
  holds = λ k l r. elim (before-or-on k m) [
    | inl below ↦ IsWithinOption-trans (f k) g (join_option g h) (before.holds k l below) (join_option-left g h)
    | inr above ↦ IsWithinOption-trans (f k) h (join_option g h) (after.holds k above r) (join_option-right g h)
  ];
  least = λ t all. join_option-least g h t (before.least t (λ k l r. all k l (omega (arith, r, q)))) (after.least t (λ k l r. all k (omega (arith, l, p)) r));
}

nothing-within : (o t : Option Span) → o ≡ None → IsWithinOption o t
nothing-within o t e = subst (λ (p : Option Span). IsWithinOption p t) (sym e) tt

pub only-nothing : (ticks : Ticks) (f : ℕ → Option Span) (k : ℕ) → f k ≡ None → only_in ticks f k ≡ None
only-nothing ticks f k e = ap (cond-of (leb ticks.first k && leb k ticks.last)) e ∙ at (leb ticks.first k && leb k ticks.last)
  where
    cond-of : Bool → Option Span → Option Span
    cond-of b o = cond b o None

    at : (b : Bool) → cond-of b None ≡ None
    at true = refl
    at false = refl

pub hull-nothing : (f : ℕ → Option Span) (a b : ℕ) → ((k : ℕ) → a ≤ k → k < b → f k ≡ None) → IsHullOver f a b None
hull-nothing f a b e = record { holds = λ k p q. nothing-within (f k) None (e k p q); least = λ t all. tt }

-- where none of the ticks inside a slice is one of these
pub hull-outside : (ticks : Ticks) (f : ℕ → Option Span) (a b : ℕ) → AreInside ticks a b None → IsHullOver (only_in ticks f) (a + 1) b None
hull-outside ticks f a b none = hull-nothing (only_in ticks f) (a + 1) b (λ k p q. only-outside ticks f k (none k (omega (arith, p)) q))

three-ways : (k m n : ℕ) → ((k < m) ⊎ (n < k)) ⊎ ((m ≤ k) × (k ≤ n))
three-ways k m n = grind arith

-- the first and the last of those that are give the hull of all
pub hull-inside : (ticks inner : Ticks) (f : ℕ → Option Span) (a b : ℕ) (g : ℕ → Span) (top : Span) → IsInside ticks a b inner → ((k : ℕ) → a < k → k < b → f k ≡ Some (g k))
    → ((k : ℕ) → inner.first ≤ k → k ≤ inner.last → IsWithin (g k) top) → ((t : Span) → IsWithin (g inner.first) t → IsWithin (g inner.last) t → IsWithin top t)
    → IsHullOver (only_in ticks f) (a + 1) b (Some top)
hull-inside ticks inner f a b g top is given bent ends = record { holds = holds; least = least }
  where
    here : (k : ℕ) → inner.first ≤ k → k ≤ inner.last → only_in ticks f k ≡ Some (g k)
    here k p q = only-inside ticks f k (omega (arith, p, is.1)) (omega (arith, q, is.3)) ∙ given k (omega (arith, p, is.0)) (omega (arith, q, is.4))

    holds : (k : ℕ) → a + 1 ≤ k → k < b → IsWithinOption (only_in ticks f k) (Some top)
    holds k p q = elim (three-ways k inner.first inner.last) [
      | inl out ↦ nothing-within (only_in ticks f k) (Some top) (only-outside ticks f k (is.5 k (omega (arith, p)) q out))
      | inr h ↦ subst (λ (o : Option Span). IsWithinOption o (Some top)) (sym (here k h.0 h.1)) (bent k h.0 h.1)
    ]

    all-at : (t : Option Span) → ((k : ℕ) → a + 1 ≤ k → k < b → IsWithinOption (only_in ticks f k) t) → (k : ℕ) → inner.first ≤ k → k ≤ inner.last → IsWithinOption (Some (g k)) t
    all-at t all k p q = subst (λ (o : Option Span). IsWithinOption o t) (here k p q) (all k (omega (arith, p, is.0)) (omega (arith, q, is.4)))

    least : (t : Option Span) → ((k : ℕ) → a + 1 ≤ k → k < b → IsWithinOption (only_in ticks f k) t) → IsWithinOption (Some top) t
    least None all = absurd (all-at None all inner.first (omega arith) is.2)
    least (Some t) all = ends t (all-at (Some t) all inner.first (omega arith) is.2) (all-at (Some t) all inner.last is.2 (omega arith))

-- a span with what lies between two spans
pub add-between : (s l m n : Span) → IsWithin l (join_of m n) → IsWithin (add_of s l) (join_of (add_of s m) (add_of s n))
add-between s l m n w =
    let low = w.low in
    let high = w.high in
    record { low = omega (arith, ints, clamps, low); high = omega (arith, ints, clamps, high) }

-- ---- places of a slice

module _ (grid : List ℕ) (is : IsGrid grid) (slice : ℕ) (among : slice + 1 < length grid) where
  pub place-gate : tick_place grid (slice_index grid slice) ≡ 2 * slice
  place-gate = tick_place-gate grid is.rising slice (omega (arith, among))

  pub place-inside : (k : ℕ) → slice_index grid slice < k → k < slice_index grid (slice + 1) → tick_place grid k ≡ 2 * slice + 1
  place-inside k p q = tick_place-inside grid is.rising slice k among p q

pub boundary-few : (grid : List ℕ) → IsGrid grid → (i : ℕ) → i < length grid → slice_index grid i ≤ 100000
boundary-few grid is i l = omega (arith, last-greatest grid is.rising i l, is.ends)

-- an interval between two ticks
some-is : (o : Option Span) (t : Span) → IsSome o → IfSome o (λ r. r ≡ t) → o ≡ Some t
some-is None t some e = absurd (cc)
some-is (Some a) t some e = ap Some e

pub new-ticks : (o : Option Span) (lo hi : ℤ) (m n : ℕ) → IfSome o (λ r. r ≡ record { lo = lo; hi = hi }) → (IsSome o ↔ (IsProper (record { lo = lo; hi = hi }) × IsBounded 4000000000000000000 (record { lo = lo; hi = hi })))
    → lo ≡ pos m → hi ≡ pos n → m ≤ n → n ≤ 100000 → o ≡ Some (record { lo = pos m; hi = pos n })
new-ticks o lo hi m n value exists em en le few =
    some-is o (record { lo = lo; hi = hi }) (exists.1 (omega (arith, ints, em, en, le), record { low = omega (arith, ints, em); high = omega (arith, ints, en, few) })) value
    ∙ ap Some (same_span (record { lo = lo; hi = hi }) (record { lo = pos m; hi = pos n }) em en)

-- ---- hulls carried past ticks

-- what is shared at a tick is what the signal may come to there from it
pub shared-here : (s : Shape) (x v z : ℕ) (xs : List Span) (ticks : Ticks) (g : ℕ) → only_in ticks (shared_at s x z xs) g ≡ only_in ticks (reached_from s x v z g xs) g
shared-here s x v z xs ticks g = at (leb ticks.first g && leb g ticks.last) (shared_at s x z xs g) (gain (at_tick s xs v) g g) (gain-here (at_tick s xs v) g)
  where
    at : (b : Bool) (o : Option Span) (r : Span) → r ≡ point (pos 0) → cond b o None ≡ cond b (option_map (λ both. add_of both r) o) None
    at false o r e = refl
    at true None r e = refl
    at true (Some a) r e =
        let low = ap (λ (t : Span). t.lo) e in
        let high = ap (λ (t : Span). t.hi) e in
        ap Some (same_span a (add_of a r) (omega (arith, ints, low)) (omega (arith, ints, high)))

module _ (s : Shape) (x v z : ℕ) (xs : List Span) (ticks : Ticks) where
  abbrev reached : ℕ → ℕ → Option Span
  reached gate k = only_in ticks (reached_from s x v z gate xs) k

  abbrev rates : ℕ → Span
  rates = at_tick s xs v

  -- over n ticks on with one rate, and over n ticks back
  pub move-on : (g n : ℕ) (r gone : Span) (h new : Option Span) → Stays rates r g (g + n) → gone ≡ times_of n r → new ≡ later_by gone h → IsHullOver (reached g) 0 g h → IsHullOver (reached (g + n)) 0 g new
  move-on g n r gone h new stays eg en is =
      subst (IsHullOver (reached (g + n)) 0 g) (sym (en ∙ ap (λ (t : Span). later_by t h) eg))
      (hull-given (λ k. later_by (times_of n r) (reached g k)) (reached (g + n)) 0 g (later_by (times_of n r) h)
      (λ k p q. step-same (leb ticks.first k && leb k ticks.last) (shared_at s x z xs k) (gain rates k g) (gain rates k (g + n)) (times_of n r) (gain-moved rates r k g n (omega (arith, q)) stays))
      (hull-later (reached g) (times_of n r) 0 g h is))

  pub move-back : (g n m : ℕ) (r gone : Span) (h new : Option Span) → Stays rates r g (g + n) → gone ≡ times_of n (neg_of r) → new ≡ later_by gone h → IsHullOver (reached (g + n)) (g + n) m h → IsHullOver (reached g) (g + n) m new
  move-back g n m r gone h new stays eg en is =
      subst (IsHullOver (reached g) (g + n) m) (sym (en ∙ ap (λ (t : Span). later_by t h) eg))
      (hull-given (λ k. later_by (times_of n (neg_of r)) (reached (g + n) k)) (reached g) (g + n) m (later_by (times_of n (neg_of r)) h)
      (λ k p q. step-same (leb ticks.first k && leb k ticks.last) (shared_at s x z xs k) (gain rates k (g + n)) (gain rates k g) (times_of n (neg_of r)) (gain-moved-back rates r k g n p stays))
      (hull-later (reached (g + n)) (times_of n (neg_of r)) (g + n) m h is))

  -- over one tick back
  pub step-back : (p m : ℕ) (r : Span) (h new : Option Span) → r ≡ neg_of (rates p) → new ≡ later_by r h → IsHullOver (reached (p + 1)) (p + 1) m h → IsHullOver (reached p) (p + 1) m new
  step-back p m r h new er en is =
      subst (IsHullOver (reached p) (p + 1) m) (sym (en ∙ ap (λ (t : Span). later_by t h) er))
      (hull-given (λ k. later_by (neg_of (rates p)) (reached (p + 1) k)) (reached p) (p + 1) m (later_by (neg_of (rates p)) h)
      (λ k l q. step-same (leb ticks.first k && leb k ticks.last) (shared_at s x z xs k) (gain rates k (p + 1)) (gain rates k p) (neg_of (rates p)) (gain-earlier rates k p l))
      (hull-later (reached (p + 1)) (neg_of (rates p)) (p + 1) m h is))

  -- what the ticks inside a stretch of one share and one rate give at its end, and before its first
  module _ (a b : ℕ) (share : Option Span) (r : Span) (shares : (k : ℕ) → a < k → k < b → shared_at s x z xs k ≡ share) (stays : (k : ℕ) → a < k → k < b → rates k ≡ r) where
    none-shared : (g k : ℕ) → share ≡ None → a < k → k < b → reached_from s x v z g xs k ≡ None
    none-shared g k e p q = ap (option_map (λ both. add_of both (gain rates k g))) (shares k p q ∙ e)

    pub inside-none : (g : ℕ) → share ≡ None → IsHullOver (reached g) (a + 1) b None
    inside-none g e = hull-nothing (reached g) (a + 1) b (λ k p q. only-nothing ticks (reached_from s x v z g xs) k (none-shared g k e (omega (arith, p)) q))

    pub on-inside : (inner : Ticks) (both top : Span) → IsInside ticks a b inner → share ≡ Some both → top ≡ join_of (add_of both (times_of (b - inner.first) r)) (add_of both (times_of (b - inner.last) r))
        → IsHullOver (reached b) (a + 1) b (Some top)
    on-inside inner both top is e et =
        subst (λ (t : Span). IsHullOver (reached b) (a + 1) b (Some t)) (sym et)
        (hull-inside ticks inner (reached_from s x v z b xs) a b line (join_of (line inner.first) (line inner.last)) is given
        (λ k p q. add-between both (times_of (b - k) r) (times_of (b - inner.first) r) (times_of (b - inner.last) r) (times-falls (b - inner.last) (b - k) (b - inner.first) r (omega (arith, q)) (omega (arith, p))))
        (λ t first last. join-least (line inner.first) (line inner.last) t first last))
      where
        line : ℕ → Span
        line k = add_of both (times_of (b - k) r)

        given : (k : ℕ) → a < k → k < b → reached_from s x v z b xs k ≡ Some (line k)
        given k p q =
            ap (λ (o : Option Span). option_map (λ t. add_of t (gain rates k b)) o) (shares k p q ∙ e) ∙ ap (λ (t : Span). Some (add_of both t)) (gain-times rates r k b (omega (arith, q)) (λ i l m. stays i (omega (arith, l, p)) m))

    pub back-inside : (inner : Ticks) (both top : Span) → IsInside ticks a b inner → share ≡ Some both → top ≡ join_of (add_of both (times_of (inner.first - (a + 1)) (neg_of r))) (add_of both (times_of (inner.last - (a + 1)) (neg_of r)))
        → IsHullOver (reached (a + 1)) (a + 1) b (Some top)
    back-inside inner both top is e et =
        subst (λ (t : Span). IsHullOver (reached (a + 1)) (a + 1) b (Some t)) (sym et)
        (hull-inside ticks inner (reached_from s x v z (a + 1) xs) a b line (join_of (line inner.first) (line inner.last)) is given
        (λ k p q. add-between both (times_of (k - (a + 1)) (neg_of r)) (times_of (inner.first - (a + 1)) (neg_of r)) (times_of (inner.last - (a + 1)) (neg_of r))
        (times-rises (inner.first - (a + 1)) (k - (a + 1)) (inner.last - (a + 1)) (neg_of r) (omega (arith, p)) (omega (arith, q))))
        (λ t first last. join-least (line inner.first) (line inner.last) t first last))
      where
        line : ℕ → Span
        line k = add_of both (times_of (k - (a + 1)) (neg_of r))

        given : (k : ℕ) → a < k → k < b → reached_from s x v z (a + 1) xs k ≡ Some (line k)
        given k p q =
            ap (λ (o : Option Span). option_map (λ t. add_of t (gain rates k (a + 1))) o) (shares k p q ∙ e)
            ∙ ap (λ (t : Span). Some (add_of both t)) (gain-times-back rates r k (a + 1) (omega (arith, p)) (λ i l m. stays i (omega (arith, l)) (omega (arith, m, q))))

-- ---- a slice of a grid

module _ (s : Shape) (is : IsGrid s.grid) (slice : ℕ) (among : slice + 1 < length s.grid) (x v z : ℕ) (xs : List Span) (ticks : Ticks) where
  abbrev start : ℕ
  start = slice_index s.grid slice

  abbrev end : ℕ
  end = slice_index s.grid (slice + 1)

  abbrev from : ℕ → ℕ → Option Span
  from gate k = only_in ticks (reached_from s x v z gate xs) k

  abbrev inner_rate : Span
  inner_rate = at_place s xs v (2 * slice + 1)

  shares : (k : ℕ) → start < k → k < end → shared_at s x z xs k ≡ shared_by s x z xs (2 * slice + 1)
  shares k p q = ap (shared_by s x z xs) (place-inside s.grid is slice among k p q)

  stays : (k : ℕ) → start < k → k < end → at_tick s xs v k ≡ inner_rate
  stays k p q = ap (at_place s xs v) (place-inside s.grid is slice among k p q)

  gate-rate : at_tick s xs v start ≡ at_place s xs v (2 * slice)
  gate-rate = ap (at_place s xs v) (place-gate s.grid is slice among)

  pub slice-none : (g : ℕ) → None ≡ shared_by s x z xs (2 * slice + 1) → IsHullOver (from g) (start + 1) end None
  slice-none g e = inside-none s x v z xs ticks start end (shared_by s x z xs (2 * slice + 1)) inner_rate shares stays g (sym e)

  pub slice-on : (inner : Ticks) (both rate top : Span) (last : ℕ) → IsInside ticks start end inner → Some both ≡ shared_by s x z xs (2 * slice + 1) → rate ≡ inner_rate → last ≡ end
      → top ≡ join_of (add_of both (times_of (last - inner.first) rate)) (add_of both (times_of (last - inner.last) rate)) → IsHullOver (from end) (start + 1) end (Some top)
  slice-on inner both rate top last inside e er el et =
      on-inside s x v z xs ticks start end (shared_by s x z xs (2 * slice + 1)) inner_rate shares stays inner both top inside (sym e)
      (et ∙ ap (λ (r : Span). join_of (add_of both (times_of (last - inner.first) r)) (add_of both (times_of (last - inner.last) r))) er
      ∙ ap (λ (t : ℕ). join_of (add_of both (times_of (t - inner.first) inner_rate)) (add_of both (times_of (t - inner.last) inner_rate))) el)

  pub slice-back : (inner : Ticks) (both rate top : Span) (first : ℕ) → IsInside ticks start end inner → Some both ≡ shared_by s x z xs (2 * slice + 1) → rate ≡ neg_of inner_rate → first ≡ start + 1
      → top ≡ join_of (add_of both (times_of (inner.first - first) rate)) (add_of both (times_of (inner.last - first) rate)) → IsHullOver (from (start + 1)) (start + 1) end (Some top)
  slice-back inner both rate top first inside e er ef et =
      back-inside s x v z xs ticks start end (shared_by s x z xs (2 * slice + 1)) inner_rate shares stays inner both top inside (sym e)
      (et ∙ ap (λ (r : Span). join_of (add_of both (times_of (inner.first - first) r)) (add_of both (times_of (inner.last - first) r))) er
      ∙ ap (λ (t : ℕ). join_of (add_of both (times_of (inner.first - t) (neg_of inner_rate))) (add_of both (times_of (inner.last - t) (neg_of inner_rate)))) ef)

  -- from the start of the slice to its first inner tick, and from there to its end
  pub over-gate : (before here whole next : Option Span) (rate : Span) → here ≡ only_in ticks (shared_at s x z xs) start → whole ≡ join_option before here → rate ≡ at_place s xs v (2 * slice) → next ≡ later_by rate whole
      → IsHullOver (from start) 0 start before → IsHullOver (from (start + 1)) 0 (start + 1) next
  over-gate before here whole next rate eh ew er en is = carry-on s x v z xs ticks start before here whole next rate (eh ∙ shared-here s x v z xs ticks start) ew (er ∙ sym gate-rate) en is

  pub over-inside : (next moved : Option Span) (rate gain : Span) (n : ℕ) → rate ≡ inner_rate → start + 1 + n ≡ end → gain ≡ times_of n rate → moved ≡ later_by gain next → IsHullOver (from (start + 1)) 0 (start + 1) next → IsHullOver (from end) 0 (start + 1) moved
  over-inside next moved rate gain n er e eg em is =
      subst (λ (g : ℕ). IsHullOver (from g) 0 (start + 1) moved) e
      (move-on s x v z xs ticks (start + 1) n inner_rate gain next moved (λ i p q. stays i (omega (arith, p)) (omega (arith, q, e))) (eg ∙ ap (times_of n) er) em is)

  -- from its end to its first inner tick, and from there to its start
  pub back-over : (after moved : Option Span) (rate gain : Span) (n m : ℕ) → rate ≡ neg_of inner_rate → start + 1 + n ≡ end → gain ≡ times_of n rate → moved ≡ later_by gain after → IsHullOver (from end) end m after → IsHullOver (from (start + 1)) end m moved
  back-over after moved rate gain n m er e eg em is =
      subst (λ (g : ℕ). IsHullOver (from (start + 1)) g m moved) e
      (move-back s x v z xs ticks (start + 1) n m inner_rate gain after moved (λ i p q. stays i (omega (arith, p)) (omega (arith, q, e))) (eg ∙ ap (times_of n) er) em
      (subst (λ (g : ℕ). IsHullOver (from g) g m after) (sym e) is))

  pub back-gate : (whole first here new : Option Span) (rate : Span) (m : ℕ) → start < m → rate ≡ neg_of (at_place s xs v (2 * slice)) → first ≡ later_by rate whole → here ≡ only_in ticks (shared_at s x z xs) start → new ≡ join_option first here
      → IsHullOver (from (start + 1)) (start + 1) m whole → IsHullOver (from start) start m new
  back-gate whole first here new rate m lt er ef eh en is =
      subst (IsHullOver (from start) start m) (sym (en ∙ ap (join_option first) (eh ∙ shared-here s x v z xs ticks start)))
      (hull-first (from start) start m first lt (step-back s x v z xs ticks start m rate whole first (er ∙ ap neg_of (sym gate-rate)) ef is))

  -- ---- what is asked of ticks

  abbrev asked : Asked → ℕ → Option Span
  asked a k = only_in ticks (asked_at s x z xs a) k

  pub part-inside : (a : Asked) (inner : Ticks) → IsInside ticks start end inner → IsHullOver (asked a) (start + 1) end (part_of s x z xs a inner (2 * slice + 1))
  part-inside Value inner inside =
      hull-inside ticks inner (asked_at s x z xs Value) start end (λ k. at_place s xs x (2 * slice + 1)) (at_place s xs x (2 * slice + 1)) inside
      (λ k p q. ap (λ (place : ℕ). Some (at_place s xs x place)) (place-inside s.grid is slice among k p q)) (λ k p q. IsWithin-refl (at_place s xs x (2 * slice + 1))) (λ t first last. first)
  part-inside Time inner inside = met (shared_by s x z xs (2 * slice + 1)) refl
    where
      meets : (o : Option Span) → shared_by s x z xs (2 * slice + 1) ≡ o → (k : ℕ) → start < k → k < end → met_at s x z xs k ≡ option_map (λ both. point (pos k)) o
      meets o e k p q = ap (option_map (λ both. point (pos k))) (shares k p q ∙ e)

      met : (o : Option Span) → shared_by s x z xs (2 * slice + 1) ≡ o → IsHullOver (asked Time) (start + 1) end (option_map (λ both. record { lo = pos inner.first; hi = pos inner.last }) o)
      met None e = hull-nothing (asked Time) (start + 1) end (λ k p q. only-nothing ticks (met_at s x z xs) k (meets None e k (omega (arith, p)) q))
      met (Some both) e =
          hull-inside ticks inner (met_at s x z xs) start end (λ k. point (pos k)) _ inside (meets (Some both) e)
          (λ k p q. record { low = omega (arith, ints, p); high = omega (arith, ints, q) }) (λ t first last. record { low = first.low; high = last.high })

-- a gate
pub part-gate : (s : Shape) (x z : ℕ) (xs : List Span) (a : Asked) (k place : ℕ) (ticks : Ticks) → ticks.first ≡ k → ticks.last ≡ k → tick_place s.grid k ≡ place → part_of s x z xs a ticks place ≡ asked_at s x z xs a k
part-gate s x z xs Value k place ticks first last e = ap (λ (p : ℕ). Some (at_place s xs x p)) (sym e)
part-gate s x z xs Time k place ticks first last e =
    ap (λ (p : ℕ). option_map (λ both. record { lo = pos ticks.first; hi = pos ticks.last }) (shared_by s x z xs p)) (sym e)
    ∙ ap₂ (λ (l h : ℕ). option_map (λ both. let t : Span = record { lo = pos l; hi = pos h } in t) (shared_at s x z xs k)) first last
