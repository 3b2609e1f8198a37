-- What ticks give at one tick, carried to the next one and to the one before.
use Rattle.std.proofs.Common.{◌≡◌, ℕ, suc, ◌+◌, ◌-◌, ◌<◌, ◌≤◌, ◌⊎◌, inl, inr, Bool, true, false, cond, leb, ◌&&◌, Option, Some, None, IfSome, IsSome, List, pos, neg_ℤ, ◌-ℤ◌, arith, refl, sym, ap, subst, ◌∙◌}
use Rattle.std.specs.Option.{option_map}
use Rattle.std.proofs.lemmas.Int.{ints}
use Rattle.tube_spec.specs.Span.{Span, IsBounded, add_of}
use Rattle.tube_spec.specs.Hull.{join_option, IsWithinOption}
use Rattle.tube_spec.specs.Shape.{Shape}
use Rattle.tube_spec.specs.Box.{AreBounded}
use Rattle.tube_spec.specs.Tick.{at_tick, tick_cell}
use Rattle.tube_spec.proofs.Spans.{same_span}
use Rattle.int_interval.specs.Image.{neg_of}
use Rattle.slice_gates.specs.declared.clock.Ticks.{Ticks}
use Rattle.ctc_eval.specs.Clock.{only_in, IsHullOver, cells_of}
use Rattle.ctc_eval.specs.Gains.{sum_over, gain}
use Rattle.ctc_eval.specs.GainLaws.{gain-on, gain-back, gain-here, gain-bounded, sum-first}
use Rattle.ctc_eval.specs.Evals.{variable_at, shared_at, reached_from}
use Rattle.ctc_eval.specs.Walks.{later_by}
use Rattle.ctc_eval.proofs.Hulls.{hull-last, hull-given, meet-bounded, cells-there}

-- ---- a span added to each member of a hull

later-mono : (r : Span) (o p : Option Span) → IsWithinOption o p → IsWithinOption (later_by r o) (later_by r p)
later-mono r None p h = tt
later-mono r (Some a) None h = absurd h
later-mono r (Some a) (Some b) h = record { low = omega (arith, ints, h.low); high = omega (arith, ints, h.high) }

none-less : (r : Span) (o : Option Span) → IsWithinOption (later_by r o) None → IsWithinOption o None
none-less r None h = tt
none-less r (Some a) h = absurd h

none-more : (r : Span) (o : Option Span) → IsWithinOption o None → IsWithinOption (later_by r o) None
none-more r None h = tt
none-more r (Some a) h = absurd h

-- what a span leaves where another was added
abbrev less_by : Span → Span → Span
less_by r t = record { lo = t.lo -ℤ r.lo; hi = t.hi -ℤ r.hi }

some-less : (r t : Span) (o : Option Span) → IsWithinOption (later_by r o) (Some t) → IsWithinOption o (Some (less_by r t))
some-less r t None h = tt
some-less r t (Some a) h = record { low = omega (arith, ints, h.low); high = omega (arith, ints, h.high) }

some-more : (r t : Span) (o : Option Span) → IsWithinOption o (Some (less_by r t)) → IsWithinOption (later_by r o) (Some t)
some-more r t None h = tt
some-more r t (Some a) h = record { low = omega (arith, ints, h.low); high = omega (arith, ints, h.high) }

pub hull-later : (f : ℕ → Option Span) (r : Span) (a b : ℕ) (h : Option Span) → IsHullOver f a b h → IsHullOver (λ k. later_by r (f k)) a b (later_by r h)
hull-later f r a b h is = record { holds = λ k p q. later-mono r (f k) h (is.holds k p q); least = least }
  where
    least : (t : Option Span) → ((k : ℕ) → a ≤ k → k < b → IsWithinOption (later_by r (f k)) t) → IsWithinOption (later_by r h) t
    least None all = none-more r h (is.least None (λ k p q. none-less r (f k) (all k p q)))
    least (Some t) all = some-more r t h (is.least (Some (less_by r t)) (λ k p q. some-less r t (f k) (all k p q)))

-- ---- what the rate adds to the next tick, and to the one before

pub gain-later : (f : ℕ → Span) (k g : ℕ) → k ≤ g → gain f k (g + 1) ≡ add_of (gain f k g) (f g)
gain-later f k g h =
    let e : g + 1 - k ≡ suc (g - k) = omega (arith, h) in
    let there : k + (g - k) ≡ g = omega (arith, h) in
    gain-on f k (g + 1) (omega (arith, h)) ∙ ap (sum_over f k) e ∙ ap (λ (i : ℕ). add_of (sum_over f k (g - k)) (f i)) there ∙ ap (λ (s : Span). add_of s (f g)) (sym (gain-on f k g h))

pub back-or-here : (f : ℕ → Span) (k g : ℕ) → g ≤ k → gain f k g ≡ neg_of (sum_over f g (k - g))
back-or-here f k g h = elim (before-or-same k g h) [
  | inl lt ↦ gain-back f k g lt
  | inr same ↦ let none : k - g ≡ 0 = omega (arith, same) in
      ap (λ (i : ℕ). gain f i g) same ∙ gain-here f g ∙ sym (ap (λ (n : ℕ). neg_of (sum_over f g n)) none)
]
  where
    before-or-same : (k g : ℕ) → g ≤ k → (g < k) ⊎ (k ≡ g)
    before-or-same k g h = grind arith

pub gain-earlier : (f : ℕ → Span) (k p : ℕ) → p + 1 ≤ k → gain f k p ≡ add_of (gain f k (p + 1)) (neg_of (f p))
gain-earlier f k p h =
    let e : k - p ≡ suc (k - (p + 1)) = omega (arith, h) in
    let next : suc p ≡ p + 1 = omega arith in
    let n : ℕ = k - (p + 1) in
    gain-back f k p (omega (arith, h)) ∙ ap (λ (m : ℕ). neg_of (sum_over f p m)) e ∙ ap neg_of (sum-first f p n)
    ∙ ap (λ (i : ℕ). neg_of (add_of (sum_over f i n) (f p))) next
    ∙ same_span (neg_of (add_of (sum_over f (p + 1) n) (f p))) (add_of (neg_of (sum_over f (p + 1) n)) (neg_of (f p))) (omega (arith, ints)) (omega (arith, ints))
    ∙ ap (λ (t : Span). add_of t (neg_of (f p))) (sym (back-or-here f k (p + 1) h))

pub neg-small : (r n : Span) → n ≡ neg_of r → IsBounded 500000000 r → IsBounded 500000000 n
neg-small r n e b = subst (IsBounded 500000000) (sym e) (record { low = omega (arith, ints, b); high = omega (arith, ints, b) })

-- ---- what the signal may come to

pub step-same : (b : Bool) (o : Option Span) (g h r : Span) → h ≡ add_of g r → later_by r (cond b (option_map (λ both. add_of both g) o) None) ≡ cond b (option_map (λ both. add_of both h) o) None
step-same false o g h r e = refl
step-same true None g h r e = refl
step-same true (Some a) g h r e = ap Some (same_span (add_of (add_of a g) r) (add_of a (add_of g r)) (omega (arith, ints)) (omega (arith, ints)) ∙ ap (add_of a) (sym e))

abbrev pub large : Span
large = record { lo = neg_ℤ (pos 60000000000000); hi = pos 60000000000000 }

small-of : (o : Option Span) → IsWithinOption o (Some large) → IfSome o (IsBounded 60000000000000)
small-of None h = tt
small-of (Some a) h = h

module _ (s : Shape) (x v z : ℕ) (xs : List Span) (ticks : Ticks) where
  abbrev pub reached : ℕ → ℕ → Option Span
  reached gate k = only_in ticks (reached_from s x v z gate xs) k

  -- one tick on: the tick itself joins, and then its rate is added to all
  pub carry-on : (g : ℕ) (h here whole new : Option Span) (rate : Span) → here ≡ reached g g → whole ≡ join_option h here → rate ≡ at_tick s xs v g → new ≡ later_by rate whole
      → IsHullOver (reached g) 0 g h → IsHullOver (reached (g + 1)) 0 (g + 1) new
  carry-on g h here whole new rate eh ew er en is =
      hull-given (λ k. later_by (at_tick s xs v g) (reached g k)) (reached (g + 1)) 0 (g + 1) new
      (λ k p q. step-same (leb ticks.first k && leb k ticks.last) (shared_at s x z xs k) (gain (at_tick s xs v) k g) (gain (at_tick s xs v) k (g + 1)) (at_tick s xs v g) (gain-later (at_tick s xs v) k g (omega (arith, q))))
      (subst (IsHullOver (λ k. later_by (at_tick s xs v g) (reached g k)) 0 (g + 1)) (sym (en ∙ ap (λ (r : Span). later_by r whole) er)) (hull-later (reached g) (at_tick s xs v g) 0 (g + 1) whole (whole-on is)))
    where
      whole-on : IsHullOver (reached g) 0 g h → IsHullOver (reached g) 0 (g + 1) whole
      whole-on is = subst (IsHullOver (reached g) 0 (g + 1)) (sym (ew ∙ ap (join_option h) eh)) (hull-last (reached g) 0 g h (omega arith) is)

  -- a hull over ticks of the clock is bounded
  module _ (rates : (i : ℕ) → IsBounded 500000000 (at_tick s xs v i)) (value : IsBounded 500000000 (variable_at s xs z)) where
    reached-small : (g k : ℕ) → g ≤ 100000 → k ≤ 100000 → IsWithinOption (reached g k) (Some large)
    reached-small g k p q = at (leb ticks.first k && leb k ticks.last) (shared_at s x z xs k) (meet-bounded 500000000 (variable_at s xs z) (at_tick s xs x k) value)
      where
        gains : IsBounded 50000000000000 (gain (at_tick s xs v) k g)
        gains = gain-bounded (at_tick s xs v) k g q p rates

        at : (b : Bool) (o : Option Span) → IfSome o (IsBounded 500000000) → IsWithinOption (cond b (option_map (λ both. add_of both (gain (at_tick s xs v) k g)) o) None) (Some large)
        at false o h = tt
        at true None h = tt
        at true (Some a) h = record { low = omega (arith, ints, h, gains); high = omega (arith, ints, h, gains) }

    pub hull-small : (g a b : ℕ) (h : Option Span) → g ≤ 100000 → b ≤ 100001 → IsHullOver (reached g) a b h → IfSome h (IsBounded 60000000000000)
    hull-small g a b h p q is = small-of h (is.least (Some large) (λ k l m. reached-small g k p (omega (arith, q, m))))

    -- with the tick itself
    pub on-small : (g : ℕ) (h here whole : Option Span) → g ≤ 100000 → here ≡ reached g g → whole ≡ join_option h here → IsHullOver (reached g) 0 g h → IfSome whole (IsBounded 60000000000000)
    on-small g h here whole p eh ew is =
        hull-small g 0 (g + 1) whole p (omega (arith, p)) (subst (IsHullOver (reached g) 0 (g + 1)) (sym (ew ∙ ap (join_option h) eh)) (hull-last (reached g) 0 g h (omega arith) is))

-- the rates of a box are bounded
pub rates-bounded : (s : Shape) (box : Option (List Span)) (v : ℕ) → IsSome box → IfSome box AreBounded → (i : ℕ) → IsBounded 500000000 (at_tick s (cells_of box) v i)
rates-bounded s box v some b i = cells-there AreBounded box some b (tick_cell s v i)
