-- Laws of the ticks of the clock that lie in a span.
use Rattle.std.proofs.Common.{◌≡◌, ℕ, ◌≤◌, Bool, true, false, cond, Option, Some, None, List, ℤ, pos, negsuc, ◌≤ℤ◌, int_le, arith, refl, sym, ap, ◌∙◌}
use Rattle.std.specs.Int.{int_min, int_max}
use Rattle.std.specs.Option.{option_map}
use Rattle.std.proofs.lemmas.Int.{ints, clamps}
use Rattle.tube_spec.specs.Span.{Span, Holds, meet_of, natural}
use Rattle.tube_spec.specs.Grid.{last_tick}
use Rattle.slice_gates.specs.declared.clock.Ticks.{Ticks}
use Rattle.slice_gates.specs.Clock.{clock_of, ticks_of}

-- the first and the last tick, by the ends of the span
pub record IsTicks (grid : List ℕ) (a : Span) (ticks : Ticks) : Type 0 where
  pub low : pos ticks.first ≡ int_max a.lo (pos 0)
  pub high : pos ticks.last ≡ int_min a.hi (pos (last_tick grid))
  pub order : ticks.first ≤ ticks.last

natural-pos : (x : ℤ) → pos 0 ≤ℤ x → pos (natural x) ≡ x
natural-pos (pos n) h = refl
natural-pos (negsuc n) h = absurd (omega (arith, ints, h))

ticks-at : (grid : List ℕ) (a : Span) (b : Bool) (ticks : Ticks) → int_le (int_max a.lo (pos 0)) (int_min a.hi (pos (last_tick grid))) ≡ b
    → option_map (λ (w : Span). let t : Ticks = record { first = natural w.lo; last = natural w.hi } in t) (cond b (Some (meet_of a (clock_of grid))) None) ≡ Some ticks → IsTicks grid a ticks
ticks-at grid a false ticks e d = absurd (cc)
ticks-at grid a true ticks e d =
    let le : int_max a.lo (pos 0) ≤ℤ int_min a.hi (pos (last_tick grid)) = grind (arith, ints, e) in
    let low = natural-pos (int_max a.lo (pos 0)) (omega (arith, ints, clamps)) in
    let high = natural-pos (int_min a.hi (pos (last_tick grid))) (omega (arith, ints, clamps, le)) in
    let first : natural (int_max a.lo (pos 0)) ≡ ticks.first = ap (some_first ticks) d in
    let last : natural (int_min a.hi (pos (last_tick grid))) ≡ ticks.last = ap (some_last ticks) d in
    record {
      low = ap pos (sym first) ∙ low;
      high = ap pos (sym last) ∙ high;
      order = omega (arith, ints, le, low, high, first, last);
    }
  where
    some_first : Ticks → Option Ticks → ℕ
    some_first t None = t.first
    some_first t (Some r) = r.first

    some_last : Ticks → Option Ticks → ℕ
    some_last t None = t.last
    some_last t (Some r) = r.last

pub ticks-some : (grid : List ℕ) (a : Span) (ticks : Ticks) → ticks_of grid a ≡ Some ticks → IsTicks grid a ticks
ticks-some grid a ticks e = ticks-at grid a (int_le (int_max a.lo (pos 0)) (int_min a.hi (pos (last_tick grid)))) ticks refl e

-- a span with a tick of the clock has a first one
pub ticks-there : (grid : List ℕ) (a : Span) (k : ℕ) → k ≤ last_tick grid → Holds a (pos k) → (ticks : Ticks) × (ticks_of grid a ≡ Some ticks)
ticks-there grid a k l h = at (int_le (int_max a.lo (pos 0)) (int_min a.hi (pos (last_tick grid)))) refl
  where
    at : (b : Bool) → int_le (int_max a.lo (pos 0)) (int_min a.hi (pos (last_tick grid))) ≡ b
        → (ticks : Ticks) × (option_map (λ (w : Span). let t : Ticks = record { first = natural w.lo; last = natural w.hi } in t) (cond b (Some (meet_of a (clock_of grid))) None) ≡ Some ticks)
    at true e = (_, refl)
    at false e = absurd (grind (arith, ints, clamps, h))

-- the ticks of a span are those from its first to its last
pub ticks-from : (grid : List ℕ) (a : Span) (ticks : Ticks) → ticks_of grid a ≡ Some ticks → (k : ℕ) → k ≤ last_tick grid → Holds a (pos k) → (ticks.first ≤ k) × (k ≤ ticks.last)
ticks-from grid a ticks e k l h =
    let is = ticks-some grid a ticks e in
    (omega (arith, ints, clamps, is.low, h), omega (arith, ints, clamps, is.high, h, l))

pub ticks-to : (grid : List ℕ) (a : Span) (ticks : Ticks) → ticks_of grid a ≡ Some ticks → (k : ℕ) → ticks.first ≤ k → k ≤ ticks.last → (k ≤ last_tick grid) × Holds a (pos k)
ticks-to grid a ticks e k p q =
    let is = ticks-some grid a ticks e in
    (omega (arith, ints, clamps, is.high, q), record { low = omega (arith, ints, clamps, is.low, p); high = omega (arith, ints, clamps, is.high, q) })
