-- From a tick to the first one past its place: the ticks that stand at a place, and where the next one stands.
use Rattle.std.proofs.Common.{◌≡◌, ℕ, ◌+◌, ◌-◌, ◌*◌, ◌/◌, ◌%◌, ◌<◌, ◌≤◌, min, ◌⊎◌, inl, inr, List, length, slice_index, arith, sym, ap, subst, ◌∙◌}
use Rattle.tube_spec.specs.Grid.{IsGrid, last_tick}
use Rattle.tube_spec.specs.Tick.{tick_place}
use Rattle.tube_spec.proofs.Ticks.{tick-split, tick_place-gate, tick_place-inside, AtBoundary, InSlice}
use Rattle.ctc_delay.specs.Places.{place_last, place_end}

-- a tick at the place of a gate, or at that of an envelope
pub record AtGate (grid : List ℕ) (place from : ℕ) : Type 0 where
  pub even : place ≡ 2 * (place / 2)
  pub among : place / 2 < length grid
  pub there : slice_index grid (place / 2) ≡ from
  pub end : place_end grid place ≡ from + 1

pub record AtEnvelope (grid : List ℕ) (place from : ℕ) : Type 0 where
  pub odd : place ≡ 2 * (place / 2) + 1
  pub among : place / 2 + 1 < length grid
  pub begun : slice_index grid (place / 2) < from
  pub open_end : from < slice_index grid (place / 2 + 1)
  pub end : place_end grid place ≡ slice_index grid (place / 2 + 1)

half-even : (p i : ℕ) → p ≡ 2 * i → p / 2 ≡ i
half-even p i e = omega (arith, e)

half-odd : (p i : ℕ) → p ≡ 2 * i + 1 → p / 2 ≡ i
half-odd p i e = omega (arith, e)

module _ (grid : List ℕ) (is : IsGrid grid) (place from : ℕ) (low : from ≤ last_tick grid) (at : place ≡ tick_place grid from) where
  pub stands : AtGate grid place from ⊎ AtEnvelope grid place from
  stands = by (tick-split grid (omega (arith, is.slices)) from (omega (arith, is.starts)) low)
    where
      by : AtBoundary grid from ⊎ InSlice grid from → AtGate grid place from ⊎ AtEnvelope grid place from
      by (inl h) =
          let e : place ≡ 2 * h.0 = at ∙ subst (λ (k : ℕ). tick_place grid k ≡ 2 * h.0) h.2 (tick_place-gate grid is.rising h.0 h.1) in
          let half = half-even place h.0 e in
          let there : slice_index grid (place / 2) ≡ from = ap (slice_index grid) half ∙ h.2 in
          let last : (place + 1) / 2 ≡ place / 2 = omega (arith, e) in
          let same : place_last grid place ≡ from = ap (slice_index grid) last ∙ there in
          inl (record { even = omega (arith, e, half); among = omega (arith, half, h.1); there = there; end = omega (arith, same, e) })
      by (inr h) =
          let e : place ≡ 2 * h.0 + 1 = at ∙ tick_place-inside grid is.rising h.0 from h.1 h.2 h.3 in
          let half = half-odd place h.0 e in
          let next : (place + 1) / 2 ≡ place / 2 + 1 = omega (arith, e) in
          let same : place_last grid place ≡ slice_index grid (place / 2 + 1) = ap (slice_index grid) next in
          inr (record {
            odd = omega (arith, e, half);
            among = omega (arith, half, h.1);
            begun = omega (arith, h.2, ap (slice_index grid) half);
            open_end = omega (arith, h.3, ap (λ (i : ℕ). slice_index grid (i + 1)) half);
            end = omega (arith, same, e);
          })

  -- the tick is before the end of its place
  pub stands-before : from < place_end grid place
  stands-before = elim stands [
    | inl g ↦ omega (arith, g.end)
    | inr v ↦ omega (arith, v.end, v.open_end)
  ]

  -- each tick from it on and before the end stands there too
  pub stands-still : (k : ℕ) → from ≤ k → k < place_end grid place → tick_place grid k ≡ place
  stands-still k after before = elim stands [
    | inl g ↦ let same : from ≡ k = omega (arith, g.end, after, before) in ap (tick_place grid) (sym same) ∙ sym at
    | inr v ↦ tick_place-inside grid is.rising (place / 2) k v.among (omega (arith, v.begun, after)) (omega (arith, v.end, before)) ∙ sym v.odd
  ]

  -- the end of an envelope is the next gate
  pub odd-next : (tick : ℕ) → place % 2 ≡ 1 → tick ≡ place_end grid place → place + 1 ≡ tick_place grid tick
  odd-next tick odd e = elim stands [
    | inl g ↦ absurd (omega (arith, g.even, odd))
    | inr v ↦
        let gate = tick_place-gate grid is.rising (place / 2 + 1) v.among in
        let same = ap (tick_place grid) (e ∙ v.end) in
        omega (arith, gate, same, v.odd)
  ]

  -- past a gate comes the envelope of its slice, where that has a tick
  pub even-next : (tick : ℕ) → place / 2 + 1 < length grid → (slice_index grid (place / 2 + 1) ≡ tick → ⊥) → (place % 2 ≡ 1 → ⊥) → tick ≡ place_end grid place → place + 1 ≡ tick_place grid tick
  even-next tick among other even e = elim stands [
    | inl g ↦
        let up = is.rising (place / 2) among in
        sym (tick_place-inside grid is.rising (place / 2) tick among (omega (arith, e, g.end, g.there)) (less tick (slice_index grid (place / 2 + 1)) (omega (arith, e, g.end, g.there, up)) other) ∙ omega (arith, g.even))
    | inr v ↦ absurd (even (omega (arith, v.odd)))
  ]
    where
      less : (a b : ℕ) → a ≤ b → (b ≡ a → ⊥) → a < b
      less a b l n = grind arith

  -- no tick of the clock comes after the last gate
  pub none-next : (tick : ℕ) → length grid ≤ place / 2 + 1 → (place % 2 ≡ 1 → ⊥) → tick ≡ place_end grid place → tick ≤ last_tick grid → ⊥
  none-next tick end even e few = elim stands [
    | inl g ↦
        let i : place / 2 ≡ length grid - 1 = omega (arith, g.among, end) in
        let same : slice_index grid (place / 2) ≡ last_tick grid = ap (slice_index grid) i in
        omega (arith, same, g.there, g.end, e, few)
    | inr v ↦ even (omega (arith, v.odd))
  ]

-- and else the gate that ends it
pub gate-next : (grid : List ℕ) → IsGrid grid → (place tick : ℕ) → place / 2 + 1 < length grid → slice_index grid (place / 2 + 1) ≡ tick → (place % 2 ≡ 1 → ⊥) → place + 2 ≡ tick_place grid tick
gate-next grid is place tick among e even =
    let gate = tick_place-gate grid is.rising (place / 2 + 1) among in
    let same = ap (tick_place grid) e in
    even-plus place (tick_place grid (slice_index grid (place / 2 + 1))) (tick_place grid tick) even gate same
  where
    even-plus : (p a b : ℕ) → (p % 2 ≡ 1 → ⊥) → a ≡ 2 * (p / 2 + 1) → a ≡ b → p + 2 ≡ b
    even-plus p a b n e d = grind arith

-- Two signals, of which one is read d ticks before: how far both go on at their places b and n.
pub record BothStand (grid : List ℕ) (d tick next b n : ℕ) : Type 0 where
  pub past : tick < next
  pub still : (k : ℕ) → tick ≤ k → k < next → (tick_place grid (k - d) ≡ b) × (tick_place grid k ≡ n)
  pub left : next - d ≤ place_end grid b
  pub right : next ≤ place_end grid n

pub both-stand : (grid : List ℕ) → IsGrid grid → (d tick next b n : ℕ) → d ≤ tick → tick ≤ last_tick grid → b ≡ tick_place grid (tick - d) → n ≡ tick_place grid tick → next ≡ min (place_end grid b + d) (place_end grid n) → BothStand grid d tick next b n
both-stand grid is d tick next b n low high eb en e =
    let before = stands-before grid is b (tick - d) (omega (arith, high)) eb in
    let now = stands-before grid is n tick high en in
    record {
      past = omega (arith, before, now, low, e);
      still = λ k after under. (
        stands-still grid is b (tick - d) (omega (arith, high)) eb (k - d) (omega (arith, after)) (omega (arith, under, after, low, e)),
        stands-still grid is n tick high en k after (omega (arith, under, e)),
      );
      left = omega (arith, e);
      right = omega (arith, e);
    }
