-- The slices that an evaluation names are exactly those that share a tick with its range.
use Rattle.std.proofs.Common.{◌≡◌, ℕ, ◌+◌, ◌-◌, ◌*◌, ◌/◌, ◌<◌, ◌≤◌, ◌⊎◌, inl, inr, ◌↔◌, min, Option, Some, None, List, length, slice_index, arith, refl, sym, ap, subst, ◌∙◌, Contains}
use Rattle.std.specs.Option.{option_map}
use Rattle.std.proofs.lemmas.List.FromFn.{length-range_with_len, get_or-range_with_len}
use Rattle.tube_spec.specs.Span.{Span}
use Rattle.tube_spec.specs.Grid.{IsGrid, last_tick}
use Rattle.tube_spec.specs.Tick.{tick_place}
use Rattle.tube_spec.proofs.Ticks.{tick_place-gate, tick_place-inside, tick-split, last-greatest}
use Rattle.slice_gates.specs.declared.clock.Ticks.{Ticks}
use Rattle.slice_gates.specs.declared.near.Near.{Near}
use Rattle.slice_gates.proofs.Clocks.{ticks-some, ticks-there, ticks-from, ticks-to}
use Rattle.slice_gates.specs.Near.{SharesTick, near_to, near_of, gates_of, places_of, IsOneOf}
use Rattle.slice_gates.proofs.Slices.{place-mono, near-some, near-among}

same-or-not : (i j : ℕ) → (i ≡ j) ⊎ ((i < j) ⊎ (j < i))
same-or-not i j = grind arith

-- a tick below a boundary stands below its gate, and one above it above
below-gate : (grid : List ℕ) → IsGrid grid → (k j : ℕ) → k ≤ last_tick grid → j < length grid → k < slice_index grid j → tick_place grid k < 2 * j
below-gate grid is k j l inside below =
    let gate = tick_place-gate grid is.rising j inside in
    let most = place-mono grid k (slice_index grid j) (omega (arith, below)) in
    elim (tick-split grid (omega (arith, is.slices)) k (omega (arith, is.starts)) l) [
      | inl b ↦
          let here : tick_place grid k ≡ 2 * b.0 = subst (λ (t : ℕ). tick_place grid t ≡ 2 * b.0) b.2 (tick_place-gate grid is.rising b.0 b.1) in
          elim (same-or-not b.0 j) [
            | inl e ↦ absurd (omega (arith, below, b.2, ap (slice_index grid) e))
            | inr n ↦ omega (arith, most, gate, here, n)
          ]
      | inr b ↦ omega (arith, most, gate, tick_place-inside grid is.rising b.0 k b.1 b.2 b.3)
    ]

above-gate : (grid : List ℕ) → IsGrid grid → (k j : ℕ) → k ≤ last_tick grid → j < length grid → slice_index grid j < k → 2 * j < tick_place grid k
above-gate grid is k j l inside above =
    let gate = tick_place-gate grid is.rising j inside in
    let least = place-mono grid (slice_index grid j) k (omega (arith, above)) in
    elim (tick-split grid (omega (arith, is.slices)) k (omega (arith, is.starts)) l) [
      | inl b ↦
          let here : tick_place grid k ≡ 2 * b.0 = subst (λ (t : ℕ). tick_place grid t ≡ 2 * b.0) b.2 (tick_place-gate grid is.rising b.0 b.1) in
          elim (same-or-not b.0 j) [
            | inl e ↦ absurd (omega (arith, above, b.2, ap (slice_index grid) e))
            | inr n ↦ omega (arith, least, gate, here, n)
          ]
      | inr b ↦ omega (arith, least, gate, tick_place-inside grid is.rising b.0 k b.1 b.2 b.3)
    ]

-- a slice from the first to the last, by the places of the first and of the last tick
last-below : (p q n slice : ℕ) → ((p - 1) / 2 ≤ slice) × (slice ≤ min (q / 2) (n - 2)) → (p ≤ 2 * (slice + 1)) × (2 * slice ≤ q) × (slice ≤ n - 2)
last-below p q n slice h = (grind (arith, h.0), grind (arith, h.1), grind (arith, h.1))

first-above : (p q n slice : ℕ) → p ≤ 2 * (slice + 1) → 2 * slice ≤ q → slice + 1 < n → ((p - 1) / 2 ≤ slice) × (slice ≤ min (q / 2) (n - 2))
first-above p q n slice a b c = (grind arith, grind arith)

at-most-or-above : (a b : ℕ) → (a ≤ b) ⊎ (b < a)
at-most-or-above a b = grind arith

module _ (grid : List ℕ) (is : IsGrid grid) (range : Span) where
  -- it has a tick: its first one, or the first one of the range
  shares : (near : Near) → near_of grid range ≡ Some near → (slice : ℕ) → (near.first ≤ slice) × (slice ≤ near.last) → (slice + 1 < length grid) × SharesTick grid range slice
  shares near e slice one =
      let some = near-some grid range near e in
      let ticks = some.0 in
      let order = (ticks-some grid range ticks some.1).order in
      let clock = (ticks-to grid range ticks some.1 ticks.last order (omega arith)).0 in
      let at = last-below (tick_place grid ticks.first) (tick_place grid ticks.last) (length grid) slice (subst (λ (n : Near). (n.first ≤ slice) × (slice ≤ n.last)) some.2 one) in
      let inside : slice + 1 < length grid = omega (arith, at.2, is.slices) in
      let rising = is.rising slice inside in (
        inside,
        elim (at-most-or-above ticks.first (slice_index grid slice)) [
          | inl early ↦ elim (at-most-or-above (slice_index grid slice) ticks.last) [
            | inl l ↦ record { tick = slice_index grid slice; inside = (ticks-to grid range ticks some.1 (slice_index grid slice) early l).1; begun = omega arith; not_ended = omega (arith, rising) }
            | inr l ↦ absurd (omega (arith, at.1, below-gate grid is ticks.last slice clock (omega (arith, inside)) l))
          ]
          | inr late ↦ elim (at-most-or-above ticks.first (slice_index grid (slice + 1))) [
            | inl l ↦ record { tick = ticks.first; inside = (ticks-to grid range ticks some.1 ticks.first (omega arith) order).1; begun = omega (arith, late); not_ended = l }
            | inr l ↦ absurd (omega (arith, at.0, above-gate grid is ticks.first (slice + 1) (omega (arith, order, clock)) inside l))
          ]
        ],
      )

  one-of : (slice : ℕ) → slice + 1 < length grid → SharesTick grid range slice → IsOneOf (near_of grid range) slice
  one-of slice inside with_tick =
      let end = last-greatest grid is.rising (slice + 1) inside in
      let clock : with_tick.tick ≤ last_tick grid = omega (arith, end, with_tick.not_ended) in
      let there = ticks-there grid range with_tick.tick clock with_tick.inside in
      let from = ticks-from grid range there.0 there.1 with_tick.tick clock with_tick.inside in
      let low = place-mono grid there.0.first with_tick.tick from.0 in
      let right = place-mono grid with_tick.tick (slice_index grid (slice + 1)) with_tick.not_ended in
      let left = place-mono grid (slice_index grid slice) with_tick.tick with_tick.begun in
      let high = place-mono grid with_tick.tick there.0.last from.1 in
      let first = tick_place-gate grid is.rising slice (omega (arith, inside)) in
      let last = tick_place-gate grid is.rising (slice + 1) inside in
      subst (λ (o : Option Ticks). IsOneOf (option_map (near_to grid) o) slice) (sym there.1)
      (first-above (tick_place grid there.0.first) (tick_place grid there.0.last) (length grid) slice (omega (arith, low, right, last)) (omega (arith, left, high, first)) inside)

  pub slices-exact : (slice : ℕ) → IsOneOf (near_of grid range) slice ↔ ((slice + 1 < length grid) × SharesTick grid range slice)
  slices-exact slice = (there (near_of grid range) refl, λ h. one-of slice h.0 h.1)
    where
      there : (o : Option Near) → near_of grid range ≡ o → IsOneOf o slice → (slice + 1 < length grid) × SharesTick grid range slice
      there None e one = absurd one
      there (Some n) e one = shares n e slice one

  -- the first slice is at most the last
  in-order : (near : Near) → near_of grid range ≡ Some near → near.first ≤ near.last
  in-order near e = (near-among grid range near is.slices e).0

  pub gates-exact : (gate : ℕ) → Contains (gates_of (near_of grid range)) gate ↔ ((slice : ℕ) × IsOneOf (near_of grid range) slice × ((gate ≡ slice) ⊎ (gate ≡ slice + 1)))
  gates-exact gate = (there (near_of grid range) refl, back (near_of grid range) refl)
    where
      there : (o : Option Near) → near_of grid range ≡ o → Contains (gates_of o) gate → (slice : ℕ) × IsOneOf o slice × ((gate ≡ slice) ⊎ (gate ≡ slice + 1))
      there None e h = absurd (omega (arith, h.1))
      there (Some n) e h =
          let size : ℕ = n.last + 2 - n.first in
          let few : h.0 < size = omega (arith, h.1, length-range_with_len n.first size) in
          let value : n.first + h.0 ≡ gate = sym (get_or-range_with_len n.first size h.0 gate few) ∙ h.2 in
          let order = in-order n e in
          elim (at-most-or-above gate n.last) [
            | inl l ↦ (gate, (omega (arith, value), l), inl refl)
            | inr l ↦ (n.last, (order, omega arith), inr (omega (arith, value, few, l)))
          ]

      back : (o : Option Near) → near_of grid range ≡ o → (slice : ℕ) × IsOneOf o slice × ((gate ≡ slice) ⊎ (gate ≡ slice + 1)) → Contains (gates_of o) gate
      back None e h = absurd h.1
      back (Some n) e h =
          let size : ℕ = n.last + 2 - n.first in
          let bounds : (n.first ≤ gate) × (gate ≤ n.last + 1) = elim h.2 [ inl g ↦ (omega (arith, h.1, g), omega (arith, h.1, g)) | inr g ↦ (omega (arith, h.1, g), omega (arith, h.1, g)) ] in
          let few : gate - n.first < size = omega (arith, bounds.0, bounds.1) in
          let value : n.first + (gate - n.first) ≡ gate = omega (arith, bounds.0) in
          (gate - n.first, omega (arith, few, length-range_with_len n.first size), get_or-range_with_len n.first size (gate - n.first) gate few ∙ value)

  pub places-exact : (place : ℕ) → Contains (places_of (near_of grid range)) place ↔ ((slice : ℕ) × IsOneOf (near_of grid range) slice × (2 * slice ≤ place) × (place ≤ 2 * (slice + 1)))
  places-exact place = (there (near_of grid range) refl, back (near_of grid range) refl)
    where
      there : (o : Option Near) → near_of grid range ≡ o → Contains (places_of o) place → (slice : ℕ) × IsOneOf o slice × (2 * slice ≤ place) × (place ≤ 2 * (slice + 1))
      there None e h = absurd (omega (arith, h.1))
      there (Some n) e h =
          let size : ℕ = 2 * (n.last + 1 - n.first) + 1 in
          let few : h.0 < size = omega (arith, h.1, length-range_with_len (2 * n.first) size) in
          let value : 2 * n.first + h.0 ≡ place = sym (get_or-range_with_len (2 * n.first) size h.0 place few) ∙ h.2 in
          let order = in-order n e in
          elim (at-most-or-above place (2 * n.last + 1)) [
            | inl l ↦ (place / 2, (omega (arith, value), omega (arith, l)), omega arith, omega arith)
            | inr l ↦ (n.last, (order, omega arith), omega (arith, l), omega (arith, value, few, order))
          ]

      back : (o : Option Near) → near_of grid range ≡ o → (slice : ℕ) × IsOneOf o slice × (2 * slice ≤ place) × (place ≤ 2 * (slice + 1)) → Contains (places_of o) place
      back None e h = absurd h.1
      back (Some n) e h =
          let size : ℕ = 2 * (n.last + 1 - n.first) + 1 in
          let few : place - 2 * n.first < size = omega (arith, h.1, h.2, h.3) in
          let value : 2 * n.first + (place - 2 * n.first) ≡ place = omega (arith, h.1, h.2) in
          (place - 2 * n.first, omega (arith, few, length-range_with_len (2 * n.first) size), get_or-range_with_len (2 * n.first) size (place - 2 * n.first) place few ∙ value)
