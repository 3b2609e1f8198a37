-- The slices near the declared range of a time have every tick that the time may be at.
use Rattle.std.proofs.Common.{◌≡◌, ℕ, zero, suc, ◌+◌, ◌-◌, ◌*◌, ◌/◌, ◌<◌, ◌≤◌, min, ◌⊎◌, inl, inr, Option, Some, List, length, slice_index, pos, arith, sym, ap, ap₂, subst, ◌∙◌}
use Rattle.std.proofs.lemmas.Int.{ints, clamps}
use Rattle.tube_spec.specs.Span.{Span, Holds, meet_of}
use Rattle.tube_spec.specs.Grid.{IsGrid, last_tick}
use Rattle.tube_spec.specs.Tick.{tick_place}
use Rattle.tube_spec.proofs.Ticks.{tick-split, tick_place-gate, tick_place-inside}
use Rattle.slice_gates.specs.declared.clock.Ticks.{Ticks}
use Rattle.slice_gates.specs.declared.near.Near.{Near}
use Rattle.slice_gates.specs.Clock.{ticks_of}
use Rattle.slice_gates.specs.Near.{near_to, near_of, IsOneOf}
use Rattle.slice_gates.specs.Ticks.{IsSliceOf}
use Rattle.std.specs.Option.{option_map}
use Rattle.slice_gates.proofs.Clocks.{ticks-some, ticks-to}
use Rattle.slice_gates.proofs.Shares.{slices-exact}
use Rattle.ctc_eval.specs.Walks.{Covers}

same-or-later : (i j : ℕ) → i ≤ suc j → (i ≤ j) ⊎ (i ≡ suc j)
same-or-later i j h = grind arith

-- a later boundary is at no earlier tick
pub gates-rise : (grid : List ℕ) → IsGrid grid → (i j : ℕ) → i ≤ j → j < length grid → slice_index grid i ≤ slice_index grid j
gates-rise grid is i zero h l = let e : i ≡ 0 = omega (arith, h) in omega (arith, ap (slice_index grid) e)
gates-rise grid is i (suc j) h l = elim (same-or-later i j h) [
  | inl le ↦
      let next : j + 1 ≡ suc j = omega arith in
      omega (arith, gates-rise grid is i j le (omega (arith, l)), is.rising j (omega (arith, l)), ap (slice_index grid) next)
  | inr e ↦ omega (arith, ap (slice_index grid) e)
]

-- each tick of the clock stands in a slice
record Stands (grid : List ℕ) (k : ℕ) : Type 0 where
  slice : ℕ
  among : slice + 1 < length grid
  begun : slice_index grid slice ≤ k
  not_ended : k ≤ slice_index grid (slice + 1)

last-or-more : (i n : ℕ) → i < n → (i + 1 < n) ⊎ (i + 1 ≡ n)
last-or-more i n l = grind arith

stands : (grid : List ℕ) → IsGrid grid → (k : ℕ) → k ≤ last_tick grid → Stands grid k
stands grid is k l = elim (tick-split grid (omega (arith, is.slices)) k (omega (arith, is.starts)) l) [
  | inl b ↦ elim (last-or-more b.0 (length grid) b.1) [
    | inl more ↦ record { slice = b.0; among = more; begun = omega (arith, b.2); not_ended = omega (arith, b.2, is.rising b.0 more) }
    | inr last ↦
        let e : b.0 - 1 + 1 ≡ b.0 = omega (arith, last, is.slices) in
        let same = ap (slice_index grid) e in
        let up = is.rising (b.0 - 1) (omega (arith, last, is.slices)) in
        record { slice = b.0 - 1; among = omega (arith, last, is.slices); begun = omega (arith, up, same, b.2); not_ended = omega (arith, same, b.2) }
  ]
  | inr b ↦ record { slice = b.0; among = b.1; begun = omega (arith, b.2); not_ended = omega (arith, b.3) }
]

module _ (grid : List ℕ) (is : IsGrid grid) (range v : Span) (near : Near) (ticks : Ticks) (there : Some near ≡ near_of grid range) (some : ticks_of grid (meet_of v range) ≡ Some ticks) where
  stands-near : (k : ℕ) → ticks.first ≤ k → k ≤ ticks.last → (at : Stands grid k) → (near.first ≤ at.slice) × (at.slice ≤ near.last)
  stands-near k p q at =
      let inside = ticks-to grid (meet_of v range) ticks some k p q in
      let low = inside.1.low in
      let high = inside.1.high in
      let in_range : Holds range (pos k) = record { low = omega (arith, ints, clamps, low); high = omega (arith, ints, clamps, high) } in
      subst (λ (o : Option Near). IsOneOf o at.slice) (sym there) ((slices-exact grid is range at.slice).1 (at.among, record { tick = k; inside = in_range; begun = at.begun; not_ended = at.not_ended }))

  pub covers : near.first ≤ near.last → near.last + 1 < length grid → Covers grid ticks near
  covers order among =
      let up = (ticks-some grid (meet_of v range) ticks some).order in
      let first = stands grid is ticks.first (ticks-to grid (meet_of v range) ticks some ticks.first (omega arith) up).0 in
      let last = stands grid is ticks.last (ticks-to grid (meet_of v range) ticks some ticks.last up (omega arith)).0 in
      let from = stands-near ticks.first (omega arith) up first in
      let to = stands-near ticks.last up (omega arith) last in
      let low = gates-rise grid is near.first first.slice from.0 (omega (arith, first.among)) in
      let high = gates-rise grid is (last.slice + 1) (near.last + 1) (omega (arith, to.1)) among in
      record { order = order; among = among; starts = omega (arith, low, first.begun); ends = omega (arith, high, last.not_ended) }

-- ---- the slices near a range, by the slices that ticks stand in

below-or-not : (i j : ℕ) → (i < j) ⊎ (j ≤ i)
below-or-not i j = grind arith

below-by : (grid : List ℕ) → IsGrid grid → (i j : ℕ) → i < length grid → slice_index grid i < slice_index grid j → i < j
below-by grid is i j l h = elim (below-or-not i j) [
  | inl lt ↦ lt
  | inr le ↦ absurd (omega (arith, gates-rise grid is j i le l, h))
]

most-by : (grid : List ℕ) → IsGrid grid → (i j : ℕ) → j < length grid → slice_index grid i ≤ slice_index grid j → i < length grid → i ≤ j
most-by grid is i j l h m = elim (below-or-not j i) [
  | inl lt ↦
      let next = gates-rise grid is (j + 1) i (omega (arith, lt)) m in
      absurd (omega (arith, next, h, is.rising j (omega (arith, lt, m))))
  | inr le ↦ le
]

module _ (grid : List ℕ) (is : IsGrid grid) where
  -- a slice that begins at a tick or before it and ends after it is that of the tick
  pub slice-here : (tick i : ℕ) → i + 1 < length grid → slice_index grid i ≤ tick → tick < slice_index grid (i + 1) → IsSliceOf grid tick i
  slice-here tick i among begins end = record {
    among = among;
    begins = begins;
    greatest = λ j l h. let lt = below-by grid is j (i + 1) (omega (arith, l)) (omega (arith, h, end)) in omega (arith, lt);
  }

  half-gate : (p j i : ℕ) → p ≡ 2 * j → i + 1 ≡ j → (p - 1) / 2 ≡ i
  half-gate p j i e d = omega (arith, e, d)

  half-inside : (p j i : ℕ) → p ≡ 2 * j + 1 → i ≡ j → (p - 1) / 2 ≡ i
  half-inside p j i e d = omega (arith, e, d)

  half-none : (p i : ℕ) → p ≡ 0 → i ≡ 0 → (p - 1) / 2 ≡ i
  half-none p i e d = omega (arith, e, d)

  none-or-some : (j : ℕ) → (j ≡ 0) ⊎ (0 < j)
  none-or-some j = grind arith

  -- the slice of the tick before a tick is the first that has the tick
  pub slice-first : (tick i : ℕ) → tick ≤ last_tick grid → IsSliceOf grid (tick - 1) i → (tick_place grid tick - 1) / 2 ≡ i
  slice-first tick i l at = elim (tick-split grid (omega (arith, is.slices)) tick (omega (arith, is.starts)) l) [
    | inl b ↦
        let place : tick_place grid tick ≡ 2 * b.0 = subst (λ (k : ℕ). tick_place grid k ≡ 2 * b.0) b.2 (tick_place-gate grid is.rising b.0 b.1) in
        elim (none-or-some b.0) [
          | inl none ↦
              let start : tick ≡ 0 = omega (arith, b.2, ap (slice_index grid) none, is.starts) in
              let begins : slice_index grid i ≤ slice_index grid 0 = omega (arith, at.begins, start) in
              let zero = most-by grid is i 0 (omega (arith, is.slices)) begins (omega (arith, at.among)) in
              half-none (tick_place grid tick) i (omega (arith, place, none)) (omega (arith, zero))
          | inr some ↦
              let back : b.0 - 1 + 1 ≡ b.0 = omega (arith, some) in
              let up = is.rising (b.0 - 1) (omega (arith, some, b.1)) in
              let same = ap (slice_index grid) back in
              let least = at.greatest (b.0 - 1) (omega (arith, some, b.1)) (omega (arith, up, same, b.2)) in
              let before : slice_index grid i < slice_index grid b.0 = omega (arith, at.begins, up, same, b.2) in
              half-gate (tick_place grid tick) b.0 i place (omega (arith, least, below-by grid is i b.0 (omega (arith, at.among)) before, some))
        ]
    | inr b ↦
        let place = tick_place-inside grid is.rising b.0 tick b.1 b.2 b.3 in
        let least = at.greatest b.0 b.1 (omega (arith, b.2)) in
        let before : slice_index grid i < slice_index grid (b.0 + 1) = omega (arith, at.begins, b.3, b.2) in
        half-inside (tick_place grid tick) b.0 i place (omega (arith, least, below-by grid is i (b.0 + 1) (omega (arith, at.among)) before))
  ]

  last-gate : (p j i n : ℕ) → p ≡ 2 * j → i ≤ j → i + 1 < n → (j + 1 < n → j ≤ i) → (j + 1 ≡ n → n - 2 ≤ i) → j < n → min (p / 2) (n - 2) ≡ i
  last-gate p j i n e a b h k l = elim (last-or-more j n l) [
    | inl more ↦ let le = h more in omega (arith, e, a, le, b)
    | inr last ↦ let le = k last in omega (arith, e, le, b, last)
  ]

  last-inside : (p j i n : ℕ) → p ≡ 2 * j + 1 → i ≡ j → j + 1 < n → min (p / 2) (n - 2) ≡ i
  last-inside p j i n e d l = omega (arith, e, d, l)

  -- and the slice of a tick is the last that has it
  pub slice-last : (tick i : ℕ) → tick ≤ last_tick grid → IsSliceOf grid tick i → min (tick_place grid tick / 2) (length grid - 2) ≡ i
  slice-last tick i l at = elim (tick-split grid (omega (arith, is.slices)) tick (omega (arith, is.starts)) l) [
    | inl b ↦
        let place : tick_place grid tick ≡ 2 * b.0 = subst (λ (k : ℕ). tick_place grid k ≡ 2 * b.0) b.2 (tick_place-gate grid is.rising b.0 b.1) in
        let most = most-by grid is i b.0 b.1 (omega (arith, at.begins, b.2)) (omega (arith, at.among)) in
        last-gate (tick_place grid tick) b.0 i (length grid) place most at.among (λ more. at.greatest b.0 more (omega (arith, b.2)))
        (λ last. at.greatest (length grid - 2) (omega (arith, is.slices)) (omega (arith, gates-rise grid is (length grid - 2) b.0 (omega (arith, last)) b.1, b.2))) b.1
    | inr b ↦
        let place = tick_place-inside grid is.rising b.0 tick b.1 b.2 b.3 in
        let least = at.greatest b.0 b.1 (omega (arith, b.2)) in
        let before : slice_index grid i < slice_index grid (b.0 + 1) = omega (arith, at.begins, b.3) in
        last-inside (tick_place grid tick) b.0 i (length grid) place (omega (arith, least, below-by grid is i (b.0 + 1) (omega (arith, at.among)) before)) b.1
  ]

  -- the slices near a range, by those of its first and its last tick
  pub near-by : (range : Span) (ticks : Ticks) (first last : ℕ) → Some ticks ≡ ticks_of grid range → ticks.first ≤ last_tick grid → ticks.last ≤ last_tick grid → IsSliceOf grid (ticks.first - 1) first → IsSliceOf grid ticks.last last
      → Some (record { first = first; last = last }) ≡ near_of grid range
  near-by range ticks first last e p q low high =
      ap₂ (λ (a b : ℕ). let n : Near = record { first = a; last = b } in Some n) (sym (slice-first ticks.first first p low)) (sym (slice-last ticks.last last q high)) ∙ ap (option_map (near_to grid)) e
