-- Laws of the slices that share a tick with a range.
use Rattle.std.proofs.Common.{◌≡◌, ℕ, suc, ◌+◌, ◌-◌, ◌*◌, ◌/◌, ◌<◌, ◌≤◌, min, cond, leb, ltb, Option, Some, None, List, [], ◌∷◌, length, pos, arith, refl, sym, ap, subst, ◌∙◌, All, Contains}
use Rattle.std.specs.List.{range_with_len}
use Rattle.std.specs.Option.{option_map}
use Rattle.std.proofs.lemmas.Bool.Decides.{nat_tests}
use Rattle.std.proofs.lemmas.List.Elements.{All-nil}
use Rattle.std.proofs.lemmas.List.FromFn.{length-range_with_len, get_or-range_with_len}
use Rattle.tube_spec.specs.Span.{Span, Holds}
use Rattle.tube_spec.specs.Grid.{last_tick}
use Rattle.tube_spec.specs.Tick.{tick_place}
use Rattle.slice_gates.specs.declared.clock.Ticks.{Ticks}
use Rattle.slice_gates.specs.declared.near.Near.{Near}
use Rattle.slice_gates.specs.Clock.{ticks_of}
use Rattle.slice_gates.proofs.Clocks.{ticks-some, ticks-there, ticks-from}
use Rattle.slice_gates.specs.Near.{near_to, near_of, gates_of, places_of}

-- a later tick stands at no earlier place
pub place-mono : (grid : List ℕ) (k j : ℕ) → k ≤ j → tick_place grid k ≤ tick_place grid j
place-mono [] k j h = omega arith
place-mono (a ∷ []) k j h = omega arith
place-mono (a ∷ (b ∷ rest)) k j h = step k j a b (tick_place (b ∷ rest) k) (tick_place (b ∷ rest) j) h (place-mono (b ∷ rest) k j h)
  where
    step : (k j a b p q : ℕ) → k ≤ j → p ≤ q → cond (leb k a) 0 (cond (ltb k b) 1 (suc (suc p))) ≤ cond (leb j a) 0 (cond (ltb j b) 1 (suc (suc q)))
    step k j a b p q h l = grind (arith, nat_tests)

-- the last place is that of the last gate
pub place-among : (grid : List ℕ) (k : ℕ) → tick_place grid k ≤ 2 * (length grid - 1)
place-among [] k = omega arith
place-among (a ∷ []) k = omega arith
place-among (a ∷ (b ∷ rest)) k = step k a b (tick_place (b ∷ rest) k) (length (b ∷ rest)) (omega arith) (place-among (b ∷ rest) k)
  where
    step : (k a b p n : ℕ) → 1 ≤ n → p ≤ 2 * (n - 1) → cond (leb k a) 0 (cond (ltb k b) 1 (suc (suc p))) ≤ 2 * (suc n - 1)
    step k a b p n s h = grind (arith, nat_tests)

-- they are those of the first and of the last tick of the range
pub near-some : (grid : List ℕ) (range : Span) (near : Near) → near_of grid range ≡ Some near → (ticks : Ticks) × (ticks_of grid range ≡ Some ticks) × (near ≡ near_to grid ticks)
near-some grid range near e = at (ticks_of grid range) refl e
  where
    some_or : Near → Option Near → Near
    some_or n None = n
    some_or n (Some m) = m

    at : (o : Option Ticks) → ticks_of grid range ≡ o → option_map (near_to grid) o ≡ Some near → (ticks : Ticks) × (ticks_of grid range ≡ Some ticks) × (near ≡ near_to grid ticks)
    at None d f = absurd (cc)
    at (Some ticks) d f = (ticks, d, sym (ap (some_or near) f))

-- the first slice is at most the last, and both are slices of the grid
between : (p q n : ℕ) → p ≤ q → q ≤ 2 * (n - 1) → 2 ≤ n → ((p - 1) / 2 ≤ min (q / 2) (n - 2)) × (min (q / 2) (n - 2) + 1 < n)
between p q n h l some = (grind arith, grind arith)

pub near-among : (grid : List ℕ) (range : Span) (near : Near) → 2 ≤ length grid → near_of grid range ≡ Some near → (near.first ≤ near.last) × (near.last + 1 < length grid)
near-among grid range near some e =
    let n = near-some grid range near e in
    let ticks = ticks-some grid range n.0 n.1 in
    subst (λ (m : Near). (m.first ≤ m.last) × (m.last + 1 < length grid)) (sym n.2)
    (between (tick_place grid n.0.first) (tick_place grid n.0.last) (length grid) (place-mono grid n.0.first n.0.last ticks.order) (place-among grid n.0.last) some)

-- each tick of the range stands at a place of these slices
around : (p k q n : ℕ) → p ≤ k → k ≤ q → q ≤ 2 * (n - 1) → 2 ≤ n → (2 * ((p - 1) / 2) ≤ k) × (k ≤ 2 * (min (q / 2) (n - 2) + 1))
around p k q n a b l some = (grind arith, grind arith)

pub record Stands (grid : List ℕ) (range : Span) (k : ℕ) : Type 0 where
  pub near : Near
  pub is : near_of grid range ≡ Some near
  pub low : 2 * near.first ≤ tick_place grid k
  pub high : tick_place grid k ≤ 2 * (near.last + 1)

pub stands-near : (grid : List ℕ) (range : Span) → 2 ≤ length grid → (k : ℕ) → k ≤ last_tick grid → Holds range (pos k) → Stands grid range k
stands-near grid range some k l h =
    let there = ticks-there grid range k l h in
    let ticks = there.0 in
    let from = ticks-from grid range ticks there.1 k l h in
    let at = around (tick_place grid ticks.first) (tick_place grid k) (tick_place grid ticks.last) (length grid) (place-mono grid ticks.first k from.0) (place-mono grid k ticks.last from.1) (place-among grid ticks.last) some in
    record { near = near_to grid ticks; is = ap (option_map (near_to grid)) there.1; low = at.0; high = at.1 }

-- a gate of these slices
pub record IsGateNear (grid : List ℕ) (range : Span) (gate : ℕ) : Type 0 where
  pub near : Near
  pub is : near_of grid range ≡ Some near
  pub low : near.first ≤ gate
  pub high : gate ≤ near.last + 1

-- what holds of each number from a on holds of a list of such numbers
range-each : (P : ℕ → Type 0) (a n : ℕ) → ((i : ℕ) → i < n → P (a + i)) → All P (range_with_len a n)
range-each P a n h i d l =
    let inside : i < n = omega (arith, l, length-range_with_len a n) in
    subst P (sym (get_or-range_with_len a n i d inside)) (h i inside)

pub gates-each : (P : ℕ → Type 0) (grid : List ℕ) (range : Span) → ((gate : ℕ) → IsGateNear grid range gate → P gate) → All P (gates_of (near_of grid range))
gates-each P grid range h = at (near_of grid range) refl
  where
    at : (o : Option Near) → near_of grid range ≡ o → All P (gates_of o)
    at None e = All-nil P
    at (Some n) e = range-each P n.first (n.last + 2 - n.first) (λ i l. h (n.first + i) (record { near = n; is = e; low = omega arith; high = omega (arith, l) }))

-- a place of these slices
pub record IsPlaceNear (grid : List ℕ) (range : Span) (place : ℕ) : Type 0 where
  pub near : Near
  pub is : near_of grid range ≡ Some near
  pub low : 2 * near.first ≤ place
  pub high : place ≤ 2 * (near.last + 1)

pub places-each : (P : ℕ → Type 0) (grid : List ℕ) (range : Span) → ((place : ℕ) → IsPlaceNear grid range place → P place) → 2 ≤ length grid → All P (places_of (near_of grid range))
places-each P grid range h some = at (near_of grid range) refl
  where
    at : (o : Option Near) → near_of grid range ≡ o → All P (places_of o)
    at None e = All-nil P
    at (Some n) e =
        let among = near-among grid range n some e in
        range-each P (2 * n.first) (2 * (n.last + 1 - n.first) + 1) (λ i l. h (2 * n.first + i) (record { near = n; is = e; low = omega arith; high = omega (arith, l, among.0) }))

-- and each such place is one of the list
pub places-contain : (grid : List ℕ) (range : Span) (place : ℕ) → IsPlaceNear grid range place → Contains (places_of (near_of grid range)) place
places-contain grid range place h =
    let n = h.near in
    let size : ℕ = 2 * (n.last + 1 - n.first) + 1 in
    let inside : place - 2 * n.first < size = omega (arith, h.low, h.high) in
    let there : 2 * n.first + (place - 2 * n.first) ≡ place = omega (arith, h.low) in
    subst (λ (o : Option Near). Contains (places_of o) place) (sym h.is)
    (place - 2 * n.first, omega (arith, inside, length-range_with_len (2 * n.first) size), get_or-range_with_len (2 * n.first) size (place - 2 * n.first) place inside ∙ there)
