-- Where a tick stands in the grid, and what a box gives there.
use Rattle.std.proofs.Common.{◌≡◌, ℕ, zero, suc, ◌+◌, ◌-◌, ◌*◌, ◌<◌, ◌≤◌, ◌⊎◌, inl, inr, List, [], ◌∷◌, cond, leb, ltb, length, slice_index, arith, refl, sym, ap, subst, ◌∙◌}
use Rattle.std.proofs.lemmas.Bool.Decides.{nat_tests}
use Rattle.std.proofs.lemmas.Int.{ints}
use Rattle.tube_spec.specs.Span.{Span, Holds, IsWithin, point}
use Rattle.tube_spec.specs.Grid.{IsGrid, last_tick}
use Rattle.tube_spec.specs.Shape.{Shape, envelope_cell, slice_width}
use Rattle.tube_spec.specs.Box.{cell_at, IsBelow}
use Rattle.tube_spec.specs.Tick.{tick_place, tick_cell, at_tick}
use Rattle.tube_spec.specs.Assignment.{Assignment, value_at, hull_over, IsHull}
use Rattle.tube_spec.proofs.Assignments.{value-within}

-- each boundary is below the next
abbrev pub Rises : List ℕ → Type 0
Rises grid = (i : ℕ) → i + 1 < length grid → slice_index grid i < slice_index grid (i + 1)

rises-tail : (a : ℕ) (rest : List ℕ) → Rises (a ∷ rest) → Rises rest
rises-tail a rest h i l =
    let e : suc i + 1 ≡ suc (i + 1) = omega arith in
    subst (λ (m : ℕ). slice_index rest i < slice_index (a ∷ rest) m) e (h (suc i) (omega (arith, l)))

place-past : (k a b p : ℕ) → a < k → b ≤ k → cond (leb k a) 0 (cond (ltb k b) 1 (suc (suc p))) ≡ suc (suc p)
place-past k a b p h g = grind (arith, nat_tests)

place-inside : (k a b p : ℕ) → a < k → k < b → cond (leb k a) 0 (cond (ltb k b) 1 (suc (suc p))) ≡ 1
place-inside k a b p h g = grind (arith, nat_tests)

place-first : (k a b p : ℕ) → k ≤ a → cond (leb k a) 0 (cond (ltb k b) 1 (suc (suc p))) ≡ 0
place-first k a b p h = grind (arith, nat_tests)

-- the first boundary is the least
pub first-least : (grid : List ℕ) → Rises grid → (i : ℕ) → i < length grid → slice_index grid 0 ≤ slice_index grid i
first-least [] up i l = absurd (omega (arith, l))
first-least (a ∷ rest) up zero l = omega arith
first-least (a ∷ []) up (suc i) l = absurd (omega (arith, l))
first-least (a ∷ (b ∷ rest)) up (suc i) l =
    let below : a < b = up 0 (omega arith) in
    let later = first-least (b ∷ rest) (rises-tail a (b ∷ rest) up) i (omega (arith, l)) in
    omega (arith, below, later)

last_tick-cons : (a b : ℕ) (rest : List ℕ) → last_tick (a ∷ (b ∷ rest)) ≡ last_tick (b ∷ rest)
last_tick-cons a b rest =
    let e : length (a ∷ (b ∷ rest)) - 1 ≡ suc (length (b ∷ rest) - 1) = omega arith in
    ap (λ (m : ℕ). slice_index (a ∷ (b ∷ rest)) m) e

-- the last boundary is the greatest
pub last-greatest : (grid : List ℕ) → Rises grid → (i : ℕ) → i < length grid → slice_index grid i ≤ last_tick grid
last-greatest [] up i l = absurd (omega (arith, l))
last-greatest (a ∷ []) up zero l = let e : last_tick (a ∷ []) ≡ a = refl in omega (arith, e)
last-greatest (a ∷ []) up (suc i) l = absurd (omega (arith, l))
last-greatest (a ∷ (b ∷ rest)) up zero l =
    let below : a < b = up 0 (omega arith) in
    let later = last-greatest (b ∷ rest) (rises-tail a (b ∷ rest) up) 0 (omega arith) in
    subst (λ (t : ℕ). a ≤ t) (sym (last_tick-cons a b rest)) (omega (arith, below, later))
last-greatest (a ∷ (b ∷ rest)) up (suc i) l =
    subst (λ (t : ℕ). slice_index (b ∷ rest) i ≤ t) (sym (last_tick-cons a b rest)) (last-greatest (b ∷ rest) (rises-tail a (b ∷ rest) up) i (omega (arith, l)))

-- a boundary stands at its gate
pub tick_place-gate : (grid : List ℕ) → Rises grid → (i : ℕ) → i < length grid → tick_place grid (slice_index grid i) ≡ 2 * i
tick_place-gate [] up i l = absurd (omega (arith, l))
tick_place-gate (a ∷ []) up zero l = refl
tick_place-gate (a ∷ []) up (suc i) l = absurd (omega (arith, l))
tick_place-gate (a ∷ (b ∷ rest)) up zero l = place-first a a b (tick_place (b ∷ rest) a) (omega arith)
tick_place-gate (a ∷ (b ∷ rest)) up (suc i) l =
    let k : ℕ = slice_index (b ∷ rest) i in
    let below : a < b = up 0 (omega arith) in
    let tail = rises-tail a (b ∷ rest) up in
    let first : b ≤ k = first-least (b ∷ rest) tail i (omega (arith, l)) in
    let there : tick_place (b ∷ rest) k ≡ 2 * i = tick_place-gate (b ∷ rest) tail i (omega (arith, l)) in
    place-past k a b (tick_place (b ∷ rest) k) (omega (arith, below, first)) first ∙ omega (arith, there)

-- a tick between two boundaries stands at the envelope of its slice
pub tick_place-inside : (grid : List ℕ) → Rises grid → (i k : ℕ) → i + 1 < length grid → slice_index grid i < k → k < slice_index grid (i + 1) → tick_place grid k ≡ 2 * i + 1
tick_place-inside [] up i k l low high = absurd (omega (arith, l))
tick_place-inside (a ∷ []) up i k l low high = absurd (omega (arith, l))
tick_place-inside (a ∷ (b ∷ rest)) up zero k l low high = place-inside k a b (tick_place (b ∷ rest) k) low high
tick_place-inside (a ∷ (b ∷ rest)) up (suc i) k l low high =
    let below : a < b = up 0 (omega arith) in
    let tail = rises-tail a (b ∷ rest) up in
    let first : b ≤ slice_index (b ∷ rest) i = first-least (b ∷ rest) tail i (omega (arith, l)) in
    let e : suc i + 1 ≡ suc (i + 1) = omega arith in
    let upper : k < slice_index (b ∷ rest) (i + 1) = subst (λ (m : ℕ). k < slice_index (a ∷ (b ∷ rest)) m) e high in
    let there : tick_place (b ∷ rest) k ≡ 2 * i + 1 = tick_place-inside (b ∷ rest) tail i k (omega (arith, l)) low upper in
    place-past k a b (tick_place (b ∷ rest) k) (omega (arith, below, first, low)) (omega (arith, first, low)) ∙ omega (arith, there)

-- a tick from the first boundary to the last is a boundary, or stands between two neighbours
abbrev pub AtBoundary : List ℕ → ℕ → Type 0
AtBoundary grid k = (i : ℕ) × (i < length grid) × (slice_index grid i ≡ k)

abbrev pub InSlice : List ℕ → ℕ → Type 0
InSlice grid k = (i : ℕ) × (i + 1 < length grid) × (slice_index grid i < k) × (k < slice_index grid (i + 1))

pub tick-split : (grid : List ℕ) → 1 ≤ length grid → (k : ℕ) → slice_index grid 0 ≤ k → k ≤ last_tick grid → AtBoundary grid k ⊎ InSlice grid k
tick-split [] some k low high = absurd (omega (arith, some))
tick-split (a ∷ []) some k low high = let e : slice_index (a ∷ []) 0 ≡ k = omega (arith, low, high) in inl (0, omega arith, e)
tick-split (a ∷ (b ∷ rest)) some k low high = elim (three k a b low) [
  | inl e ↦ inl (0, omega arith, e)
  | inr more ↦ elim more [
    | inl inside ↦ inr (0, omega arith, inside.0, inside.1)
    | inr past ↦ later (tick-split (b ∷ rest) (omega arith) k past (subst (λ (t : ℕ). k ≤ t) (last_tick-cons a b rest) high))
  ]
]
  where
    three : (k a b : ℕ) → a ≤ k → (a ≡ k) ⊎ (((a < k) × (k < b)) ⊎ (b ≤ k))
    three k a b h = grind arith

    later : AtBoundary (b ∷ rest) k ⊎ InSlice (b ∷ rest) k → AtBoundary (a ∷ (b ∷ rest)) k ⊎ InSlice (a ∷ (b ∷ rest)) k
    later (inl h) = inl (suc h.0, omega (arith, h.1), h.2)
    later (inr h) =
        let e : suc (h.0 + 1) ≡ suc h.0 + 1 = omega arith in
        inr (suc h.0, omega (arith, h.1), h.2, subst (λ (m : ℕ). k < slice_index (a ∷ (b ∷ rest)) m) e h.3)

-- The hull of an assignment holds the value of each tick.
pub at_tick-hull : (s : Shape) (a : Assignment) (xs : List Span) → IsGrid s.grid → IsHull s a xs → (signal k : ℕ) → signal < length s.signals → k ≤ last_tick s.grid → Holds (at_tick s xs signal k) (value_at a signal k)
at_tick-hull s a xs grid hull signal k named low = at (tick-split s.grid (omega (arith, grid.slices)) k (omega (arith, grid.starts)) low)
  where
    at : AtBoundary s.grid k ⊎ InSlice s.grid k → Holds (at_tick s xs signal k) (value_at a signal k)
    at (inl h) =
        let place : tick_place s.grid k ≡ 2 * h.0 = subst (λ (t : ℕ). tick_place s.grid t ≡ 2 * h.0) h.2 (tick_place-gate s.grid grid.rising h.0 h.1) in
        let cell : at_tick s xs signal k ≡ point (value_at a signal k) =
        ap (λ (p : ℕ). cell_at xs (slice_index s.signals signal + p)) place ∙ hull.gates signal h.0 named h.1 ∙ ap (λ (t : ℕ). point (value_at a signal t)) h.2 in
        subst (λ (x : Span). Holds x (value_at a signal k)) (sym cell) (record { low = omega (arith, ints); high = omega (arith, ints) })
    at (inr h) =
        let place : tick_place s.grid k ≡ 2 * h.0 + 1 = tick_place-inside s.grid grid.rising h.0 k h.1 h.2 h.3 in
        let e : slice_index s.signals signal + (2 * h.0 + 1) ≡ envelope_cell s signal h.0 = omega arith in
        let cell : at_tick s xs signal k ≡ hull_over (value_at a signal) (slice_index s.grid h.0) (slice_width s h.0) =
        ap (λ (p : ℕ). cell_at xs (slice_index s.signals signal + p)) place ∙ ap (cell_at xs) e ∙ hull.envelopes signal h.0 named h.1 in
        let there : slice_index s.grid h.0 + (k - slice_index s.grid h.0) ≡ k = omega (arith, h.2) in
        let inside = value-within (value_at a signal) (slice_index s.grid h.0) (slice_width s h.0) (k - slice_index s.grid h.0) (omega (arith, h.2, h.3)) in
        let here : IsWithin (point (value_at a signal k)) (hull_over (value_at a signal) (slice_index s.grid h.0) (slice_width s h.0)) =
        subst (λ (t : ℕ). IsWithin (point (value_at a signal t)) (hull_over (value_at a signal) (slice_index s.grid h.0) (slice_width s h.0))) there inside in
        subst (λ (x : Span). Holds x (value_at a signal k)) (sym cell) (record { low = here.low; high = here.high })

-- What lies in a box has each of its values in what the box gives at the tick.
pub at_tick-below : (s : Shape) (xs ys : List Span) → IsBelow xs ys → (signal k : ℕ) → IsWithin (at_tick s xs signal k) (at_tick s ys signal k)
at_tick-below s xs ys below signal k = below.each (tick_cell s signal k)

-- So each value of an assignment whose hull lies below a box lies in what the box gives at its tick.
pub at_tick-holds : (s : Shape) (a : Assignment) (q xs : List Span) → IsGrid s.grid → IsHull s a q → IsBelow q xs → (signal k : ℕ) → signal < length s.signals → k ≤ last_tick s.grid → Holds (at_tick s xs signal k) (value_at a signal k)
at_tick-holds s a q xs grid hull below signal k named low =
    let inner = at_tick-hull s a q grid hull signal k named low in
    let wider = at_tick-below s q xs below signal k in
    record { low = omega (arith, ints, inner.low, wider.low); high = omega (arith, ints, inner.high, wider.high) }
