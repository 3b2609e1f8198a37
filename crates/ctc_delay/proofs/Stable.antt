-- The hull of an assignment is stable under the projections of each delay that the assignment satisfies.
use Rattle.std.proofs.Common.{◌≡◌, ℕ, ◌+◌, ◌-◌, ◌/◌, ◌<◌, ◌≤◌, inl, inr, Bool, true, false, ◌&&◌, cond, List, Option, Some, None, ℤ, pos, ◌+ℤ◌, int_le, arith, refl, sym, ap, subst, ◌∙◌, length, All, slice_index}
use Rattle.std.proofs.lemmas.List.Elements.{All-from_recursion}
use Rattle.std.proofs.lemmas.Int.{ints, clamps}
use Rattle.tube_spec.specs.Span.{Span, IsWithin, point}
use Rattle.tube_spec.specs.Hull.{IsWithinOption}
use Rattle.tube_spec.specs.Narrowing.{Whole, IsUnder, narrowing_of}
use Rattle.tube_spec.specs.Grid.{IsGrid, last_tick}
use Rattle.tube_spec.specs.Shape.{Shape, gate_cell, envelope_cell, slice_width}
use Rattle.tube_spec.specs.Box.{cell_at}
use Rattle.tube_spec.specs.Projection.{IsStable}
use Rattle.tube_spec.specs.Assignment.{Assignment, value_at, IsHull}
use Rattle.tube_spec.proofs.Spans.{IsWithinOption-trans}
use Rattle.tube_spec.proofs.Assignments.{over-least-option}
use Rattle.tube_spec.proofs.Ticks.{at_tick-hull}
use Rattle.ctc_delay.specs.Places.{place_count, place_first, place_last}
use Rattle.ctc_delay.specs.Delays.{at_tick_from, lies_in, delayed_hull, is_possible, possible_hull, delay_to_at, delay_from_at, delay_to_projections, delay_from_projections, delay_shift_projections, DelayFits, IsDelay}
use Rattle.int_interval.specs.Inverse.{meets}
use Rattle.ctc_delay.specs.Hulls.{and-both, int_le-true, holds-lies_in, proper-shares, passes-all, counted-hull-holds, delayed-holds_at}
use Rattle.ctc_delay.specs.DelayLaws.{All-each_place}
use Rattle.ctc_delay.proofs.PlaceTicks.{gate-or-envelope, place-within}

under-narrowing : (t : Span) (h : Option Span) → IsWithinOption (Some t) h → IsUnder t (narrowing_of h)
under-narrowing t None w = w
under-narrowing t (Some s) w = w

-- what is held only where a test passes
under-guarded : (t : Span) (b : Bool) (h : Option Span) → (b ≡ true → IsWithinOption (Some t) h) → IsUnder t (cond b (narrowing_of h) Whole)
under-guarded t true h f = under-narrowing t h (f refl)
under-guarded t false h f = tt

-- spans that hold one number share it
both-share : (v : ℤ) (a b : Span) → IsWithin (point v) a → IsWithin (point v) b → meets a b ≡ true
both-share v a b p q = proper-shares a b (omega (arith, ints, clamps, p, q))

module _ (s : Shape) (a : Assignment) (q : List Span) (grid : IsGrid s.grid) (hull : IsHull s a q) where
  -- each value lies in what the hull gives at its tick
  value-in : (signal k : ℕ) → signal < length s.signals → k ≤ last_tick s.grid → IsWithin (point (value_at a signal k)) (at_tick_from s.grid q (slice_index s.signals signal) k)
  value-in signal k named low = let h = at_tick-hull s a q grid hull signal k named low in record { low = h.low; high = h.high }

  -- a cell lies within all that holds its values
  cell-least : (signal place : ℕ) → signal < length s.signals → place < place_count s.grid → (t : Option Span)
      → ((k : ℕ) → place_first s.grid place ≤ k → k ≤ place_last s.grid place → IsWithinOption (Some (point (value_at a signal k))) t) → IsWithinOption (Some (cell_at q (slice_index s.signals signal + place))) t
  cell-least signal place named among t h = elim (gate-or-envelope place) [
    | inl e ↦
        let cell : slice_index s.signals signal + place ≡ gate_cell s signal (place / 2) = omega (arith, e) in
        let same : (place + 1) / 2 ≡ place / 2 = omega (arith, e) in
        let is : cell_at q (slice_index s.signals signal + place) ≡ point (value_at a signal (place_first s.grid place)) =
        ap (cell_at q) cell ∙ hull.gates signal (place / 2) named (omega (arith, among, e, grid.slices)) in
        let last : place_first s.grid place ≤ place_last s.grid place = subst (λ (i : ℕ). place_first s.grid place ≤ slice_index s.grid i) (sym same) (omega arith) in
        subst (λ (x : Span). IsWithinOption (Some x) t) (sym is) (h (place_first s.grid place) (omega arith) last)
    | inr e ↦
        let inside : place / 2 + 1 < length s.grid = omega (arith, among, e) in
        let cell : slice_index s.signals signal + place ≡ envelope_cell s signal (place / 2) = omega (arith, e) in
        let next : (place + 1) / 2 ≡ place / 2 + 1 = omega (arith, e) in
        let is = ap (cell_at q) cell ∙ hull.envelopes signal (place / 2) named inside in
        subst (λ (x : Span). IsWithinOption (Some x) t) (sym is)
        (over-least-option (value_at a signal) (place_first s.grid place) (slice_width s (place / 2)) t (λ k l.
        h (place_first s.grid place + k) (omega arith) (subst (λ (i : ℕ). place_first s.grid place + k ≤ slice_index s.grid i) (sym next) (omega (arith, l, grid.rising (place / 2) inside)))))
  ]

  -- tau is its number of ticks
  module _ (x y tau : ℕ) (fits : DelayFits s x y tau) (says : IsDelay s a x y tau) where
    tau-is : cell_at q (slice_index s.vars tau) ≡ point (pos says.0)
    tau-is = hull.vars tau fits.2 ∙ ap point says.1

    tau-holds : lies_in (cell_at q (slice_index s.vars tau)) says.0 ≡ true
    tau-holds = subst (λ (t : Span). lies_in t says.0 ≡ true) (sym tau-is) (holds-lies_in (point (pos says.0)) says.0 (record { low = omega (arith, ints); high = omega (arith, ints) }))

    pub delay_to-stable : All (IsStable q) (delay_to_projections s x y tau)
    delay_to-stable =
        let fx = slice_index s.signals x in
        let v = slice_index s.vars tau in
        All-each_place (IsStable q) s.grid (delay_to_at s.grid fx (slice_index s.signals y) v) (λ place among.
        let from = place_first s.grid place in
        let until = place_last s.grid place in
        let earlier : ℕ → ℕ → Span = λ k d. at_tick_from s.grid q fx (k - d) in
        let held = delayed_hull earlier (cell_at q v) (last_tick s.grid) from until in
        under-guarded (cell_at q (slice_index s.signals y + place)) (int_le (cell_at q v).hi (pos from)) held (λ before.
        let high = subst (λ (t : Span). int_le t.hi (pos from) ≡ true) tau-is before in
        let early : says.0 ≤ from = omega (arith, ints, int_le-true (pos says.0) (pos from) high) in
        cell-least y place fits.1 among held (λ k low until_k.
        let k_few : k ≤ last_tick s.grid = omega (arith, until_k, place-within s.grid grid place among) in
        let same = says.3 k (omega (arith, early, low)) k_few in
        subst (λ (z : ℤ). IsWithinOption (Some (point z)) held) (sym same)
        (IsWithinOption-trans (Some (point (value_at a x (k - says.0)))) (Some (earlier k says.0)) held (value-in x (k - says.0) fits.0 (omega (arith, k_few)))
        (delayed-holds_at earlier (cell_at q v) (last_tick s.grid) from until k says.0 low until_k says.2 tau-holds)))))

    pub delay_from-stable : All (IsStable q) (delay_from_projections s x y tau)
    delay_from-stable =
        let fy = slice_index s.signals y in
        let v = slice_index s.vars tau in
        All-each_place (IsStable q) s.grid (delay_from_at s.grid (slice_index s.signals x) fy v) (λ place among.
        let from = place_first s.grid place in
        let until = place_last s.grid place in
        let later : ℕ → ℕ → Span = λ j d. at_tick_from s.grid q fy (j + d) in
        let held = delayed_hull later (cell_at q v) (last_tick s.grid) from until in
        under-guarded (cell_at q (slice_index s.signals x + place)) (int_le (pos until +ℤ (cell_at q v).hi) (pos (last_tick s.grid))) held (λ before.
        let high = subst (λ (t : Span). int_le (pos until +ℤ t.hi) (pos (last_tick s.grid)) ≡ true) tau-is before in
        let early : until + says.0 ≤ last_tick s.grid = omega (arith, ints, int_le-true (pos until +ℤ pos says.0) (pos (last_tick s.grid)) high) in
        cell-least x place fits.0 among held (λ j low until_j.
        let few : j + says.0 ≤ last_tick s.grid = omega (arith, early, until_j) in
        let back : (j + says.0) - says.0 ≡ j = omega arith in
        let same = says.3 (j + says.0) (omega arith) few ∙ ap (value_at a x) back in
        subst (λ (z : ℤ). IsWithinOption (Some (point z)) held) same
        (IsWithinOption-trans (Some (point (value_at a y (j + says.0)))) (Some (later j says.0)) held (value-in y (j + says.0) fits.1 few)
        (delayed-holds_at later (cell_at q v) (last_tick s.grid) from until j says.0 low until_j says.2 tau-holds)))))

    pub delay_shift-stable : All (IsStable q) (delay_shift_projections s x y tau)
    delay_shift-stable =
        let fx = slice_index s.signals x in
        let fy = slice_index s.signals y in
        let v = slice_index s.vars tau in
        let held = possible_hull s.grid q fx fy (cell_at q v) in
        let possible : is_possible s.grid q fx fy says.0 ≡ true =
        passes-all (λ k. meets (at_tick_from s.grid q fx (k - says.0)) (at_tick_from s.grid q fy k)) says.0 (last_tick s.grid - says.0) (λ k low high.
        let few : k ≤ last_tick s.grid = omega (arith, high, says.2) in
        let same = says.3 k low few in
        both-share (value_at a y k) (at_tick_from s.grid q fx (k - says.0)) (at_tick_from s.grid q fy k)
        (subst (λ (z : ℤ). IsWithin (point z) (at_tick_from s.grid q fx (k - says.0))) (sym same) (value-in x (k - says.0) fits.0 (omega (arith, few)))) (value-in y k fits.1 few)) in
        let inside = counted-hull-holds (λ d. lies_in (cell_at q v) d && is_possible s.grid q fx fy d) (λ d. point (pos d)) (last_tick s.grid + 1) says.0 (omega (arith, says.2)) (and-both (lies_in (cell_at q v) says.0) (is_possible s.grid q fx fy says.0) tau-holds possible) in
        All-from_recursion (IsStable q) (delay_shift_projections s x y tau) (under-narrowing (cell_at q v) held (subst (λ (t : Span). IsWithinOption (Some t) held) (sym tau-is) inside), tt)
