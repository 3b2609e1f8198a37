-- The hull of a signal's cells at the ticks from first to last, cell by cell.
use Rattle.std.proofs.Common.{◌≡◌, ◌≢◌, ℕ, ◌+◌, ◌-◌, ◌*◌, ◌/◌, ◌%◌, ◌<◌, ◌≤◌, ◌⊎◌, inl, inr, List, arith, sym, ap, subst, ◌∙◌, length, slice_index, get_or, pos, neg_ℤ}
use Rattle.std.proofs.lemmas.Bool.{cases_lt}
use Rattle.std.proofs.lemmas.Int.{ints}
use Rattle.std.proofs.lemmas.List.{get_or_default}
use Rattle.tube_spec.specs.Span.{Span, IsWithin, IsBounded, join_of, point}
use Rattle.tube_spec.specs.Box.{cell_at, AreBounded}
use Rattle.tube_spec.specs.Grid.{IsGrid, last_tick}
use Rattle.tube_spec.specs.Tick.{tick_place, join_over}
use Rattle.tube_spec.proofs.Spans.{same_span, IsWithin-refl, IsWithin-trans, join-left, join-right, join-least}
use Rattle.tube_spec.proofs.Families.{join_over-holds, join_over-least}
use Rattle.tube_spec.proofs.Ticks.{tick_place-gate, tick_place-inside, tick-split, last-greatest}
use Rattle.slice_gates.proofs.Places.{tick_place-mono}
use Rattle.tube_store.specs.Places.{MeetsTick}

-- a tick is at each gate
pub meets-gate : (grid : List ℕ) (place : ℕ) → IsGrid grid → place + 1 < 2 * length grid → place % 2 ≡ 0 → MeetsTick grid place
meets-gate grid place is h even = record {
  tick = slice_index grid (place / 2);
  within = last-greatest grid is.rising (place / 2) (omega (arith, h));
  there = tick_place-gate grid is.rising (place / 2) (omega (arith, h)) ∙ omega (arith, even);
}

-- and at the envelope of a slice of two ticks or more
pub meets-envelope : (grid : List ℕ) (place : ℕ) → IsGrid grid → place + 1 < 2 * length grid → place % 2 ≢ 0 → 1 < slice_index grid (place / 2 + 1) - slice_index grid (place / 2) → MeetsTick grid place
meets-envelope grid place is h odd wide = record {
  tick = slice_index grid (place / 2) + 1;
  within = omega (arith, wide, last-greatest grid is.rising (place / 2 + 1) (omega (arith, h)));
  there = tick_place-inside grid is.rising (place / 2) (slice_index grid (place / 2) + 1) (omega (arith, h, odd)) (omega arith) (omega (arith, wide)) ∙ omega (arith, odd);
}

-- and at no other
pub meets-none : (grid : List ℕ) (place : ℕ) → IsGrid grid → place % 2 ≢ 0 → slice_index grid (place / 2 + 1) - slice_index grid (place / 2) ≤ 1 → (k : ℕ) → k ≤ last_tick grid → tick_place grid k ≢ place
meets-none grid place is odd thin k h e = elim (tick-split grid (omega (arith, is.slices)) k (omega (arith, is.starts)) h) [
  | inl at ↦ absurd (omega (arith, odd, e, subst (λ (t : ℕ). tick_place grid t ≡ 2 * at.0) at.2 (tick_place-gate grid is.rising at.0 at.1)))
  | inr at ↦
      let there = tick_place-inside grid is.rising at.0 k at.1 at.2 at.3 in
      let same : at.0 ≡ place / 2 = omega (arith, there, e) in
      absurd (omega (arith, thin, at.2, at.3, ap (slice_index grid) same, ap (λ (i : ℕ). slice_index grid (i + 1)) same))
]

-- The hull of the cells g at the places of the ticks from first to last, as far as these places are before p: it holds each of
-- those cells, and is no wider than what holds the cells at all these ticks.
pub record IsHullBefore (g : ℕ → Span) (grid : List ℕ) (first last p : ℕ) (hull : Span) : Type 0 where
  pub holds : (k : ℕ) → first ≤ k → k ≤ last → tick_place grid k < p → IsWithin (g (tick_place grid k)) hull
  pub least : (t : Span) → ((k : ℕ) → first ≤ k → k ≤ last → IsWithin (g (tick_place grid k)) t) → IsWithin hull t

pub hull-start : (g : ℕ → Span) (grid : List ℕ) (first last : ℕ) → first ≤ last → IsHullBefore g grid first last (tick_place grid first + 1) (g (tick_place grid first))
hull-start g grid first last h = record {
  holds = λ k low high before.
      let same : tick_place grid k ≡ tick_place grid first = omega (arith, before, tick_place-mono grid first k low) in
      subst (λ (p : ℕ). IsWithin (g p) (g (tick_place grid first))) (sym same) (IsWithin-refl (g (tick_place grid first)));
  least = λ t all. all first (omega arith) h;
}

split : (k p : ℕ) → k < p + 1 → (k < p) ⊎ (k ≡ p)
split k p h = grind arith

-- a place where a tick is
pub hull-met : (g : ℕ → Span) (grid : List ℕ) (first last p : ℕ) (hull : Span) → IsHullBefore g grid first last p hull → tick_place grid first < p → p ≤ tick_place grid last → MeetsTick grid p → IsHullBefore g grid first last (p + 1) (join_of hull (g p))
hull-met g grid first last p hull is low high met = record {
  holds = λ k from to before. elim (split (tick_place grid k) p before) [
    | inl b ↦ IsWithin-trans (g (tick_place grid k)) hull (join_of hull (g p)) (is.holds k from to b) (join-left hull (g p))
    | inr e ↦ subst (λ (q : ℕ). IsWithin (g q) (join_of hull (g p))) (sym e) (join-right hull (g p))
  ];
  least = λ t all. join-least hull (g p) t (is.least t all) (here t all (cases_lt last met.tick));
}
  where
    early : (k : ℕ) → tick_place grid k ≡ p → first ≤ k
    early k e = elim (cases_lt k first) [
      | inl l ↦ absurd (omega (arith, low, e, tick_place-mono grid k first (omega (arith, l))))
      | inr l ↦ l
    ]

    here : (t : Span) → ((k : ℕ) → first ≤ k → k ≤ last → IsWithin (g (tick_place grid k)) t) → (last < met.tick) ⊎ (met.tick ≤ last) → IsWithin (g p) t
    here t all (inl past) =
        let end : tick_place grid last ≡ p = omega (arith, high, met.there, tick_place-mono grid last met.tick (omega (arith, past))) in
        subst (λ (q : ℕ). IsWithin (g q) t) end (all last (early last end) (omega arith))
    here t all (inr among) = subst (λ (q : ℕ). IsWithin (g q) t) met.there (all met.tick (early met.tick met.there) among)

-- a place where none is
pub hull-unmet : (g : ℕ → Span) (grid : List ℕ) (first last p : ℕ) (hull : Span) → IsHullBefore g grid first last p hull → last ≤ last_tick grid → ((k : ℕ) → k ≤ last_tick grid → tick_place grid k ≢ p) → IsHullBefore g grid first last (p + 1) hull
hull-unmet g grid first last p hull is end none = record {
  holds = λ k from to before. elim (split (tick_place grid k) p before) [
    | inl b ↦ is.holds k from to b
    | inr e ↦ absurd (none k (omega (arith, to, end)) e)
  ];
  least = is.least;
}

-- two spans of which each lies within the other are one
pub within-both : (a b : Span) → IsWithin a b → IsWithin b a → a ≡ b
within-both a b p q = same_span a b (omega (arith, ints, p, q)) (omega (arith, ints, p, q))

pub hull-end : (g : ℕ → Span) (grid : List ℕ) (first last p : ℕ) (hull : Span) → IsHullBefore g grid first last p hull → first ≤ last → tick_place grid last < p → hull ≡ join_over (λ (k : ℕ). g (tick_place grid k)) first (last - first)
hull-end g grid first last p hull is order past =
    let f : ℕ → Span = λ k. g (tick_place grid k) in
    within-both hull (join_over f first (last - first))
    (is.least (join_over f first (last - first)) (λ k low high. subst (λ (t : ℕ). IsWithin (f t) (join_over f first (last - first))) (from first k low) (join_over-holds f first (last - first) (k - first) (omega (arith, high)))))
    (join_over-least f first (last - first) hull (λ k h. is.holds (first + k) (omega arith) (omega (arith, h, order)) (omega (arith, past, tick_place-mono grid (first + k) last (omega (arith, h, order))))))
  where
    from : (a k : ℕ) → a ≤ k → a + (k - a) ≡ k
    from a k h = omega (arith, h)

-- The same over a signal's cells, of which the first is at base.
abbrev pub cells_from : List Span → ℕ → ℕ → Span
cells_from cells base p = cell_at cells (base + p)

pub hull-begun : (cells : List Span) (grid : List ℕ) (base first last start : ℕ) (hull : Span) → first ≤ last → start ≡ tick_place grid first → base + start < length cells → hull ≡ get_or cells (base + start) hull → IsHullBefore (cells_from cells base) grid first last (start + 1) hull
hull-begun cells grid base first last start hull order e l is =
    let cell : hull ≡ cell_at cells (base + start) = is ∙ get_or_default cells (base + start) hull (point (pos 0)) l in
    subst (λ (p : ℕ). IsHullBefore (cells_from cells base) grid first last (p + 1) hull) (sym e)
    (subst (IsHullBefore (cells_from cells base) grid first last (tick_place grid first + 1)) (sym (cell ∙ ap (cells_from cells base) e)) (hull-start (cells_from cells base) grid first last order))

pub hull-joined : (cells : List Span) (grid : List ℕ) (base first last p : ℕ) (hull cell : Span) → IsHullBefore (cells_from cells base) grid first last p hull → tick_place grid first < p → p ≤ tick_place grid last → MeetsTick grid p → base + p < length cells → cell ≡ get_or cells (base + p) cell
    → IsHullBefore (cells_from cells base) grid first last (p + 1) (join_of hull cell)
hull-joined cells grid base first last p hull cell is low high met l e =
    subst (λ (s : Span). IsHullBefore (cells_from cells base) grid first last (p + 1) (join_of hull s)) (sym (e ∙ get_or_default cells (base + p) cell (point (pos 0)) l))
    (hull-met (cells_from cells base) grid first last p hull is low high met)

-- a hull of bounded cells is bounded
pub join_over-bounded : (cells : List Span) (place : ℕ → ℕ) (first n : ℕ) → AreBounded cells → IsBounded 500000000 (join_over (λ (k : ℕ). cell_at cells (place k)) first n)
join_over-bounded cells place first n all = join_over-least (λ (k : ℕ). cell_at cells (place k)) first n (record { lo = neg_ℤ (pos 500000000); hi = pos 500000000 }) (λ k h. all (place (first + k)))
