-- One cell of a box is narrowed.
use Rattle.std.proofs.Common.{◌≡◌, ℕ, ◌+◌, ◌-◌, ◌<◌, ◌≤◌, ◌∙◌, arith, sym, ap, subst, List, length, set, get_or, inl, inr, pos, neg_ℤ, sum_by}
use Rattle.std.proofs.lemmas.List.{get_or_default}
use Rattle.tube_spec.specs.Span.{Span, IsWithin, IsBounded, meet_of, point, width_of}
use Rattle.tube_spec.specs.Box.{cell_at, AreBounded}
use Rattle.tube_spec.proofs.Boxes.{cell-set}
use Rattle.tube_spec.proofs.Spans.{IsWithin-trans, meet-left}
use Rattle.tube_spec.proofs.Widths.{width-le, widths-set}

bounded-set : (xs : List Span) (k : ℕ) (t : Span) → k < length xs → AreBounded xs → IsWithin t (cell_at xs k) → AreBounded (set xs k t)
bounded-set xs k t h all inside j = elim (cell-set xs k j t h) [
  | inl e ↦ subst (IsBounded 500000000) (sym e.1) (IsWithin-trans t (cell_at xs k) (record { lo = neg_ℤ (pos 500000000); hi = pos 500000000 }) inside (all k))
  | inr e ↦ subst (IsBounded 500000000) (sym e.1) (all j)
]

-- the cell holds what it shares with an interval
pub narrowed-bounded : (xs : List Span) (k : ℕ) (held to less : Span) → k < length xs → held ≡ get_or xs k held → less ≡ meet_of held to → AreBounded xs → AreBounded (set xs k less)
narrowed-bounded xs k held to less h is e all =
    let cell : held ≡ cell_at xs k = is ∙ get_or_default xs k held (point (pos 0)) h in
    bounded-set xs k less h all (subst (λ (s : Span). IsWithin s (cell_at xs k)) (sym e) (subst (λ (s : Span). IsWithin (meet_of held to) s) cell (meet-left held to)))

-- What a narrowing takes off the widths: no more than the cell has, and so no more than there is.
pub record IsLess (cells : List Span) (k : ℕ) (held less : Span) (total : ℕ) : Type 0 where
  pub narrower : width_of less ≤ width_of held
  pub among : width_of held ≤ total + width_of less
  pub widths : total - (width_of held - width_of less) ≡ sum_by width_of (set cells k less)

pub narrowed-widths : (xs : List Span) (k : ℕ) (held to less : Span) (total : ℕ) → k < length xs → held ≡ get_or xs k held → less ≡ meet_of held to → total ≡ sum_by width_of xs → IsLess xs k held less total
narrowed-widths xs k held to less total h is e sum =
    let narrower : width_of less ≤ width_of held = width-le less held (subst (λ (s : Span). IsWithin s held) (sym e) (meet-left held to)) in
    let cell : width_of held ≡ width_of (cell_at xs k) = ap width_of (is ∙ get_or_default xs k held (point (pos 0)) h) in
    let rest = widths-set xs k less h in
    record { narrower = narrower; among = omega arith; widths = omega arith }
