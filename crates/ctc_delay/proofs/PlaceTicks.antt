-- The places of a signal's cells: which are gates and which envelopes, and the ticks of each.
use Rattle.std.proofs.Common.{◌≡◌, ℕ, ◌+◌, ◌*◌, ◌/◌, ◌<◌, ◌≤◌, ◌⊎◌, inl, inr, List, arith, sym, subst, slice_index}
use Rattle.tube_spec.specs.Grid.{IsGrid, last_tick}
use Rattle.tube_spec.proofs.Ticks.{last-greatest}
use Rattle.ctc_delay.specs.Places.{place_count, place_first, place_last}

-- a place of a signal is that of a gate or of an envelope
pub gate-or-envelope : (place : ℕ) → (place ≡ 2 * (place / 2)) ⊎ (place ≡ 2 * (place / 2) + 1)
gate-or-envelope place = grind arith

module _ (grid : List ℕ) (is : IsGrid grid) (place : ℕ) (among : place < place_count grid) where
  pub place-order : place_first grid place ≤ place_last grid place
  place-order = elim (gate-or-envelope place) [
    | inl e ↦
        let same : (place + 1) / 2 ≡ place / 2 = omega (arith, e) in
        subst (λ (i : ℕ). slice_index grid (place / 2) ≤ slice_index grid i) (sym same) (omega arith)
    | inr e ↦
        let next : (place + 1) / 2 ≡ place / 2 + 1 = omega (arith, e) in
        subst (λ (i : ℕ). slice_index grid (place / 2) ≤ slice_index grid i) (sym next) (omega (arith, is.rising (place / 2) (omega (arith, among, e))))
  ]

  pub place-within : place_last grid place ≤ last_tick grid
  place-within = last-greatest grid is.rising ((place + 1) / 2) (omega (arith, among, is.slices))
