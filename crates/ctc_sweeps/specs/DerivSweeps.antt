-- The derivative of a signal over all slices.
use Rattle.std.specs.Prelude.{ℕ, ◌+◌, ◌-◌, ◌*◌, ◌<◌, List, [], ◌∷◌, ◌++◌, length, slice_index}
use Rattle.tube_spec.specs.Shape.{Shape}
use Rattle.tube_spec.specs.Projection.{Projection}
use Rattle.ctc_deriv.specs.Derivs.{deriv_projections}
use Rattle.ctc_parts.specs.Parts.{each_below}
use Rattle.ctc_sweeps.specs.SliceSweeps.{slices_of}

-- the projections of each slice
abbrev pub deriv_sweep_projections : Shape → ℕ → ℕ → List Projection
deriv_sweep_projections s x rate = each_below (deriv_projections s x rate) (slices_of s)

-- the gates of the signal, and the cells of the rate but its first gate
abbrev pub deriv_sweep_scope : Shape → ℕ → ℕ → List ℕ
deriv_sweep_scope s x rate =
    each_below (λ k. (slice_index s.signals x + 2 * k) ∷ []) (length s.grid)
    ++ each_below (λ k. (slice_index s.signals rate + 1 + k) ∷ []) (2 * (length s.grid - 1))

-- both signals are of the shape
abbrev pub DerivSweepFits : Shape → ℕ → ℕ → Type 0
DerivSweepFits s x rate = (x < length s.signals) × (rate < length s.signals)
