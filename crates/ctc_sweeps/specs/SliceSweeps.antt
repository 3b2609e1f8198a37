-- All slices of a signal.
use Rattle.std.specs.Prelude.{ℕ, ◌+◌, ◌-◌, ◌*◌, ◌<◌, List, [], ◌∷◌, length, slice_index}
use Rattle.tube_spec.specs.Shape.{Shape}
use Rattle.tube_spec.specs.Projection.{Projection}
use Rattle.ctc_deriv.specs.Slices.{slice_projections}
use Rattle.ctc_parts.specs.Parts.{each_below}

-- how many slices there are
abbrev pub slices_of : Shape → ℕ
slices_of s = length s.grid - 1

-- the projections of each slice
abbrev pub slice_sweep_projections : Shape → ℕ → List Projection
slice_sweep_projections s x = each_below (slice_projections s x) (slices_of s)

-- the cells of the signal
abbrev pub slice_sweep_scope : Shape → ℕ → List ℕ
slice_sweep_scope s x = each_below (λ k. (slice_index s.signals x + k) ∷ []) (2 * length s.grid - 1)

-- the signal is of the shape
abbrev pub SliceSweepFits : Shape → ℕ → Type 0
SliceSweepFits s x = x < length s.signals
