-- The hull of an assignment is stable under all slices of a sweep that the assignment satisfies.
use Rattle.std.proofs.Common.{ℕ, ◌<◌, List, All}
use Rattle.tube_spec.specs.Span.{Span}
use Rattle.tube_spec.specs.Grid.{IsGrid}
use Rattle.tube_spec.specs.Shape.{Shape}
use Rattle.tube_spec.specs.Projection.{IsStable}
use Rattle.tube_spec.specs.Assignment.{Assignment, IsHull}
use Rattle.ctc_deriv.specs.Slices.{slice_projections}
use Rattle.ctc_deriv.specs.Derivs.{deriv_projections, IsRateOver}
use Rattle.ctc_deriv.proofs.Stable.{slice-stable, deriv-stable}
use Rattle.ctc_parts.proofs.Members.{All-each_below}
use Rattle.ctc_sweeps.specs.SliceSweeps.{slices_of, slice_sweep_projections, SliceSweepFits}
use Rattle.ctc_sweeps.specs.SliceSweepLaws.{slice-fits}
use Rattle.ctc_sweeps.specs.DerivSweeps.{deriv_sweep_projections, DerivSweepFits}
use Rattle.ctc_sweeps.specs.DerivSweepLaws.{deriv-slice-fits}

module _ (s : Shape) (a : Assignment) (q : List Span) (grid : IsGrid s.grid) (hull : IsHull s a q) where
  -- by the law of a slice
  pub slice-sweep-stable : (x : ℕ) → SliceSweepFits s x → All (IsStable q) (slice_sweep_projections s x)
  slice-sweep-stable x fits = All-each_below (IsStable q) (slice_projections s x) (slices_of s) (λ i l. slice-stable s a q grid hull x i (slice-fits s x i fits l))

  -- by the law of a derivative over a slice
  pub deriv-sweep-stable : (x rate : ℕ) → DerivSweepFits s x rate → ((i : ℕ) → i < slices_of s → IsRateOver s a x rate i) → All (IsStable q) (deriv_sweep_projections s x rate)
  deriv-sweep-stable x rate fits says = All-each_below (IsStable q) (deriv_projections s x rate) (slices_of s) (λ i l. deriv-stable s a q grid hull x rate i (deriv-slice-fits s x rate i fits l) (says i l))
