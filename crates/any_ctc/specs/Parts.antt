-- The parts of constraints: of all slices each slice, and of any other one itself alone.
use Rattle.std.specs.Prelude.{ℕ, List}
use Rattle.tube_spec.specs.Shape.{Shape}
use Rattle.tube_spec.specs.Projection.{Projection}
use Rattle.ctc_deriv.specs.Slices.{slice_projections, slice_scope}
use Rattle.ctc_deriv.specs.Derivs.{deriv_projections, deriv_scope}
use Rattle.ctc_sweeps.specs.SliceSweeps.{slices_of}
use Rattle.any_ctc.specs.Constraints.{Constraint, SlicesOf, DerivsOf, constraint_projections, constraint_scope}

-- how many parts there are
abbrev pub constraint_parts : Shape → Constraint → ℕ
constraint_parts s (SlicesOf signal) = slices_of s
constraint_parts s (DerivsOf x rate) = slices_of s
constraint_parts s c = 1

-- the projections of a part
abbrev pub constraint_part : Shape → Constraint → ℕ → List Projection
constraint_part s (SlicesOf signal) i = slice_projections s signal i
constraint_part s (DerivsOf x rate) i = deriv_projections s x rate i
constraint_part s c i = constraint_projections s c

-- the cells that the formulas of a part read
abbrev pub constraint_part_scope : Shape → Constraint → ℕ → List ℕ
constraint_part_scope s (SlicesOf signal) i = slice_scope s signal i
constraint_part_scope s (DerivsOf x rate) i = deriv_scope s x rate i
constraint_part_scope s c i = constraint_scope s c
