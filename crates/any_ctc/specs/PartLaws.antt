-- The laws of the parts of constraints, kind by kind.
use Rattle.std.proofs.Common.{◌≡◌, ℕ, ◌<◌, refl, All, Contains}
use Rattle.tube_spec.specs.Shape.{Shape, Extends}
use Rattle.tube_spec.specs.Projection.{ReadsOnly}
use Rattle.ctc_deriv.specs.SliceLaws.{slice-reads_only, slice-same_projections}
use Rattle.ctc_deriv.specs.DerivLaws.{deriv-reads_only, deriv-same_projections}
use Rattle.ctc_parts.specs.Parts.{each_below}
use Rattle.ctc_sweeps.specs.SliceSweeps.{SliceSweepFits}
use Rattle.ctc_sweeps.specs.SliceSweepLaws.{slice-sweep-in_scope, same-slices, slice-fits}
use Rattle.ctc_sweeps.specs.DerivSweeps.{DerivSweepFits}
use Rattle.ctc_sweeps.specs.DerivSweepLaws.{deriv-in_scope, deriv-slice-fits}
use Rattle.any_ctc.specs.Constraints.{Constraint, SliceOf, SlicesOf, DerivOf, DerivsOf, BoundOf, EvalOf, DelayToOf, DelayFromOf, DelayShiftOf, DistOf, ConstellOf, ExprOf, constraint_projections, constraint_scope, IsOf}
use Rattle.any_ctc.specs.ConstraintLaws.{constraint-reads_only, constraint-same_projections}
use Rattle.any_ctc.specs.Parts.{constraint_parts, constraint_part, constraint_part_scope}

-- the parts together are the projections
pub constraint-whole : (c : Constraint) (s : Shape) → constraint_projections s c ≡ each_below (constraint_part s c) (constraint_parts s c)
constraint-whole (SlicesOf signal) s = refl
constraint-whole (DerivsOf x rate) s = refl
constraint-whole (SliceOf signal i) s = refl
constraint-whole (DerivOf x rate i) s = refl
constraint-whole (BoundOf x first last range) s = refl
constraint-whole (EvalOf x rate t z declared) s = refl
constraint-whole (DelayToOf x y tau) s = refl
constraint-whole (DelayFromOf x y tau) s = refl
constraint-whole (DelayShiftOf x y tau) s = refl
constraint-whole (DistOf p b near far) s = refl
constraint-whole (ConstellOf p marks) s = refl
constraint-whole (ExprOf place leaves comparison) s = refl

-- the formulas of a part read the cells of its scope alone
pub constraint-part_reads : (c : Constraint) (s : Shape) (k : ℕ) → k < constraint_parts s c → All (ReadsOnly (λ xs. IsOf s c) (constraint_part_scope s c k)) (constraint_part s c k)
constraint-part_reads (SlicesOf signal) s k below = slice-reads_only (λ xs. SliceSweepFits s signal) s signal k
constraint-part_reads (DerivsOf x rate) s k below = deriv-reads_only (λ xs. DerivSweepFits s x rate) s x rate k
constraint-part_reads (SliceOf signal i) s k below = constraint-reads_only (SliceOf signal i) s
constraint-part_reads (DerivOf x rate i) s k below = constraint-reads_only (DerivOf x rate i) s
constraint-part_reads (BoundOf x first last range) s k below = constraint-reads_only (BoundOf x first last range) s
constraint-part_reads (EvalOf x rate t z declared) s k below = constraint-reads_only (EvalOf x rate t z declared) s
constraint-part_reads (DelayToOf x y tau) s k below = constraint-reads_only (DelayToOf x y tau) s
constraint-part_reads (DelayFromOf x y tau) s k below = constraint-reads_only (DelayFromOf x y tau) s
constraint-part_reads (DelayShiftOf x y tau) s k below = constraint-reads_only (DelayShiftOf x y tau) s
constraint-part_reads (DistOf p b near far) s k below = constraint-reads_only (DistOf p b near far) s
constraint-part_reads (ConstellOf p marks) s k below = constraint-reads_only (ConstellOf p marks) s
constraint-part_reads (ExprOf place leaves comparison) s k below = constraint-reads_only (ExprOf place leaves comparison) s

-- the scope of a part lies in that of the constraint
pub constraint-part_in_scope : (c : Constraint) (s : Shape) (k cell : ℕ) → k < constraint_parts s c → Contains (constraint_part_scope s c k) cell → Contains (constraint_scope s c) cell
constraint-part_in_scope (SlicesOf signal) s k cell below among = slice-sweep-in_scope s signal k cell below among
constraint-part_in_scope (DerivsOf x rate) s k cell below among = deriv-in_scope s x rate k cell below among
constraint-part_in_scope (SliceOf signal i) s k cell below among = among
constraint-part_in_scope (DerivOf x rate i) s k cell below among = among
constraint-part_in_scope (BoundOf x first last range) s k cell below among = among
constraint-part_in_scope (EvalOf x rate t z declared) s k cell below among = among
constraint-part_in_scope (DelayToOf x y tau) s k cell below among = among
constraint-part_in_scope (DelayFromOf x y tau) s k cell below among = among
constraint-part_in_scope (DelayShiftOf x y tau) s k cell below among = among
constraint-part_in_scope (DistOf p b near far) s k cell below among = among
constraint-part_in_scope (ConstellOf p marks) s k cell below among = among
constraint-part_in_scope (ExprOf place leaves comparison) s k cell below among = among

-- additions leave the number of parts as it was
pub constraint-same_parts : (c : Constraint) (s t : Shape) → Extends s t → constraint_parts t c ≡ constraint_parts s c
constraint-same_parts (SlicesOf signal) s t grows = same-slices s t grows
constraint-same_parts (DerivsOf x rate) s t grows = same-slices s t grows
constraint-same_parts (SliceOf signal i) s t grows = refl
constraint-same_parts (DerivOf x rate i) s t grows = refl
constraint-same_parts (BoundOf x first last range) s t grows = refl
constraint-same_parts (EvalOf x rate time z declared) s t grows = refl
constraint-same_parts (DelayToOf x y tau) s t grows = refl
constraint-same_parts (DelayFromOf x y tau) s t grows = refl
constraint-same_parts (DelayShiftOf x y tau) s t grows = refl
constraint-same_parts (DistOf p b near far) s t grows = refl
constraint-same_parts (ConstellOf p marks) s t grows = refl
constraint-same_parts (ExprOf place leaves comparison) s t grows = refl

-- additions leave each part as it was
pub constraint-same_part : (c : Constraint) (s t : Shape) (k : ℕ) → Extends s t → IsOf s c → k < constraint_parts s c → constraint_part t c k ≡ constraint_part s c k
constraint-same_part (SlicesOf signal) s t k grows of below = slice-same_projections s t signal k grows (slice-fits s signal k of below)
constraint-same_part (DerivsOf x rate) s t k grows of below = deriv-same_projections s t x rate k grows (deriv-slice-fits s x rate k of below)
constraint-same_part (SliceOf signal i) s t k grows of below = constraint-same_projections (SliceOf signal i) s t grows of
constraint-same_part (DerivOf x rate i) s t k grows of below = constraint-same_projections (DerivOf x rate i) s t grows of
constraint-same_part (BoundOf x first last range) s t k grows of below = constraint-same_projections (BoundOf x first last range) s t grows of
constraint-same_part (EvalOf x rate time z declared) s t k grows of below = constraint-same_projections (EvalOf x rate time z declared) s t grows of
constraint-same_part (DelayToOf x y tau) s t k grows of below = constraint-same_projections (DelayToOf x y tau) s t grows of
constraint-same_part (DelayFromOf x y tau) s t k grows of below = constraint-same_projections (DelayFromOf x y tau) s t grows of
constraint-same_part (DelayShiftOf x y tau) s t k grows of below = constraint-same_projections (DelayShiftOf x y tau) s t grows of
constraint-same_part (DistOf p b near far) s t k grows of below = constraint-same_projections (DistOf p b near far) s t grows of
constraint-same_part (ConstellOf p marks) s t k grows of below = constraint-same_projections (ConstellOf p marks) s t grows of
constraint-same_part (ExprOf place leaves comparison) s t k grows of below = constraint-same_projections (ExprOf place leaves comparison) s t grows of
