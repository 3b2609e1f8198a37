-- The constraints that records ask of the cells, kind by kind: a table of what the crates of the kinds define.
use Rattle.std.specs.Prelude.{ℕ, ℤ, ◌+◌, ◌-◌, ◌*◌, ◌<◌, List, [], ◌∷◌, Option, Some, None, length, sum_by}
use Rattle.std.specs.List.{concat}
use Rattle.tube_spec.specs.Span.{Span}
use Rattle.tube_spec.specs.Shape.{Shape}
use Rattle.tube_spec.specs.Projection.{Projection}
use Rattle.tube_spec.specs.Assignment.{Assignment}
use Rattle.ctc_deriv.specs.Slices.{slice_projections, slice_scope, SliceFits}
use Rattle.ctc_deriv.specs.Derivs.{deriv_projections, deriv_scope, DerivFits, IsRateOver}
use Rattle.ctc_deriv.specs.Bounds.{each_below, bound_projections, BoundFits, IsInBound}
use Rattle.ctc_sweeps.specs.SliceSweeps.{slices_of, slice_sweep_projections, slice_sweep_scope, SliceSweepFits}
use Rattle.ctc_sweeps.specs.DerivSweeps.{deriv_sweep_projections, deriv_sweep_scope, DerivSweepFits}
use Rattle.slice_gates.specs.Near.{near_of, places_of}
use Rattle.ctc_eval.specs.Evals.{eval_projections, eval_scope, EvalFits, IsEvaluation}
use Rattle.ctc_delay.specs.Places.{place_count}
use Rattle.ctc_delay.specs.Delays.{delay_to_projections, delay_from_projections, delay_shift_projections, delay_to_scope, delay_from_scope, delay_shift_scope, DelayFits, IsDelay}
use Rattle.ctc_dist.specs.Distances.{dist_projections, dist_scope, DistFits, IsAtDistance}
use Rattle.ctc_constell.specs.Constellations.{constell_projections, constell_scope, ConstellFits, IsOneOf}
use Rattle.expr_values.specs.Expressions.{Comparison}
use Rattle.expr_hc4.specs.Places.{expr_scope, ExprFits}
use Rattle.tube_names.specs.Leaves.{first_uses}
use Rattle.expr_hc4.specs.Projections.{expr_projections, SatisfiesAt}
use Rattle.tube_names.specs.declared.leaves.Leaf.{Leaf}
use Rattle.expr_hc4.specs.declared.places.Place.{Place}

-- A constraint on cells, as plain data: of a signal over a slice, or over all of them; of a signal and its rate over a slice, or over all of them; of a signal from a tick to another; of a
-- signal, with its rate or without, and its value at a time that lies in a declared range; of a signal and a later one, by what they are held; of
-- two points at a distance; of a point that is one of several marks; of a formula at a gate, at an envelope, or once. Points are lists of variables.
pub data Constraint : Type 0 where
  SliceOf : (signal slice : ℕ) → Constraint
  SlicesOf : (signal : ℕ) → Constraint
  DerivOf : (x rate slice : ℕ) → Constraint
  DerivsOf : (x rate : ℕ) → Constraint
  BoundOf : (x first last : ℕ) (range : Span) → Constraint
  EvalOf : (x : ℕ) (rate : Option ℕ) (t z : ℕ) (declared : Span) → Constraint
  DelayToOf : (x y tau : ℕ) → Constraint
  DelayFromOf : (x y tau : ℕ) → Constraint
  DelayShiftOf : (x y tau : ℕ) → Constraint
  DistOf : (p b : List ℕ) (near far : ℤ) → Constraint
  ConstellOf : (p : List ℕ) (marks : List (List ℕ)) → Constraint
  ExprOf : (place : Place) (leaves : List Leaf) (comparison : Comparison) → Constraint

abbrev pub constraint_projections : Shape → Constraint → List Projection
constraint_projections s (SliceOf signal i) = slice_projections s signal i
constraint_projections s (SlicesOf signal) = slice_sweep_projections s signal
constraint_projections s (DerivOf x rate i) = deriv_projections s x rate i
constraint_projections s (DerivsOf x rate) = deriv_sweep_projections s x rate
constraint_projections s (BoundOf x first last range) = bound_projections s x first last range
constraint_projections s (EvalOf x rate t z declared) = eval_projections s x rate t z declared
constraint_projections s (DelayToOf x y tau) = delay_to_projections s x y tau
constraint_projections s (DelayFromOf x y tau) = delay_from_projections s x y tau
constraint_projections s (DelayShiftOf x y tau) = delay_shift_projections s x y tau
constraint_projections s (DistOf p b near far) = dist_projections s p b near far
constraint_projections s (ConstellOf p marks) = constell_projections s p marks
constraint_projections s (ExprOf place leaves comparison) = expr_projections s place leaves comparison

-- the cells that a constraint's formulas read
abbrev pub constraint_scope : Shape → Constraint → List ℕ
constraint_scope s (SliceOf signal i) = slice_scope s signal i
constraint_scope s (SlicesOf signal) = slice_sweep_scope s signal
constraint_scope s (DerivOf x rate i) = deriv_scope s x rate i
constraint_scope s (DerivsOf x rate) = deriv_sweep_scope s x rate
constraint_scope s (BoundOf x first last range) = []
constraint_scope s (EvalOf x rate t z declared) = eval_scope s x rate t z declared
constraint_scope s (DelayToOf x y tau) = delay_to_scope s x tau
constraint_scope s (DelayFromOf x y tau) = delay_from_scope s y tau
constraint_scope s (DelayShiftOf x y tau) = delay_shift_scope s x y tau
constraint_scope s (DistOf p b near far) = dist_scope s p b
constraint_scope s (ConstellOf p marks) = constell_scope s p marks
constraint_scope s (ExprOf place leaves comparison) = expr_scope s place leaves

-- how many cells of a signal an evaluation reads, and of its rate, if it has one
abbrev pub reads_near : List ℕ → Span → ℕ
reads_near grid declared = length (places_of (near_of grid declared))

abbrev pub rate_reads : List ℕ → Option ℕ → Span → ℕ
rate_reads grid None declared = 0
rate_reads grid (Some rate) declared = reads_near grid declared

-- how many cells that is
abbrev pub reads_of : List ℕ → Constraint → ℕ
reads_of grid (SliceOf signal i) = 3
reads_of grid (SlicesOf signal) = 2 * length grid - 1
reads_of grid (DerivOf x rate i) = 4
reads_of grid (DerivsOf x rate) = length grid + 2 * (length grid - 1)
reads_of grid (BoundOf x first last range) = 0
reads_of grid (EvalOf x rate t z declared) = 2 + (reads_near grid declared + rate_reads grid rate declared)
reads_of grid (DelayToOf x y tau) = place_count grid + 1
reads_of grid (DelayFromOf x y tau) = place_count grid + 1
reads_of grid (DelayShiftOf x y tau) = 2 * place_count grid + 1
reads_of grid (DistOf p b near far) = length p + length b
reads_of grid (ConstellOf p marks) = length p + length (concat marks)
reads_of grid (ExprOf place leaves comparison) = length (first_uses leaves)

-- how many cells several constraints read, each on its own
abbrev pub reads_in : List ℕ → List Constraint → ℕ
reads_in grid cs = sum_by (reads_of grid) cs

-- what a constraint names is of the shape
abbrev pub IsOf : Shape → Constraint → Type 0
IsOf s (SliceOf signal i) = SliceFits s signal i
IsOf s (SlicesOf signal) = SliceSweepFits s signal
IsOf s (DerivOf x rate i) = DerivFits s x rate i
IsOf s (DerivsOf x rate) = DerivSweepFits s x rate
IsOf s (BoundOf x first last range) = BoundFits s x
IsOf s (EvalOf x rate t z declared) = EvalFits s x rate t z
IsOf s (DelayToOf x y tau) = DelayFits s x y tau
IsOf s (DelayFromOf x y tau) = DelayFits s x y tau
IsOf s (DelayShiftOf x y tau) = DelayFits s x y tau
IsOf s (DistOf p b near far) = DistFits s p b near far
IsOf s (ConstellOf p marks) = ConstellFits s p marks
IsOf s (ExprOf place leaves comparison) = ExprFits s place leaves

-- what a constraint says of an assignment
abbrev pub Satisfies : Shape → Assignment → Constraint → Type 0
Satisfies s a (SliceOf signal i) = Unit {0}
Satisfies s a (SlicesOf signal) = Unit {0}
Satisfies s a (DerivOf x rate i) = IsRateOver s a x rate i
Satisfies s a (DerivsOf x rate) = (i : ℕ) → i < slices_of s → IsRateOver s a x rate i
Satisfies s a (BoundOf x first last range) = IsInBound a x first last range
Satisfies s a (EvalOf x rate t z declared) = IsEvaluation s a x rate t z declared
Satisfies s a (DelayToOf x y tau) = IsDelay s a x y tau
Satisfies s a (DelayFromOf x y tau) = IsDelay s a x y tau
Satisfies s a (DelayShiftOf x y tau) = IsDelay s a x y tau
Satisfies s a (DistOf p b near far) = IsAtDistance a p b near far
Satisfies s a (ConstellOf p marks) = IsOneOf a p marks
Satisfies s a (ExprOf place leaves comparison) = SatisfiesAt s place a leaves comparison

-- The written constraints that a constraint is made of, on a grid: of all slices the constraint of each, and of any other one itself.
abbrev pub written_of : List ℕ → Constraint → List Constraint
written_of grid (SlicesOf signal) = each_below (λ i. SliceOf signal i ∷ []) (length grid - 1)
written_of grid (DerivsOf x rate) = each_below (λ i. DerivOf x rate i ∷ []) (length grid - 1)
written_of grid c = c ∷ []
