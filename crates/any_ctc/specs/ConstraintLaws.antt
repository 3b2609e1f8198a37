-- The laws of constraints, kind by kind: a table of the laws that the crates of the kinds prove.
use Rattle.std.proofs.Common.{◌≡◌, ℕ, ◌<◌, List, refl, All}
use Rattle.std.proofs.lemmas.List.Elements.{All-nil}
use Rattle.tube_spec.specs.Span.{Span}
use Rattle.tube_spec.specs.Shape.{Shape, IsShape, Extends}
use Rattle.tube_spec.specs.Projection.{Projection, IsMonotone, ReadsOnly}
use Rattle.ctc_deriv.specs.SliceLaws.{slice-monotone, slice-reads_only, slice-in_store, slice-fits_more, slice-same_projections, slice-same_scope}
use Rattle.ctc_deriv.specs.DerivLaws.{deriv-monotone, deriv-reads_only, deriv-in_store, deriv-fits_more, deriv-same_projections, deriv-same_scope}
use Rattle.ctc_deriv.specs.BoundLaws.{bound-monotone, bound-reads_only, bound-in_store, bound-fits_more, bound-same_projections}
use Rattle.ctc_deriv.specs.Layout.{signals-more}
use Rattle.ctc_sweeps.specs.SliceSweeps.{SliceSweepFits}
use Rattle.ctc_sweeps.specs.SliceSweepLaws.{slice-sweep-monotone, slice-sweep-reads_only, slice-sweep-in_store, slice-sweep-same_projections, slice-sweep-same_scope}
use Rattle.ctc_sweeps.specs.DerivSweeps.{DerivSweepFits}
use Rattle.ctc_sweeps.specs.DerivSweepLaws.{deriv-sweep-monotone, deriv-sweep-reads_only, deriv-sweep-in_store, deriv-sweep-more, deriv-sweep-same_projections, deriv-sweep-same_scope}
use Rattle.ctc_eval.specs.EvalLaws.{eval-monotone, eval-reads_only, eval-in_store, eval-fits_more, eval-same_projections, eval-same_scope}
use Rattle.ctc_delay.specs.DelayLaws.{delay_to-monotone, delay_from-monotone, delay_shift-monotone, delay_to-reads_only, delay_from-reads_only, delay_shift-reads_only, delay_to-in_store, delay_from-in_store, delay_shift-in_store, delay-fits_more, delay_to-same_projections, delay_from-same_projections, delay_shift-same_projections, delay_to-same_scope, delay_from-same_scope, delay_shift-same_scope}
use Rattle.ctc_dist.specs.DistLaws.{dist-monotone, dist-reads_only, dist-in_store, dist-fits_more, dist-same_projections, dist-same_scope}
use Rattle.ctc_constell.specs.ConstellLaws.{constell-monotone, constell-reads_only, constell-in_store, constell-fits_more, constell-same_projections, constell-same_scope}
use Rattle.expr_hc4.specs.ExprLaws.{expr-monotone, expr-reads_only, expr-in_store, expr-fits_more, expr-same_projections, expr-same_scope}
use Rattle.any_ctc.specs.Constraints.{Constraint, SliceOf, SlicesOf, DerivOf, DerivsOf, BoundOf, EvalOf, DelayToOf, DelayFromOf, DelayShiftOf, DistOf, ConstellOf, ExprOf, constraint_projections, constraint_scope, IsOf}

pub constraint-monotone : (Fits : List Span → Type 0) (c : Constraint) (s : Shape) → All (IsMonotone Fits) (constraint_projections s c)
constraint-monotone Fits (SliceOf signal i) s = slice-monotone Fits s signal i
constraint-monotone Fits (SlicesOf signal) s = slice-sweep-monotone Fits s signal
constraint-monotone Fits (DerivOf x rate i) s = deriv-monotone Fits s x rate i
constraint-monotone Fits (DerivsOf x rate) s = deriv-sweep-monotone Fits s x rate
constraint-monotone Fits (BoundOf x first last range) s = bound-monotone Fits s x first last range
constraint-monotone Fits (EvalOf x rate t z declared) s = eval-monotone Fits s x rate t z declared
constraint-monotone Fits (DelayToOf x y tau) s = delay_to-monotone Fits s x y tau
constraint-monotone Fits (DelayFromOf x y tau) s = delay_from-monotone Fits s x y tau
constraint-monotone Fits (DelayShiftOf x y tau) s = delay_shift-monotone Fits s x y tau
constraint-monotone Fits (DistOf p b near far) s = dist-monotone Fits s p b near far
constraint-monotone Fits (ConstellOf p marks) s = constell-monotone Fits s p marks
constraint-monotone Fits (ExprOf place leaves comparison) s = expr-monotone Fits s place leaves comparison

pub constraint-reads_only : (c : Constraint) (s : Shape) → All (ReadsOnly (λ xs. IsOf s c) (constraint_scope s c)) (constraint_projections s c)
constraint-reads_only (SliceOf signal i) s = slice-reads_only (λ xs. IsOf s (SliceOf signal i)) s signal i
constraint-reads_only (SlicesOf signal) s = slice-sweep-reads_only (λ xs. SliceSweepFits s signal) s signal
constraint-reads_only (DerivOf x rate i) s = deriv-reads_only (λ xs. IsOf s (DerivOf x rate i)) s x rate i
constraint-reads_only (DerivsOf x rate) s = deriv-sweep-reads_only (λ xs. DerivSweepFits s x rate) s x rate
constraint-reads_only (BoundOf x first last range) s = bound-reads_only (λ xs. IsOf s (BoundOf x first last range)) s x first last range
constraint-reads_only (EvalOf x rate t z declared) s = eval-reads_only s x rate t z declared
constraint-reads_only (DelayToOf x y tau) s = delay_to-reads_only (λ xs. IsOf s (DelayToOf x y tau)) s x y tau
constraint-reads_only (DelayFromOf x y tau) s = delay_from-reads_only (λ xs. IsOf s (DelayFromOf x y tau)) s x y tau
constraint-reads_only (DelayShiftOf x y tau) s = delay_shift-reads_only (λ xs. IsOf s (DelayShiftOf x y tau)) s x y tau
constraint-reads_only (DistOf p b near far) s = dist-reads_only (λ xs. IsOf s (DistOf p b near far)) s p b near far
constraint-reads_only (ConstellOf p marks) s = constell-reads_only (λ xs. IsOf s (ConstellOf p marks)) s p marks
constraint-reads_only (ExprOf place leaves comparison) s = expr-reads_only (λ xs. IsOf s (ExprOf place leaves comparison)) s place leaves comparison

pub constraint-in_store : (c : Constraint) (s : Shape) → IsShape s → IsOf s c → All (λ k. k < s.cells) (constraint_scope s c) × All (λ (p : Projection). p.target < s.cells) (constraint_projections s c)
constraint-in_store (SliceOf signal i) s shape of = slice-in_store s signal i shape of
constraint-in_store (SlicesOf signal) s shape of = slice-sweep-in_store s signal shape of
constraint-in_store (DerivOf x rate i) s shape of = deriv-in_store s x rate i shape of
constraint-in_store (DerivsOf x rate) s shape of = deriv-sweep-in_store s x rate shape of
constraint-in_store (BoundOf x first last range) s shape of = (All-nil (λ (k : ℕ). k < s.cells), bound-in_store s x first last range shape of)
constraint-in_store (EvalOf x rate t z declared) s shape of = eval-in_store s x rate t z declared shape of
constraint-in_store (DelayToOf x y tau) s shape of = delay_to-in_store s x y tau shape of
constraint-in_store (DelayFromOf x y tau) s shape of = delay_from-in_store s x y tau shape of
constraint-in_store (DelayShiftOf x y tau) s shape of = delay_shift-in_store s x y tau shape of
constraint-in_store (DistOf p b near far) s shape of = dist-in_store s p b near far shape of
constraint-in_store (ConstellOf p marks) s shape of = constell-in_store s p marks shape of
constraint-in_store (ExprOf place leaves comparison) s shape of = expr-in_store s place leaves comparison shape of

pub constraint-more : (c : Constraint) (s t : Shape) → Extends s t → IsOf s c → IsOf t c
constraint-more (SliceOf signal i) s t grows of = slice-fits_more s t signal i grows of
constraint-more (SlicesOf signal) s t grows of = signals-more s t grows signal of
constraint-more (DerivOf x rate i) s t grows of = deriv-fits_more s t x rate i grows of
constraint-more (DerivsOf x rate) s t grows of = deriv-sweep-more s t x rate grows of
constraint-more (BoundOf x first last range) s t grows of = bound-fits_more s t x grows of
constraint-more (EvalOf x rate time z declared) s t grows of = eval-fits_more s t x rate time z grows of
constraint-more (DelayToOf x y tau) s t grows of = delay-fits_more s t x y tau grows of
constraint-more (DelayFromOf x y tau) s t grows of = delay-fits_more s t x y tau grows of
constraint-more (DelayShiftOf x y tau) s t grows of = delay-fits_more s t x y tau grows of
constraint-more (DistOf p b near far) s t grows of = dist-fits_more s t p b near far grows of
constraint-more (ConstellOf p marks) s t grows of = constell-fits_more s t p marks grows of
constraint-more (ExprOf place leaves comparison) s t grows of = expr-fits_more s t place leaves grows of

pub constraint-same_projections : (c : Constraint) (s t : Shape) → Extends s t → IsOf s c → constraint_projections t c ≡ constraint_projections s c
constraint-same_projections (SliceOf signal i) s t grows of = slice-same_projections s t signal i grows of
constraint-same_projections (SlicesOf signal) s t grows of = slice-sweep-same_projections s t signal grows of
constraint-same_projections (DerivOf x rate i) s t grows of = deriv-same_projections s t x rate i grows of
constraint-same_projections (DerivsOf x rate) s t grows of = deriv-sweep-same_projections s t x rate grows of
constraint-same_projections (BoundOf x first last range) s t grows of = bound-same_projections s t x first last range grows of
constraint-same_projections (EvalOf x rate time z declared) s t grows of = eval-same_projections s t x rate time z declared grows of
constraint-same_projections (DelayToOf x y tau) s t grows of = delay_to-same_projections s t x y tau grows of
constraint-same_projections (DelayFromOf x y tau) s t grows of = delay_from-same_projections s t x y tau grows of
constraint-same_projections (DelayShiftOf x y tau) s t grows of = delay_shift-same_projections s t x y tau grows of
constraint-same_projections (DistOf p b near far) s t grows of = dist-same_projections s t p b near far grows of
constraint-same_projections (ConstellOf p marks) s t grows of = constell-same_projections s t p marks grows of
constraint-same_projections (ExprOf place leaves comparison) s t grows of = expr-same_projections s t place leaves comparison grows of

pub constraint-same_scope : (c : Constraint) (s t : Shape) → Extends s t → IsOf s c → constraint_scope t c ≡ constraint_scope s c
constraint-same_scope (SliceOf signal i) s t grows of = slice-same_scope s t signal i grows of
constraint-same_scope (SlicesOf signal) s t grows of = slice-sweep-same_scope s t signal grows of
constraint-same_scope (DerivOf x rate i) s t grows of = deriv-same_scope s t x rate i grows of
constraint-same_scope (DerivsOf x rate) s t grows of = deriv-sweep-same_scope s t x rate grows of
constraint-same_scope (BoundOf x first last range) s t grows of = refl
constraint-same_scope (EvalOf x rate time z declared) s t grows of = eval-same_scope s t x rate time z declared grows of
constraint-same_scope (DelayToOf x y tau) s t grows of = delay_to-same_scope s t x y tau grows of
constraint-same_scope (DelayFromOf x y tau) s t grows of = delay_from-same_scope s t x y tau grows of
constraint-same_scope (DelayShiftOf x y tau) s t grows of = delay_shift-same_scope s t x y tau grows of
constraint-same_scope (DistOf p b near far) s t grows of = dist-same_scope s t p b near far grows of
constraint-same_scope (ConstellOf p marks) s t grows of = constell-same_scope s t p marks grows of
constraint-same_scope (ExprOf place leaves comparison) s t grows of = expr-same_scope s t place leaves grows of
