-- The hull of an assignment is stable under the projections of each constraint that the assignment satisfies: a table of the kinds' laws.
use Rattle.std.proofs.Common.{◌≡◌, List, All, length, sym, subst}
use Rattle.tube_spec.specs.Span.{Span}
use Rattle.tube_spec.specs.Grid.{IsGrid}
use Rattle.tube_spec.specs.Shape.{Shape}
use Rattle.tube_spec.specs.Projection.{IsStable}
use Rattle.tube_spec.specs.Assignment.{Assignment, IsHull}
use Rattle.ctc_deriv.proofs.Stable.{slice-stable, deriv-stable, bound-stable}
use Rattle.ctc_sweeps.proofs.Stable.{slice-sweep-stable, deriv-sweep-stable}
use Rattle.ctc_eval.proofs.Stable.{eval-stable}
use Rattle.ctc_delay.proofs.Stable.{delay_to-stable, delay_from-stable, delay_shift-stable}
use Rattle.ctc_dist.proofs.Stable.{dist-stable}
use Rattle.ctc_constell.proofs.Stable.{constell-stable}
use Rattle.expr_tree.specs.Trees.{Relation}
use Rattle.expr_values.specs.Expressions.{Comparison, comparison_of, relation_leaves}
use Rattle.tube_names.specs.declared.leaves.Leaf.{Leaf}
use Rattle.expr_hc4.specs.Projections.{expr_projections, SatisfiesAt}
use Rattle.expr_hc4.proofs.Stable.{expr-stable}
use Rattle.any_ctc.specs.Constraints.{Constraint, SliceOf, SlicesOf, DerivOf, DerivsOf, BoundOf, EvalOf, DelayToOf, DelayFromOf, DelayShiftOf, DistOf, ConstellOf, ExprOf, constraint_projections, IsOf, Satisfies}

-- the comparison of a formula is that of a relation, with a leaf for each of its names
pub record IsFormulaOf (leaves : List Leaf) (c : Comparison) : Type 0 where
  pub relation : Relation
  pub compares : c ≡ comparison_of relation
  pub each : length leaves ≡ relation_leaves relation

abbrev pub IsWritten : Constraint → Type 0
IsWritten (ExprOf place leaves c) = IsFormulaOf leaves c
IsWritten c = Unit {0}

pub constraint-stable : (s : Shape) (a : Assignment) (q : List Span) → IsGrid s.grid → IsHull s a q → (c : Constraint) → IsOf s c → IsWritten c → Satisfies s a c → All (IsStable q) (constraint_projections s c)
constraint-stable s a q grid hull (SliceOf signal i) of written says = slice-stable s a q grid hull signal i of
constraint-stable s a q grid hull (SlicesOf signal) of written says = slice-sweep-stable s a q grid hull signal of
constraint-stable s a q grid hull (DerivOf x rate i) of written says = deriv-stable s a q grid hull x rate i of says
constraint-stable s a q grid hull (DerivsOf x rate) of written says = deriv-sweep-stable s a q grid hull x rate of says
constraint-stable s a q grid hull (BoundOf x first last range) of written says = bound-stable s a q grid hull x first last range of says
constraint-stable s a q grid hull (EvalOf x rate t z declared) of written says = eval-stable s a q grid hull x rate t z declared of says
constraint-stable s a q grid hull (DelayToOf x y tau) of written says = delay_to-stable s a q grid hull x y tau of says
constraint-stable s a q grid hull (DelayFromOf x y tau) of written says = delay_from-stable s a q grid hull x y tau of says
constraint-stable s a q grid hull (DelayShiftOf x y tau) of written says = delay_shift-stable s a q grid hull x y tau of says
constraint-stable s a q grid hull (DistOf p b near far) of written says = dist-stable s a q hull p b near far of says
constraint-stable s a q grid hull (ConstellOf p marks) of written says = constell-stable s a q hull p marks of says
constraint-stable s a q grid hull (ExprOf place leaves c) of written says =
    let r = written.relation in
    subst (λ (c : Comparison). All (IsStable q) (expr_projections s place leaves c)) (sym written.compares)
    (expr-stable s a q grid hull place leaves r written.each of (subst (SatisfiesAt s place a leaves) written.compares says))
