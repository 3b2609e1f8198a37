-- The contractors of all kinds, by the constraint that each stands for.
use Rattle.std.specs.Prelude.{ℕ, List, map}
use Rattle.tube_spec.specs.Shape.{Shape}
use Rattle.tube_spec.specs.Projection.{Projection}
use Rattle.ctc_eval.specs.Held.{rate_of}
use Rattle.tube_names.specs.Points.{numbers}
use Rattle.expr_hc4.specs.Programs.{bound_comparison}
use Rattle.any_ctc.specs.Constraints.{Constraint, SlicesOf, DerivsOf, BoundOf, EvalOf, DelayToOf, DelayFromOf, DelayShiftOf, DistOf, ConstellOf, ExprOf, constraint_projections, constraint_scope}
use Rattle.any_ctc.specs.declared.AnyCtc.{AnyCtc}
use Rattle.any_ctc.specs.declared.AnyCtc.TheVariants.{Slices, Derivs, Bound, Eval, DelayTo, DelayFrom, DelayShift, Dist2, Dist3, Constell, Expr}

-- the constraint that a contractor stands for
abbrev pub constraint_of : AnyCtc → Constraint
constraint_of (Slices c) = SlicesOf c.signal.0
constraint_of (Derivs c) = DerivsOf c.x.0 c.rate.0
constraint_of (Bound c) = BoundOf c.signal.0 c.first c.last c.range
constraint_of (Eval c) = EvalOf c.x.0 (rate_of c.rate) c.t.0 c.z.0 c.declared
constraint_of (DelayTo c) = DelayToOf c.x.0 c.y.0 c.tau.0
constraint_of (DelayFrom c) = DelayFromOf c.x.0 c.y.0 c.tau.0
constraint_of (DelayShift c) = DelayShiftOf c.x.0 c.y.0 c.tau.0
constraint_of (Dist2 c) = DistOf (numbers c.p) (numbers c.b) c.near c.far
constraint_of (Dist3 c) = DistOf (numbers c.p) (numbers c.b) c.near c.far
constraint_of (Constell c) = ConstellOf (numbers c.p) (map numbers c.marks.items)
constraint_of (Expr c) = ExprOf c.place c.flat.value.leaves (bound_comparison c.flat.value)

abbrev pub any_projections : AnyCtc → Shape → List Projection
any_projections c s = constraint_projections s (constraint_of c)

abbrev pub any_scope : AnyCtc → Shape → List ℕ
any_scope c s = constraint_scope s (constraint_of c)
