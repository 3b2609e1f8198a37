-- The definitions tried on numbers.
use Rattle.std.proofs.Common.{◌≡◌, ℕ, Some, None, List, [], ◌∷◌, ℤ, pos, negsuc, refl, map, length}
use Rattle.tube_spec.specs.Span.{Span, point}
use Rattle.tube_spec.specs.Narrowing.{Narrowing, Nothing, Whole, Within}
use Rattle.tube_spec.specs.Shape.{Shape, no_shape, with_signal, with_var}
use Rattle.tube_spec.specs.Projection.{Projection}
use Rattle.expr_tree.specs.Trees.{Tree, Number, Named, Sum, Join, Relation}
use Rattle.expr_tree.specs.declared.RelOp.TheVariants.{Eq, Le}
use Rattle.expr_values.specs.Expressions.{comparison_of}
use Rattle.ctc_core.specs.Given.{projection_at}
use Rattle.tube_names.specs.declared.leaves.Leaf.{Leaf}
use Rattle.tube_names.specs.declared.leaves.Leaf.TheVariants.{Sig, Var}
use Rattle.expr_hc4.specs.declared.places.Place.TheVariants.{Gate, Envelope, Once}
use Rattle.expr_hc4.specs.Places.{leaf_cells, expr_scope}
use Rattle.expr_hc4.specs.Projections.{expr_projections}

-- a signal over two slices of five ticks, and two variables
abbrev shape : Shape
shape = with_var (with_var (with_signal (no_shape (0 ∷ 5 ∷ 10 ∷ []))))

abbrev signal : Leaf
signal = Sig (record { 0 = 0 })

abbrev variable : ℕ → Leaf
variable k = Var (record { 0 = k })

gate-cells : leaf_cells shape (Gate 1) (signal ∷ variable 1 ∷ []) ≡ 2 ∷ 6 ∷ []
gate-cells = refl

envelope-cells : leaf_cells shape (Envelope 1) (signal ∷ variable 1 ∷ []) ≡ 3 ∷ 6 ∷ []
envelope-cells = refl

-- a name that stands three times is read once, and has three projections
each-once : expr_scope shape Once (variable 0 ∷ variable 1 ∷ variable 0 ∷ variable 0 ∷ []) ≡ 5 ∷ 6 ∷ []
each-once = refl

-- a = b + 1, with a and b in 0..1000
abbrev one_more : Relation
one_more = record { op = Eq; left = Named []; right = Join Sum (Named []) (Number (pos 1)) }

abbrev thousand : Span
thousand = record { lo = pos 0; hi = pos 1000 }

abbrev box : List Span
box = point (pos 0) ∷ point (pos 0) ∷ point (pos 0) ∷ point (pos 0) ∷ point (pos 0) ∷ thousand ∷ thousand ∷ []

abbrev given : ℕ → Narrowing
given j = (projection_at (expr_projections shape Once (variable 0 ∷ variable 1 ∷ []) (comparison_of one_more)) j).formula box

first-given : given 0 ≡ Within (record { lo = pos 1; hi = pos 1000 })
first-given = refl

second-given : given 1 ≡ Within (record { lo = pos 0; hi = pos 999 })
second-given = refl

-- 1 = 2 has no projection
abbrev false_relation : Relation
false_relation = record { op = Eq; left = Number (pos 1); right = Number (pos 2) }

no-projection : length (expr_projections shape Once [] (comparison_of false_relation)) ≡ 0
no-projection = refl
