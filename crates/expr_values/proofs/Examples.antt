-- The definitions tried on numbers.
use Rattle.std.proofs.Common.{◌≡◌, Some, None, List, [], ◌∷◌, ℤ, pos, negsuc, refl}
use Rattle.tube_spec.specs.Span.{Span}
use Rattle.tube_spec.specs.Narrowing.{Nothing, Whole, Within}
use Rattle.expr_tree.specs.Trees.{Tree, Number, Named, Apply, Join, Square, Sum, Product}
use Rattle.expr_tree.specs.declared.RelOp.TheVariants.{Lt, Le, Ge}
use Rattle.expr_values.specs.declared.operators.BinaryOp.TheVariants.{Add, Sub}
use Rattle.expr_values.specs.declared.operators.UnaryOp.TheVariants.{Neg}
use Rattle.expr_values.specs.Expressions.{comparison_of, numbered}
use Rattle.expr_values.specs.Operators.{unary_target, left_target, right_target}
use Rattle.expr_values.specs.Comparisons.{left_of, right_of}
use Rattle.expr_values.specs.Values.{range_value}
use Rattle.expr_values.specs.Targets.{entry_narrowing}

abbrev from : ℤ → ℤ → Span
from lo hi = record { lo = lo; hi = hi }

abbrev name : Tree
name = Named []

-- sqr(x)*16 over -500,000,000..500,000,000 stays within the bound, and sqr(x)*17 does not
abbrev wide : List Span
wide = from (negsuc 499999999) (pos 500000000) ∷ []

stays : range_value wide (numbered (Join Product (Apply Square name) (Number (pos 16))) 0) ≡ Some (from (pos 0) (pos 4000000000000000000))
stays = refl

leaves-it : range_value wide (numbered (Join Product (Apply Square name) (Number (pos 17))) 0) ≡ None
leaves-it = refl

-- what targets leave
negated : unary_target Neg (from (pos 0) (pos 9)) (from (negsuc 4) (pos 3)) ≡ Some (from (pos 0) (pos 5))
negated = refl

summand : left_target Add (from (pos 0) (pos 9)) (from (pos 1) (pos 2)) (from (pos 5) (pos 7)) ≡ Some (from (pos 3) (pos 6))
summand = refl

minuend : left_target Sub (from (pos 0) (pos 9)) (from (pos 1) (pos 2)) (from (pos 5) (pos 7)) ≡ Some (from (pos 6) (pos 9))
minuend = refl

subtrahend : right_target Sub (from (pos 0) (pos 6)) (from (pos 1) (pos 2)) (from (pos 5) (pos 7)) ≡ Some (from (pos 1) (pos 1))
subtrahend = refl

less-left : left_of Lt (from (pos 0) (pos 9)) (from (pos 2) (pos 6)) ≡ Some (from (pos 0) (pos 5))
less-left = refl

less-right : right_of Lt (from (pos 4) (pos 9)) (from (pos 2) (pos 6)) ≡ Some (from (pos 5) (pos 6))
less-right = refl

-- a number that misses its target leaves nothing: 3 < x + 1 with x in 0..1
missed : entry_narrowing (from (pos 0) (pos 1) ∷ []) (comparison_of (record { op = Lt; left = Number (pos 3); right = Join Sum name (Number (pos 1)) })) 0 ≡ Nothing
missed = refl

-- x + 1 >= y over small intervals
abbrev above : List Span
above = from (pos 0) (pos 5) ∷ from (pos 4) (pos 9) ∷ []

first-above : entry_narrowing above (comparison_of (record { op = Ge; left = Join Sum name (Number (pos 1)); right = name })) 0 ≡ Within (from (pos 3) (pos 5))
first-above = refl

second-above : entry_narrowing above (comparison_of (record { op = Ge; left = Join Sum name (Number (pos 1)); right = name })) 1 ≡ Within (from (pos 4) (pos 6))
second-above = refl

-- a value that leaves the bound holds nothing
beyond : entry_narrowing wide (comparison_of (record { op = Le; left = Join Product (Apply Square name) (Number (pos 17)); right = Number (pos 0) })) 0 ≡ Whole
beyond = refl
