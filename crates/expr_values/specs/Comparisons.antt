-- What a comparison leaves of the values of its two sides.
use Rattle.std.specs.Prelude.{◌≡◌, Option, ℤ, pos, ◌+ℤ◌, ◌-ℤ◌, ◌≤ℤ◌}
use Rattle.std.specs.Int.{int_min, int_max}
use Rattle.tube_spec.specs.Span.{Span}
use Rattle.tube_spec.specs.Hull.{proper}
use Rattle.expr_tree.specs.declared.RelOp.{RelOp}
use Rattle.expr_tree.specs.declared.RelOp.TheVariants.{Eq, Lt, Le, Gt, Ge}
use Rattle.expr_values.specs.Operators.{shared}

-- the members up to a number, and those from a number on
abbrev pub up_to : Span → ℤ → Option Span
up_to a m = proper (record { lo = a.lo; hi = int_min a.hi m })

abbrev pub from : Span → ℤ → Option Span
from a m = proper (record { lo = int_max a.lo m; hi = a.hi })

-- what is left of the left value a, where the right one is b
abbrev pub left_of : RelOp → Span → Span → Option Span
left_of Eq a b = shared a b
left_of Lt a b = up_to a (b.hi -ℤ pos 1)
left_of Le a b = up_to a b.hi
left_of Gt a b = from a (b.lo +ℤ pos 1)
left_of Ge a b = from a b.lo

-- what is left of the right value b, where the left one is a
abbrev pub right_of : RelOp → Span → Span → Option Span
right_of Eq a b = shared b a
right_of Lt a b = from b (a.lo +ℤ pos 1)
right_of Le a b = from b a.lo
right_of Gt a b = up_to b (a.hi -ℤ pos 1)
right_of Ge a b = up_to b a.hi

-- the comparison holds of two numbers
abbrev pub Compares : RelOp → ℤ → ℤ → Type 0
Compares Eq p q = p ≡ q
Compares Lt p q = (p +ℤ pos 1) ≤ℤ q
Compares Le p q = p ≤ℤ q
Compares Gt p q = (q +ℤ pos 1) ≤ℤ p
Compares Ge p q = q ≤ℤ p
