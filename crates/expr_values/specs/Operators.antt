-- The operators on spans: what they make of their operands, and what a target of that leaves of each operand.
use Rattle.std.specs.Prelude.{◌&&◌, Bool, cond, Option, Some, None, ℤ, pos, ◌+ℤ◌, ◌-ℤ◌, ◌*ℤ◌, neg_ℤ, int_le}
use Rattle.std.specs.Int.{int_min, int_max}
use Rattle.tube_spec.specs.Limits.{interval_bound}
use Rattle.tube_spec.specs.Span.{Span, meet_of, add_of, sub_of}
use Rattle.tube_spec.specs.Hull.{proper}
use Rattle.int_interval.specs.Image.{int_abs, neg_of, abs_of, min_of, max_of, mul_of, sqr_of}
use Rattle.int_interval.specs.Inverse.{back_mul_of, back_sqr_of, back_abs_of, back_min_of, back_max_of}
use Rattle.expr_values.specs.declared.operators.UnaryOp.{UnaryOp}
use Rattle.expr_values.specs.declared.operators.UnaryOp.TheVariants.{Neg, Sqr, Abs}
use Rattle.expr_values.specs.declared.operators.BinaryOp.{BinaryOp}
use Rattle.expr_values.specs.declared.operators.BinaryOp.TheVariants.{Add, Sub, Mul, Min, Max}

-- Upward: the hull of what an operator makes of members.
abbrev pub unary_value : UnaryOp → Span → Span
unary_value Neg a = neg_of a
unary_value Sqr a = sqr_of a
unary_value Abs a = abs_of a

abbrev pub binary_value : BinaryOp → Span → Span → Span
binary_value Add a b = add_of a b
binary_value Sub a b = sub_of a b
binary_value Mul a b = mul_of a b
binary_value Min a b = min_of a b
binary_value Max a b = max_of a b

-- what two spans share, nothing where they share no number
abbrev pub shared : Span → Span → Option Span
shared a b = proper (meet_of a b)

-- Downward: what a target c of the value leaves of the operand a.
abbrev pub unary_target : UnaryOp → Span → Span → Option Span
unary_target Neg a c = shared a (neg_of c)
unary_target Sqr a c = back_sqr_of a c
unary_target Abs a c = back_abs_of a c

-- What a target c leaves of the left operand a, where the right one is b.
abbrev pub left_target : BinaryOp → Span → Span → Span → Option Span
left_target Add a b c = shared a (sub_of c b)
left_target Sub a b c = shared a (add_of c b)
left_target Mul a b c = back_mul_of a b c
left_target Min a b c = back_min_of a b c
left_target Max a b c = back_max_of a b c

-- What it leaves of the right operand b, where the left one is a.
abbrev pub right_target : BinaryOp → Span → Span → Span → Option Span
right_target Add a b c = shared b (sub_of c a)
right_target Sub a b c = shared b (sub_of a c)
right_target Mul a b c = back_mul_of b a c
right_target Min a b c = back_min_of b a c
right_target Max a b c = back_max_of b a c

-- what the operators make of numbers
abbrev pub unary_number : UnaryOp → ℤ → ℤ
unary_number Neg p = neg_ℤ p
unary_number Sqr p = p *ℤ p
unary_number Abs p = int_abs p

abbrev pub binary_number : BinaryOp → ℤ → ℤ → ℤ
binary_number Add p q = p +ℤ q
binary_number Sub p q = p -ℤ q
binary_number Mul p q = p *ℤ q
binary_number Min p q = int_min p q
binary_number Max p q = int_max p q

-- both ends of a span are at most 4 * 10^18 in absolute value, the bound of every interval
abbrev pub is_bounded : Span → Bool
is_bounded a = int_le (neg_ℤ (pos interval_bound)) a.lo && int_le a.hi (pos interval_bound)

-- a span within the bound, nothing where it leaves it
abbrev pub bounded : Span → Option Span
bounded a = cond (is_bounded a) (Some a) None
