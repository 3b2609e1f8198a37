-- Values upward: of an expression over a list of intervals, and of one over numbers.
use Rattle.std.specs.Prelude.{ℕ, List, ◌&&◌, Bool, cond, Option, Some, None, ℤ, pos, slice_index_or}
use Rattle.tube_spec.specs.Span.{Span, Holds, point}
use Rattle.tube_spec.specs.Box.{cell_at}
use Rattle.expr_values.specs.Expressions.{Expression, Constant, Entry, Unary, Binary, Comparison}
use Rattle.expr_values.specs.Operators.{unary_value, binary_value, unary_number, binary_number, is_bounded}
use Rattle.expr_values.specs.Comparisons.{Compares}

-- the interval value of a node, from those of its operands
abbrev pub value_of : List Span → Expression → Span
value_of xs (Constant n) = point n
value_of xs (Entry k) = cell_at xs k
value_of xs (Unary op a) = unary_value op (value_of xs a)
value_of xs (Binary op a b) = binary_value op (value_of xs a) (value_of xs b)

-- the value of each node stays within the bound of every interval
abbrev pub stays_bounded : List Span → Expression → Bool
stays_bounded xs (Constant n) = is_bounded (point n)
stays_bounded xs (Entry k) = is_bounded (cell_at xs k)
stays_bounded xs (Unary op a) = stays_bounded xs a && is_bounded (value_of xs (Unary op a))
stays_bounded xs (Binary op a b) = stays_bounded xs a && (stays_bounded xs b && is_bounded (value_of xs (Binary op a b)))

-- the interval value, nothing where the value of some node leaves the bound
abbrev pub range_value : List Span → Expression → Option Span
range_value xs e = cond (stays_bounded xs e) (Some (value_of xs e)) None

-- the number that an expression is, where its entries are numbers, and 0 past the last
abbrev pub number_at : List ℤ → ℕ → ℤ
number_at ns k = slice_index_or ns k (pos 0)

abbrev pub number_value : List ℤ → Expression → ℤ
number_value ns (Constant n) = n
number_value ns (Entry k) = number_at ns k
number_value ns (Unary op a) = unary_number op (number_value ns a)
number_value ns (Binary op a b) = binary_number op (number_value ns a) (number_value ns b)

-- the comparison holds of the numbers
abbrev pub IsTrueOf : List ℤ → Comparison → Type 0
IsTrueOf ns c = Compares c.op (number_value ns c.left) (number_value ns c.right)

-- each number is a member of the entry in its place
abbrev pub HoldEach : List Span → List ℤ → Type 0
HoldEach xs ns = (k : ℕ) → Holds (cell_at xs k) (number_at ns k)
