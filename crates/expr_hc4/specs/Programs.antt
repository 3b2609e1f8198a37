-- Flat programs: the nodes of a comparison in a list, operands before operators.
use Rattle.std.specs.Prelude.{◌≡◌, ℕ, zero, suc, ◌+◌, ◌-◌, ◌<◌, ◌≤◌, List, [], ◌∷◌, ◌++◌, length, slice_index_or, slice_set, map, Bool, true, false, Option, Some, None, pos}
use Rattle.tube_spec.specs.Span.{Span, point}
use Rattle.tube_spec.specs.Box.{cell_at}
use Rattle.expr_tree.specs.declared.RelOp.{RelOp}
use Rattle.expr_values.specs.Expressions.{Expression, Constant, Entry, Unary, Binary, Comparison}
use Rattle.expr_values.specs.Operators.{unary_value, binary_value, unary_target, left_target, right_target}
use Rattle.expr_values.specs.Values.{value_of}
use Rattle.tube_names.specs.declared.leaves.Leaf.{Leaf}
use Rattle.tube_names.specs.Leaves.{first_uses}
use Rattle.expr_hc4.specs.declared.nodes.Node.{Node}
use Rattle.expr_hc4.specs.declared.nodes.Node.TheVariants as nodes

-- how many nodes an expression has below its root, and in all
abbrev pub below : Expression → ℕ
below (Constant n) = 0
below (Entry k) = 0
below (Unary op a) = below a + 1
below (Binary op a b) = (below a + 1) + (below b + 1)

abbrev pub size : Expression → ℕ
size e = below e + 1

-- The program of an expression whose first node has the index i: its operands, and then its root.
abbrev pub code_of : Expression → ℕ → List Node
code_of (Constant n) i = nodes.Constant n ∷ []
code_of (Entry k) i = nodes.Entry k ∷ []
code_of (Unary op a) i = code_of a i ++ nodes.Unary op (i + below a) ∷ []
code_of (Binary op a b) i = code_of a i ++ (code_of b (i + size a) ++ nodes.Binary op (i + below a) ((i + size a) + below b) ∷ [])

-- the indices of its entries, from the left
abbrev pub places_of : Expression → ℕ → List ℕ
places_of (Constant n) i = []
places_of (Entry k) i = i ∷ []
places_of (Unary op a) i = places_of a i
places_of (Binary op a b) i = places_of a i ++ places_of b (i + size a)

-- the left side of a comparison, and then the right one
abbrev pub comparison_code : Comparison → List Node
comparison_code c = code_of c.left 0 ++ code_of c.right (size c.left)

abbrev pub comparison_places : Comparison → List ℕ
comparison_places c = places_of c.left 0 ++ places_of c.right (size c.left)

-- the node with an index
abbrev pub node_at : List Node → ℕ → Node
node_at ns i = slice_index_or ns i (nodes.Constant (pos 0))

-- the expression whose root is the node with an index, down to a depth
abbrev pub expression_of : Node → (ℕ → Expression) → Expression
expression_of (nodes.Constant n) f = Constant n
expression_of (nodes.Entry k) f = Entry k
expression_of (nodes.Unary op a) f = Unary op (f a)
expression_of (nodes.Binary op a b) f = Binary op (f a) (f b)

abbrev pub expression_at : List Node → ℕ → ℕ → Expression
expression_at ns zero i = Constant (pos 0)
expression_at ns (suc depth) i = expression_of (node_at ns i) (λ k. expression_at ns depth k)

-- the comparison of nodes whose left side has its root at an index, and the right side at the end
abbrev pub program_comparison : RelOp → List Node → ℕ → Comparison
program_comparison op ns left = record { op = op; left = expression_at ns (length ns) left; right = expression_at ns (length ns) (length ns - 1) }

-- A flat program: how its two sides compare, its nodes, the index of the left root, and what its entries stand for.
pub record Program : Type 0 where
  pub op : RelOp
  pub nodes : List Node
  pub left : ℕ
  pub leaves : List Leaf

-- the comparison that a program is
abbrev pub bound_comparison : Program → Comparison
bound_comparison p = program_comparison p.op p.nodes p.left

-- Nodes, the index of the left root and the indices of the entries are those of a comparison, and few.
pub record IsProgram (ns : List Node) (left : ℕ) (places : List ℕ) (c : Comparison) : Type 0 where
  pub code : ns ≡ comparison_code c
  pub left_root : left ≡ below c.left
  pub entries : places ≡ comparison_places c
  pub few : length ns ≤ 255

-- The operands of a node stand before it, and its entry is one of so many.
abbrev pub IsOrdered : ℕ → ℕ → Node → Type 0
IsOrdered count i (nodes.Constant n) = Unit {0}
IsOrdered count i (nodes.Entry k) = k < count
IsOrdered count i (nodes.Unary op a) = a < i
IsOrdered count i (nodes.Binary op a b) = (a < i) × (b < i)

abbrev pub AreOrdered : ℕ → List Node → Type 0
AreOrdered count ns = (i : ℕ) → i < length ns → IsOrdered count i (node_at ns i)

-- the value of a node, from the entries and the values of the nodes before it
abbrev pub node_value : List Span → List Span → Node → Span
node_value entries vs (nodes.Constant n) = point n
node_value entries vs (nodes.Entry k) = cell_at entries k
node_value entries vs (nodes.Unary op a) = unary_value op (cell_at vs a)
node_value entries vs (nodes.Binary op a b) = binary_value op (cell_at vs a) (cell_at vs b)

-- a list has the value of each node
abbrev pub AreValues : List Span → List Node → List Span → Type 0
AreValues entries ns vs = (i : ℕ) → i < length ns → cell_at vs i ≡ node_value entries vs (node_at ns i)

-- the values of the nodes below the root of an expression, and of all its nodes, in the order of its program
abbrev pub values_below : List Span → Expression → List Span
values_below xs (Constant n) = []
values_below xs (Entry k) = []
values_below xs (Unary op a) = values_below xs a ++ value_of xs a ∷ []
values_below xs (Binary op a b) = (values_below xs a ++ value_of xs a ∷ []) ++ (values_below xs b ++ value_of xs b ∷ [])

abbrev pub node_values : List Span → Expression → List Span
node_values xs e = values_below xs e ++ value_of xs e ∷ []

-- A list has the targets in the places of the entries, or there are none.
abbrev pub IsNarrowedTo : Bool → List Span → List ℕ → Option (List Span) → Type 0
IsNarrowedTo done vs places None = done ≡ false
IsNarrowedTo done vs places (Some cs) = (done ≡ true) × (map (cell_at vs) places ≡ cs)

-- what the target of a node, which stands at its index, leaves of its operands: a list with theirs in their places, or nothing
abbrev pub set_one : List Span → ℕ → Option Span → Option (List Span)
set_one vs a None = None
set_one vs a (Some c) = Some (slice_set vs a c)

abbrev pub set_two : List Span → ℕ → ℕ → Option Span → Option Span → Option (List Span)
set_two vs a b None d = None
set_two vs a b (Some c) None = None
set_two vs a b (Some c) (Some d) = Some (slice_set (slice_set vs a c) b d)

abbrev pub narrowed : Node → ℕ → List Span → Option (List Span)
narrowed (nodes.Constant n) i vs = Some vs
narrowed (nodes.Entry k) i vs = Some vs
narrowed (nodes.Unary op a) i vs = set_one vs a (unary_target op (cell_at vs a) (cell_at vs i))
narrowed (nodes.Binary op a b) i vs = set_two vs a b (left_target op (cell_at vs a) (cell_at vs b) (cell_at vs i)) (right_target op (cell_at vs a) (cell_at vs b) (cell_at vs i))

-- what holds of every flat program: its nodes are those of a comparison, whose entries its leaves are, and its names are those of its leaves
pub record IsFlat (op : RelOp) (ns : List Node) (left : ℕ) (places : List ℕ) (leaves names : List Leaf) : Type 0 where
  pub program : IsProgram ns left places (program_comparison op ns left)
  pub ordered : AreOrdered (length leaves) ns
  pub each : length places ≡ length leaves
  pub few : length places ≤ 256
  pub uses : names ≡ first_uses leaves
