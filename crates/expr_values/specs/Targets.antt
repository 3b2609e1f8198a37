-- Targets downward: what a comparison leaves of each of its entries (Benhamou, Goualard, Granvilliers and Puget, "Revising hull and box
-- consistency", 1999).
use Rattle.std.specs.Prelude.{◌≡◌, ℕ, ◌+◌, ◌<◌, List, [], ◌∷◌, ◌++◌, length, ◌&&◌, cond, Option, Some, None, ℤ}
use Rattle.tube_spec.specs.Span.{Span, Holds}
use Rattle.tube_spec.specs.Narrowing.{Narrowing, Whole, Nothing, Within}
use Rattle.tube_spec.specs.Box.{cell_at}
use Rattle.expr_values.specs.Expressions.{Expression, Constant, Entry, Unary, Binary, Comparison}
use Rattle.expr_values.specs.Operators.{unary_target, left_target, right_target}
use Rattle.expr_values.specs.Comparisons.{left_of, right_of}
use Rattle.expr_values.specs.Values.{value_of, stays_bounded, number_at}

-- what f gives of a target, nothing where there is none
abbrev pub through : Option Span → (Span → Option (List Span)) → Option (List Span)
through None f = None
through (Some c) f = f c

-- the targets of the left side and then those of the right one, nothing where one of both has none
abbrev pub both : Option (List Span) → Option (List Span) → Option (List Span)
both None ds = None
both (Some cs) None = None
both (Some cs) (Some ds) = Some (cs ++ ds)

-- The targets of the entries, from the left, where the target of the node is c, a part of its value. They are nothing where some
-- node's target shares no number with its value.
abbrev pub targets_of : List Span → Expression → Span → Option (List Span)
targets_of xs (Constant n) c = Some []
targets_of xs (Entry k) c = Some (c ∷ [])
targets_of xs (Unary op a) c = through (unary_target op (value_of xs a) c) (λ d. targets_of xs a d)
targets_of xs (Binary op a b) c =
    both (through (left_target op (value_of xs a) (value_of xs b) c) (λ d. targets_of xs a d))
    (through (right_target op (value_of xs a) (value_of xs b) c) (λ d. targets_of xs b d))

-- the targets of the entries of a comparison, from the left
abbrev pub comparison_targets : List Span → Comparison → Option (List Span)
comparison_targets xs c =
    both (through (left_of c.op (value_of xs c.left) (value_of xs c.right)) (λ d. targets_of xs c.left d))
    (through (right_of c.op (value_of xs c.left) (value_of xs c.right)) (λ d. targets_of xs c.right d))

-- What is left of the entry with a number: its target, or nothing where some node has none; and the whole line where the value of some
-- node leaves the bound.
abbrev pub narrowing_at : Option (List Span) → ℕ → Narrowing
narrowing_at None j = Nothing
narrowing_at (Some cs) j = Within (cell_at cs j)

abbrev pub entry_narrowing : List Span → Comparison → ℕ → Narrowing
entry_narrowing xs c j = cond (stays_bounded xs c.left && stays_bounded xs c.right) (narrowing_at (comparison_targets xs c) j) Whole

-- there are so many targets, and each holds the number of its entry, of which the first is k
abbrev pub AreHeld : List ℤ → ℕ → ℕ → Option (List Span) → Type 0
AreHeld ns k n None = ⊥
AreHeld ns k n (Some cs) = (length cs ≡ n) × ((j : ℕ) → j < n → Holds (cell_at cs j) (number_at ns (k + j)))
