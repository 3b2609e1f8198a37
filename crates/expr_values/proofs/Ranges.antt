-- Interval values, from those of the operands.
use Rattle.std.proofs.Common.{◌≡◌, Bool, true, false, cond, ◌&&◌, Option, Some, None, List, refl, sym, ap, ap₂, ◌∙◌}
use Rattle.tube_spec.specs.Span.{Span}
use Rattle.expr_values.specs.declared.operators.BinaryOp.{BinaryOp}
use Rattle.expr_values.specs.Expressions.{Expression, Binary}
use Rattle.expr_values.specs.Operators.{bounded, is_bounded, binary_value}
use Rattle.expr_values.specs.Values.{value_of, stays_bounded, range_value}

pub range-some : (t : Bool) (v a : Span) → Some a ≡ cond t (Some v) None → (t ≡ true) × (a ≡ v)
range-some true v a e = (refl, cc)
range-some false v a e = absurd (cc)

pub range-two : (xs : List Span) (op : BinaryOp) (e f : Expression) (a b : Span) (o : Option Span) → Some a ≡ range_value xs e → Some b ≡ range_value xs f → o ≡ bounded (binary_value op a b) → o ≡ range_value xs (Binary op e f)
range-two xs op e f a b o p q r =
    let x = range-some (stays_bounded xs e) (value_of xs e) a p in
    let y = range-some (stays_bounded xs f) (value_of xs f) b q in
    let v : binary_value op a b ≡ binary_value op (value_of xs e) (value_of xs f) = ap₂ (binary_value op) x.1 y.1 in
    r ∙ ap bounded v
    ∙ sym (ap₂ (λ (s t : Bool). cond (s && (t && is_bounded (binary_value op (value_of xs e) (value_of xs f)))) (Some (binary_value op (value_of xs e) (value_of xs f))) None) x.0 y.0)
