-- Building a tree from the left, one function for each phrase. The number bounds how deep the calls go; it
-- runs out for no phrase that is within the limits.
use Rattle.std.specs.Prelude.{ℕ, zero, suc, List, [], ◌∷◌, Option, Some, None, option_and_then, option_map}
use Rattle.expr_tree.specs.Trees.{Tree, Number, Named, Apply, Join, Unary, Binary, Minus, Square, Absolute, Sum, Difference, Product, Least, Greatest, Relation}
use Rattle.expr_tree.specs.declared.RelOp.{RelOp}
use Rattle.expr_text.specs.declared.token.Token.{Token}
use Rattle.expr_text.specs.declared.token.Token.TheVariants as token

-- a tree and the tokens behind it, or none where no such phrase stands at the front
abbrev pub Read : Type 0
Read = Option (Tree × List Token)

-- two trees and the tokens behind them
abbrev pub ReadTwo : Type 0
ReadTwo = Option (Tree × Tree × List Token)

abbrev pub closes : Tree → List Token → Read
closes a [] = None
closes a (token.Close ∷ ts) = Some (a, ts)
closes a (_ ∷ ts) = None

abbrev pub closes_two : Tree → Tree → List Token → ReadTwo
closes_two a b [] = None
closes_two a b (token.Close ∷ ts) = Some (a, b, ts)
closes_two a b (_ ∷ ts) = None

abbrev pub with_unary : Unary → Read → Read
with_unary op read = option_map (λ p. (Apply op p.0, p.1)) read

abbrev pub with_binary : Binary → ReadTwo → Read
with_binary op read = option_map (λ p. (Join op p.0 p.1, p.2)) read

unfoldable mutual
  pub sum_at : ℕ → List Token → Read
  sum_at zero ts = None
  sum_at (suc n) ts = option_and_then (λ p. addends_at n p.0 p.1) (product_at n ts)

  pub addends_at : ℕ → Tree → List Token → Read
  addends_at zero left ts = None
  addends_at (suc n) left [] = Some (left, [])
  addends_at (suc n) left (token.Plus ∷ ts) = option_and_then (λ p. addends_at n (Join Sum left p.0) p.1) (product_at n ts)
  addends_at (suc n) left (token.Minus ∷ ts) = option_and_then (λ p. addends_at n (Join Difference left p.0) p.1) (product_at n ts)
  addends_at (suc n) left (t ∷ ts) = Some (left, t ∷ ts)

  pub product_at : ℕ → List Token → Read
  product_at zero ts = None
  product_at (suc n) ts = option_and_then (λ p. factors_at n p.0 p.1) (unary_at n ts)

  pub factors_at : ℕ → Tree → List Token → Read
  factors_at zero left ts = None
  factors_at (suc n) left [] = Some (left, [])
  factors_at (suc n) left (token.Times ∷ ts) = option_and_then (λ p. factors_at n (Join Product left p.0) p.1) (unary_at n ts)
  factors_at (suc n) left (t ∷ ts) = Some (left, t ∷ ts)

  pub unary_at : ℕ → List Token → Read
  unary_at zero ts = None
  unary_at (suc n) [] = None
  unary_at (suc n) (token.Minus ∷ ts) = with_unary Minus (unary_at n ts)
  unary_at (suc n) (token.Number z ∷ ts) = Some (Number z, ts)
  unary_at (suc n) (token.Name name ∷ ts) = Some (Named name, ts)
  unary_at (suc n) (token.Open ∷ ts) = option_and_then (λ p. closes p.0 p.1) (sum_at n ts)
  unary_at (suc n) (token.Sqr ∷ ts) = with_unary Square (bracket_at n ts)
  unary_at (suc n) (token.Abs ∷ ts) = with_unary Absolute (bracket_at n ts)
  unary_at (suc n) (token.Min ∷ ts) = with_binary Least (pair_at n ts)
  unary_at (suc n) (token.Max ∷ ts) = with_binary Greatest (pair_at n ts)
  unary_at (suc n) (_ ∷ ts) = None

  pub bracket_at : ℕ → List Token → Read
  bracket_at zero ts = None
  bracket_at (suc n) [] = None
  bracket_at (suc n) (token.Open ∷ ts) = option_and_then (λ p. closes p.0 p.1) (sum_at n ts)
  bracket_at (suc n) (_ ∷ ts) = None

  pub pair_at : ℕ → List Token → ReadTwo
  pair_at zero ts = None
  pair_at (suc n) [] = None
  pair_at (suc n) (token.Open ∷ ts) = option_and_then (λ p. second_at n p.0 p.1) (sum_at n ts)
  pair_at (suc n) (_ ∷ ts) = None

  pub second_at : ℕ → Tree → List Token → ReadTwo
  second_at zero a ts = None
  second_at (suc n) a [] = None
  second_at (suc n) a (token.Comma ∷ ts) = option_and_then (λ p. closes_two a p.0 p.1) (sum_at n ts)
  second_at (suc n) a (_ ∷ ts) = None

-- the relation that all the tokens are
abbrev pub ends : RelOp → Tree → Tree → List Token → Option Relation
ends op left right [] = Some (record { op = op; left = left; right = right })
ends op left right (t ∷ ts) = None

abbrev pub right_at : (List Token → Read) → Tree → List Token → Option Relation
right_at sum left [] = None
right_at sum left (token.Compare op ∷ ts) = option_and_then (λ p. ends op left p.0 p.1) (sum ts)
right_at sum left (_ ∷ ts) = None

unfoldable pub relation_at : ℕ → List Token → Option Relation
relation_at n ts = option_and_then (λ p. right_at (sum_at n) p.0 p.1) (sum_at n ts)
