-- One call less deep.
use Rattle.std.proofs.Common.{◌≡◌, ◌≢◌, ℕ, zero, suc, ◌-◌, List, ◌∷◌, Some, refl, sym, ap, ◌∙◌, arith}
use Rattle.std.specs.Prelude.{option_and_then}
use Rattle.expr_tree.specs.Trees.{Tree, Join, Sum, Difference, Product}
use Rattle.expr_text.specs.declared.token.Token.{Token}
use Rattle.expr_text.specs.declared.token.Token.TheVariants as token
use Rattle.expr_text.specs.Descent.{sum_at, addends_at, product_at, factors_at, unary_at, pair_at, second_at}

one_less : (n : ℕ) → suc n - 1 ≡ n
one_less n = omega arith

pub sum_then : (n : ℕ) (ts : List Token) (left : Tree) (rest : List Token) → n ≢ 0 → Some (left, rest) ≡ product_at (n - 1) ts → addends_at (n - 1) left rest ≡ sum_at n ts
unfolding sum_at
sum_then zero ts left rest h k = absurd (h refl)
sum_then (suc n) ts left rest h k =
    ap (λ m. addends_at m left rest) (one_less n) ∙ ap (option_and_then (λ p. addends_at n p.0 p.1)) (k ∙ ap (λ m. product_at m ts) (one_less n))

pub product_then : (n : ℕ) (ts : List Token) (left : Tree) (rest : List Token) → n ≢ 0 → Some (left, rest) ≡ unary_at (n - 1) ts → factors_at (n - 1) left rest ≡ product_at n ts
unfolding sum_at
product_then zero ts left rest h k = absurd (h refl)
product_then (suc n) ts left rest h k =
    ap (λ m. factors_at m left rest) (one_less n) ∙ ap (option_and_then (λ p. factors_at n p.0 p.1)) (k ∙ ap (λ m. unary_at m ts) (one_less n))

pub plus_then : (n : ℕ) (ts : List Token) (left right : Tree) (rest others : List Token) → n ≢ 0 → ts ≡ token.Plus ∷ others → Some (right, rest) ≡ product_at (n - 1) others → addends_at (n - 1) (Join Sum left right) rest ≡ addends_at n left ts
unfolding sum_at
plus_then zero ts left right rest others h e k = absurd (h refl)
plus_then (suc n) ts left right rest others h e k =
    ap (λ m. addends_at m (Join Sum left right) rest) (one_less n) ∙ ap (option_and_then (λ p. addends_at n (Join Sum left p.0) p.1)) (k ∙ ap (λ m. product_at m others) (one_less n)) ∙ ap (addends_at (suc n) left) (sym e)

pub minus_then : (n : ℕ) (ts : List Token) (left right : Tree) (rest others : List Token) → n ≢ 0 → ts ≡ token.Minus ∷ others → Some (right, rest) ≡ product_at (n - 1) others → addends_at (n - 1) (Join Difference left right) rest ≡ addends_at n left ts
unfolding sum_at
minus_then zero ts left right rest others h e k = absurd (h refl)
minus_then (suc n) ts left right rest others h e k =
    ap (λ m. addends_at m (Join Difference left right) rest) (one_less n) ∙ ap (option_and_then (λ p. addends_at n (Join Difference left p.0) p.1)) (k ∙ ap (λ m. product_at m others) (one_less n)) ∙ ap (addends_at (suc n) left) (sym e)

pub times_then : (n : ℕ) (ts : List Token) (left right : Tree) (rest others : List Token) → n ≢ 0 → ts ≡ token.Times ∷ others → Some (right, rest) ≡ unary_at (n - 1) others → factors_at (n - 1) (Join Product left right) rest ≡ factors_at n left ts
unfolding sum_at
times_then zero ts left right rest others h e k = absurd (h refl)
times_then (suc n) ts left right rest others h e k =
    ap (λ m. factors_at m (Join Product left right) rest) (one_less n) ∙ ap (option_and_then (λ p. factors_at n (Join Product left p.0) p.1)) (k ∙ ap (λ m. unary_at m others) (one_less n)) ∙ ap (factors_at (suc n) left) (sym e)

pub pair_then : (n : ℕ) (ts : List Token) (a : Tree) (rest others : List Token) → n ≢ 0 → ts ≡ token.Open ∷ others → Some (a, rest) ≡ sum_at (n - 1) others → second_at (n - 1) a rest ≡ pair_at n ts
unfolding sum_at
pair_then zero ts a rest others h e k = absurd (h refl)
pair_then (suc n) ts a rest others h e k =
    ap (λ m. second_at m a rest) (one_less n) ∙ ap (option_and_then (λ p. second_at n p.0 p.1)) (k ∙ ap (λ m. sum_at m others) (one_less n)) ∙ ap (pair_at (suc n)) (sym e)
