-- The acceptor takes every phrase of the grammar.
use Rattle.std.proofs.Common.{◌≡◌, Bool, true, false, List, [], ◌∷◌, ◌++◌, Option, Some, None, refl, ap, ◌∙◌}
use Rattle.std.specs.Prelude.{option_and_then}
use Rattle.expr_text.specs.declared.token.Token.{Token}
use Rattle.expr_text.specs.declared.token.Token.TheVariants as token
use Rattle.expr_text.specs.declared.acceptor.Bracket.{Bracket}
use Rattle.expr_text.specs.declared.acceptor.Bracket.TheVariants as bracket
use Rattle.expr_text.specs.declared.acceptor.Wanted.TheVariants as wanted
use Rattle.expr_text.specs.Grammar.{SumPhrase, SumOf, Addends, NoAddend, Added, Subtracted, ProductPhrase, ProductOf, Factors, NoFactor, Multiplied, UnaryPhrase, Negated, Plain, PrimaryPhrase, Literal, Symbol, Bracketed, SquareOf, AbsoluteOf, LeastOf, GreatestOf, RelationPhrase, sum_tokens, addend_tokens, product_tokens, factor_tokens, unary_tokens, primary_tokens, relation_tokens}
use Rattle.expr_text.specs.Acceptor.{State, state, step, run, start}

-- one token after some, some after some
pub run_append : (s : State) (xs ys : List Token) → run s (xs ++ ys) ≡ option_and_then (λ next. run next ys) (run s xs)
run_append s [] ys = refl
run_append s (x ∷ xs) ys = after (λ n. run_append n xs ys) (step s x)
  where
    after : ((n : State) → run n (xs ++ ys) ≡ option_and_then (λ next. run next ys) (run n xs)) → (r : Option State) → option_and_then (λ next. run next (xs ++ ys)) r ≡ option_and_then (λ next. run next ys) (option_and_then (λ next. run next xs) r)
    after h None = refl
    after h (Some n) = h n

-- a run in two parts
then : (s m e : State) (xs ys : List Token) → run s xs ≡ Some m → run m ys ≡ Some e → run s (xs ++ ys) ≡ Some e
then s m e xs ys h k = run_append s xs ys ∙ ap (option_and_then (λ next. run next ys)) h ∙ k

abbrev wants_operand : List Bracket → Bool → State
wants_operand bs right = state wanted.Operand bs right

abbrev wants_operator : List Bracket → Bool → State
wants_operator bs right = state wanted.Operator bs right

mutual
  unfolding step

  pub sum_runs : (a : SumPhrase) (bs : List Bracket) (right : Bool) → run (wants_operand bs right) (sum_tokens a) ≡ Some (wants_operator bs right)
  sum_runs (SumOf p more) bs right = then _ _ _ (product_tokens p) (addend_tokens more) (product_runs p bs right) (addends_run more bs right)

  addends_run : (a : Addends) (bs : List Bracket) (right : Bool) → run (wants_operator bs right) (addend_tokens a) ≡ Some (wants_operator bs right)
  addends_run NoAddend bs right = refl
  addends_run (Added p more) bs right = then _ _ _ (product_tokens p) (addend_tokens more) (product_runs p bs right) (addends_run more bs right)
  addends_run (Subtracted p more) bs right = then _ _ _ (product_tokens p) (addend_tokens more) (product_runs p bs right) (addends_run more bs right)

  product_runs : (p : ProductPhrase) (bs : List Bracket) (right : Bool) → run (wants_operand bs right) (product_tokens p) ≡ Some (wants_operator bs right)
  product_runs (ProductOf u more) bs right = then _ _ _ (unary_tokens u) (factor_tokens more) (unary_runs u bs right) (factors_run more bs right)

  factors_run : (f : Factors) (bs : List Bracket) (right : Bool) → run (wants_operator bs right) (factor_tokens f) ≡ Some (wants_operator bs right)
  factors_run NoFactor bs right = refl
  factors_run (Multiplied u more) bs right = then _ _ _ (unary_tokens u) (factor_tokens more) (unary_runs u bs right) (factors_run more bs right)

  unary_runs : (u : UnaryPhrase) (bs : List Bracket) (right : Bool) → run (wants_operand bs right) (unary_tokens u) ≡ Some (wants_operator bs right)
  unary_runs (Negated u) bs right = unary_runs u bs right
  unary_runs (Plain p) bs right = primary_runs p bs right

  primary_runs : (p : PrimaryPhrase) (bs : List Bracket) (right : Bool) → run (wants_operand bs right) (primary_tokens p) ≡ Some (wants_operator bs right)
  primary_runs (Literal n) bs right = refl
  primary_runs (Symbol name) bs right = refl
  primary_runs (Bracketed a) bs right = then _ _ _ (sum_tokens a) (token.Close ∷ []) (sum_runs a (bracket.Last ∷ bs) right) refl
  primary_runs (SquareOf a) bs right = then _ _ _ (sum_tokens a) (token.Close ∷ []) (sum_runs a (bracket.Last ∷ bs) right) refl
  primary_runs (AbsoluteOf a) bs right = then _ _ _ (sum_tokens a) (token.Close ∷ []) (sum_runs a (bracket.Last ∷ bs) right) refl
  primary_runs (LeastOf a b) bs right =
      then _ _ _ (sum_tokens a) (token.Comma ∷ (sum_tokens b ++ token.Close ∷ [])) (sum_runs a (bracket.First ∷ bs) right)
      (then _ _ _ (sum_tokens b) (token.Close ∷ []) (sum_runs b (bracket.Last ∷ bs) right) refl)
  primary_runs (GreatestOf a b) bs right =
      then _ _ _ (sum_tokens a) (token.Comma ∷ (sum_tokens b ++ token.Close ∷ [])) (sum_runs a (bracket.First ∷ bs) right)
      (then _ _ _ (sum_tokens b) (token.Close ∷ []) (sum_runs b (bracket.Last ∷ bs) right) refl)

pub relation_runs : (r : RelationPhrase) → run start (relation_tokens r) ≡ Some (state wanted.Operator [] true)
unfolding step
relation_runs r = then _ _ _ (sum_tokens r.left) (token.Compare r.op ∷ sum_tokens r.right) (sum_runs r.left [] false) (sum_runs r.right [] true)
