-- A sum with an operator and a unary behind it is a sum.
use Rattle.std.proofs.Common.{◌≡◌, List, ◌∷◌, ◌++◌, refl, sym, ap, ◌∙◌, append_assoc, append-nil}
use Rattle.expr_text.specs.declared.token.Token.{Token}
use Rattle.expr_text.specs.declared.token.Token.TheVariants as token
use Rattle.expr_text.specs.Grammar.{SumPhrase, SumOf, Addends, NoAddend, Added, Subtracted, ProductPhrase, ProductOf, Factors, NoFactor, Multiplied, UnaryPhrase, sum_tokens, addend_tokens, product_tokens, factor_tokens, unary_tokens}

-- a unary alone, as a product and as a sum
abbrev pub lone_product : UnaryPhrase → ProductPhrase
lone_product u = ProductOf u NoFactor

abbrev pub lone_sum : UnaryPhrase → SumPhrase
lone_sum u = SumOf (lone_product u) NoAddend

pub lone_product_tokens : (u : UnaryPhrase) → product_tokens (lone_product u) ≡ unary_tokens u
lone_product_tokens u = append-nil (unary_tokens u)

pub lone_sum_tokens : (u : UnaryPhrase) → sum_tokens (lone_sum u) ≡ unary_tokens u
lone_sum_tokens u = append-nil (product_tokens (lone_product u)) ∙ lone_product_tokens u

-- the same tokens, with more behind them
behind : (xs ys zs more : List Token) → ys ≡ zs ++ more → xs ++ ys ≡ (xs ++ zs) ++ more
behind xs ys zs more e = ap (λ (ts : List Token). xs ++ ts) e ∙ sym (append_assoc xs zs more)

factors_grown : (more : Factors) (u : UnaryPhrase) → (f : Factors) × (factor_tokens f ≡ factor_tokens more ++ token.Times ∷ unary_tokens u)
factors_grown NoFactor u = (Multiplied u NoFactor, ap (λ (ts : List Token). token.Times ∷ ts) (append-nil (unary_tokens u)))
factors_grown (Multiplied v more) u =
    let grown = factors_grown more u in
    (Multiplied v grown.0, ap (λ (ts : List Token). token.Times ∷ ts) (behind (unary_tokens v) _ _ _ grown.1))

product_grown : (p : ProductPhrase) (u : UnaryPhrase) → (q : ProductPhrase) × (product_tokens q ≡ product_tokens p ++ token.Times ∷ unary_tokens u)
product_grown (ProductOf v more) u =
    let grown = factors_grown more u in
    (ProductOf v grown.0, behind (unary_tokens v) _ _ _ grown.1)

-- a product and addends
record Grown (ts : List Token) : Type 0 where
  first : ProductPhrase
  more : Addends
  are : product_tokens first ++ addend_tokens more ≡ ts

cons_behind : (t : Token) (xs ys zs more : List Token) → xs ≡ (ys ++ zs) ++ more → t ∷ xs ≡ (t ∷ (ys ++ zs)) ++ more
cons_behind t xs ys zs more e = ap (λ (ts : List Token). t ∷ ts) e

times : (p : ProductPhrase) (more : Addends) (u : UnaryPhrase) → Grown ((product_tokens p ++ addend_tokens more) ++ token.Times ∷ unary_tokens u)
times p NoAddend u =
    let grown = product_grown p u in
    record {
      first = grown.0;
      more = NoAddend;
      are = append-nil (product_tokens grown.0) ∙ grown.1 ∙ ap (λ (ts : List Token). ts ++ token.Times ∷ unary_tokens u) (sym (append-nil (product_tokens p)));
    }
times p (Added q more) u =
    let grown = times q more u in
    record { first = p; more = Added grown.first grown.more; are = behind (product_tokens p) _ _ _ (ap (λ (ts : List Token). token.Plus ∷ ts) grown.are) }
times p (Subtracted q more) u =
    let grown = times q more u in
    record { first = p; more = Subtracted grown.first grown.more; are = behind (product_tokens p) _ _ _ (ap (λ (ts : List Token). token.Minus ∷ ts) grown.are) }

addends_grown : (more last : Addends) → (a : Addends) × (addend_tokens a ≡ addend_tokens more ++ addend_tokens last)
addends_grown NoAddend last = (last, refl)
addends_grown (Added p more) last =
    let grown = addends_grown more last in
    (Added p grown.0, ap (λ (ts : List Token). token.Plus ∷ ts) (behind (product_tokens p) _ _ _ grown.1))
addends_grown (Subtracted p more) last =
    let grown = addends_grown more last in
    (Subtracted p grown.0, ap (λ (ts : List Token). token.Minus ∷ ts) (behind (product_tokens p) _ _ _ grown.1))

pub with_times : (s : SumPhrase) (u : UnaryPhrase) → (a : SumPhrase) × (sum_tokens a ≡ sum_tokens s ++ token.Times ∷ unary_tokens u)
with_times (SumOf p more) u = let grown = times p more u in (SumOf grown.first grown.more, grown.are)

pub with_plus : (s : SumPhrase) (u : UnaryPhrase) → (a : SumPhrase) × (sum_tokens a ≡ sum_tokens s ++ token.Plus ∷ unary_tokens u)
with_plus (SumOf p more) u =
    let grown = addends_grown more (Added (lone_product u) NoAddend) in
    (SumOf p grown.0, behind (product_tokens p) _ _ _ (grown.1 ∙ ap (λ (ts : List Token). addend_tokens more ++ token.Plus ∷ ts) (lone_sum_tokens u)))

pub with_minus : (s : SumPhrase) (u : UnaryPhrase) → (a : SumPhrase) × (sum_tokens a ≡ sum_tokens s ++ token.Minus ∷ unary_tokens u)
with_minus (SumOf p more) u =
    let grown = addends_grown more (Subtracted (lone_product u) NoAddend) in
    (SumOf p grown.0, behind (product_tokens p) _ _ _ (grown.1 ∙ ap (λ (ts : List Token). addend_tokens more ++ token.Minus ∷ ts) (lone_sum_tokens u)))
