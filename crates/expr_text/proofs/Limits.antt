-- The tokens of a phrase make as many nodes as its tree has.
use Rattle.std.proofs.Common.{◌≡◌, ℕ, ◌+◌, List, [], ◌∷◌, ◌++◌, refl, sym, ap, ◌∙◌, arith}
use Rattle.std.specs.Prelude.{sum_by}
use Rattle.std.proofs.lemmas.List.Sums.{sum_by-append, sum_by-cons}
use Rattle.expr_tree.specs.Trees.{Tree, Join, Sum, Difference, Product}
use Rattle.expr_tree.specs.Measures.{nodes, relation_nodes}
use Rattle.expr_text.specs.declared.token.Token.{Token}
use Rattle.expr_text.specs.declared.token.Token.TheVariants as token
use Rattle.expr_text.specs.Grammar.{SumPhrase, SumOf, Addends, NoAddend, Added, Subtracted, ProductPhrase, ProductOf, Factors, NoFactor, Multiplied, UnaryPhrase, Negated, Plain, PrimaryPhrase, Literal, Symbol, Bracketed, SquareOf, AbsoluteOf, LeastOf, GreatestOf, RelationPhrase, sum_tokens, addend_tokens, product_tokens, factor_tokens, unary_tokens, primary_tokens, relation_tokens, phrase_relation, sum_tree, with_addends, product_tree, with_factors, unary_tree, primary_tree}
use Rattle.expr_text.specs.Reading.{token_nodes}

abbrev made : List Token → ℕ
made ts = sum_by token_nodes ts

first : (t : Token) (ts : List Token) → made (t ∷ ts) ≡ token_nodes t + made ts
first t ts = sum_by-cons token_nodes t ts

both : (xs ys : List Token) → made (xs ++ ys) ≡ made xs + made ys
both xs ys = sum_by-append token_nodes xs ys

none : made [] ≡ 0
none = refl

-- brackets and commas make none
close_nodes : (a : SumPhrase) → made (sum_tokens a ++ token.Close ∷ []) ≡ made (sum_tokens a)
close_nodes a = omega (arith, both (sum_tokens a) (token.Close ∷ []), first token.Close [], none)

bracket_nodes : (a : SumPhrase) → made (token.Open ∷ (sum_tokens a ++ token.Close ∷ [])) ≡ made (sum_tokens a)
bracket_nodes a = omega (arith, close_nodes a, first token.Open (sum_tokens a ++ token.Close ∷ []))

pair_nodes : (a b : SumPhrase) → made (token.Open ∷ (sum_tokens a ++ token.Comma ∷ (sum_tokens b ++ token.Close ∷ []))) ≡ made (sum_tokens a) + made (sum_tokens b)
pair_nodes a b =
    let tail = sum_tokens b ++ token.Close ∷ [] in
    omega (arith, close_nodes b, first token.Open (sum_tokens a ++ token.Comma ∷ tail), both (sum_tokens a) (token.Comma ∷ tail), first token.Comma tail)

mutual
  pub sum_nodes : (a : SumPhrase) → nodes (sum_tree a) ≡ made (sum_tokens a)
  sum_nodes (SumOf p more) =
      addends_nodes more (product_tree p) ∙ ap (λ n. n + made (addend_tokens more)) (product_nodes p) ∙ sym (both (product_tokens p) (addend_tokens more))

  addends_nodes : (more : Addends) (left : Tree) → nodes (with_addends more left) ≡ nodes left + made (addend_tokens more)
  addends_nodes NoAddend left = omega (arith, none)
  addends_nodes (Added p more) left =
      let x = addends_nodes more (Join Sum left (product_tree p)) in
      let y = product_nodes p in
      omega (arith, x, y, first token.Plus (product_tokens p ++ addend_tokens more), both (product_tokens p) (addend_tokens more))
  addends_nodes (Subtracted p more) left =
      let x = addends_nodes more (Join Difference left (product_tree p)) in
      let y = product_nodes p in
      omega (arith, x, y, first token.Minus (product_tokens p ++ addend_tokens more), both (product_tokens p) (addend_tokens more))

  product_nodes : (p : ProductPhrase) → nodes (product_tree p) ≡ made (product_tokens p)
  product_nodes (ProductOf u more) =
      factors_nodes more (unary_tree u) ∙ ap (λ n. n + made (factor_tokens more)) (unary_nodes u) ∙ sym (both (unary_tokens u) (factor_tokens more))

  factors_nodes : (more : Factors) (left : Tree) → nodes (with_factors more left) ≡ nodes left + made (factor_tokens more)
  factors_nodes NoFactor left = omega (arith, none)
  factors_nodes (Multiplied u more) left =
      let x = factors_nodes more (Join Product left (unary_tree u)) in
      let y = unary_nodes u in
      omega (arith, x, y, first token.Times (unary_tokens u ++ factor_tokens more), both (unary_tokens u) (factor_tokens more))

  unary_nodes : (u : UnaryPhrase) → nodes (unary_tree u) ≡ made (unary_tokens u)
  unary_nodes (Negated u) = let x = unary_nodes u in omega (arith, x, first token.Minus (unary_tokens u))
  unary_nodes (Plain p) = primary_nodes p

  primary_nodes : (p : PrimaryPhrase) → nodes (primary_tree p) ≡ made (primary_tokens p)
  primary_nodes (Literal n) = omega (arith, first (token.Number n) [], none)
  primary_nodes (Symbol name) = omega (arith, first (token.Name name) [], none)
  primary_nodes (Bracketed a) = let x = sum_nodes a in omega (arith, x, bracket_nodes a)
  primary_nodes (SquareOf a) = let x = sum_nodes a in omega (arith, x, bracket_nodes a, first token.Sqr (token.Open ∷ (sum_tokens a ++ token.Close ∷ [])))
  primary_nodes (AbsoluteOf a) = let x = sum_nodes a in omega (arith, x, bracket_nodes a, first token.Abs (token.Open ∷ (sum_tokens a ++ token.Close ∷ [])))
  primary_nodes (LeastOf a b) = let x = sum_nodes a in let y = sum_nodes b in omega (arith, x, y, pair_nodes a b, first token.Min (token.Open ∷ (sum_tokens a ++ token.Comma ∷ (sum_tokens b ++ token.Close ∷ []))))
  primary_nodes (GreatestOf a b) = let x = sum_nodes a in let y = sum_nodes b in omega (arith, x, y, pair_nodes a b, first token.Max (token.Open ∷ (sum_tokens a ++ token.Comma ∷ (sum_tokens b ++ token.Close ∷ []))))

pub phrase_nodes : (r : RelationPhrase) → relation_nodes (phrase_relation r) ≡ made (relation_tokens r)
phrase_nodes r =
    let x = sum_nodes r.left in
    let y = sum_nodes r.right in
    omega (arith, x, y, both (sum_tokens r.left) (token.Compare r.op ∷ sum_tokens r.right), first (token.Compare r.op) (sum_tokens r.right))
