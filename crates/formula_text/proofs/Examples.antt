-- What some texts say.
use Rattle.std.proofs.Common.{◌≡◌, true, Ok, Err, pos, refl}
use Rattle.std.specs.Prelude.{codes, is_ok}
use Rattle.expr_tree.specs.declared.RelOp.TheVariants as relop
use Rattle.expr_tree.specs.Trees.{Number, Named, Apply, Join, Minus, Product, Least}
use Rattle.expr_text.specs.Acceptor.{step}
use Rattle.expr_text.specs.Descent.{relation_at, sum_at}
use Rattle.expr_text.specs.Spelling.{token_at, number_at, word_at, symbol_at, function_of}
use Rattle.formula_text.specs.Readings.{Deep, Text, reading_of}
use Rattle.formula_text.specs.Tokens.{tokens_of}

-- a product of a function's value, with spaces between its tokens
product_of_a_least : reading_of (codes " min( x,b1.y )*x <=-3 ") ≡ Ok (record { op = relop.Le; left = Join Product (Join Least (Named (codes "x")) (Named (codes "b1.y"))) (Named (codes "x")); right = Apply Minus (Number (pos 3)) })
unfolding reading_of tokens_of step relation_at sum_at token_at number_at word_at symbol_at function_of
product_of_a_least = refl

-- a text that ends too early, one with a byte that begins no token, and one with two comparisons
ends_early : reading_of (codes "x<") ≡ Err Text
unfolding reading_of tokens_of step relation_at sum_at token_at number_at word_at symbol_at function_of
ends_early = refl

no_token : reading_of (codes "x=1;") ≡ Err Text
unfolding reading_of tokens_of step relation_at sum_at token_at number_at word_at symbol_at function_of
no_token = refl

two_comparisons : reading_of (codes "x<y<z") ≡ Err Text
unfolding reading_of tokens_of step relation_at sum_at token_at number_at word_at symbol_at function_of
two_comparisons = refl

-- thirty-one nodes on the way to a name, and thirty-two
deepest : is_ok (reading_of (codes "------------------------------x=1")) ≡ true
unfolding reading_of tokens_of step relation_at sum_at token_at number_at word_at symbol_at function_of
deepest = refl

too_deep : reading_of (codes "-------------------------------x=1") ≡ Err Deep
unfolding reading_of tokens_of step relation_at sum_at token_at number_at word_at symbol_at function_of
too_deep = refl

-- thirty-two brackets open at one time, and one more
most_brackets : reading_of (codes "((((((((((((((((((((((((((((((((x))))))))))))))))))))))))))))))))=1") ≡ reading_of (codes "x=1")
unfolding reading_of tokens_of step relation_at sum_at token_at number_at word_at symbol_at function_of
most_brackets = refl

too_many_brackets : reading_of (codes "(((((((((((((((((((((((((((((((((x)))))))))))))))))))))))))))))))))=1") ≡ Err Deep
unfolding reading_of tokens_of step relation_at sum_at token_at number_at word_at symbol_at function_of
too_many_brackets = refl
