-- The definitions at worked texts.
use Rattle.std.proofs.Common.{◌≡◌, List, [], ◌∷◌, ◌++◌, Option, Some, None, false, refl, sym, subst}
use Rattle.std.specs.Prelude.{ℕ, codes}
use Rattle.expr_tree.specs.declared.RelOp.TheVariants as relop
use Rattle.expr_tree.specs.Trees.{Named, Apply, Join, Difference, Least, Minus, Product}
use Rattle.expr_text.specs.declared.token.Token.{Token}
use Rattle.expr_text.specs.declared.token.Token.TheVariants as token
use Rattle.expr_text.specs.declared.acceptor.Wanted.TheVariants as wanted
use Rattle.expr_text.specs.Spelling.{symbol_at, token_at, word_at, function_of}
use Rattle.expr_text.specs.Grammar.{SumOf, NoAddend, Subtracted, ProductOf, NoFactor, Plain, ProductPhrase, Symbol, SumPhrase, sum_tree}
use Rattle.expr_text.specs.Reading.{CanBegin, FaultAt, most_open}
use Rattle.expr_text.specs.Acceptor.{state, step}
use Rattle.expr_text.specs.Canonical.{relation_text}
use Rattle.expr_text.proofs.Verdicts.{not_taken, taken}

name : List ℕ → ProductPhrase
name text = ProductOf (Plain (Symbol text)) NoFactor

-- a-b-c
two_differences : SumPhrase
two_differences = SumOf (name (codes "a")) (Subtracted (name (codes "b")) (Subtracted (name (codes "c")) NoAddend))

-- means (a-b)-c
grouped_left : sum_tree two_differences ≡ Join Difference (Join Difference (Named (codes "a")) (Named (codes "b"))) (Named (codes "c"))
unfolding two_differences name
grouped_left = refl

-- the longest token
with_coordinate : token_at (codes "x.xy=1") ≡ Some (token.Name (codes "x.x"), 3)
unfolding token_at word_at
with_coordinate = refl

at_most : token_at (codes "<=1") ≡ Some (token.Compare relop.Le, 2)
unfolding token_at symbol_at
at_most = refl

function_first : token_at (codes "sqr.x") ≡ Some (token.Sqr, 3)
unfolding token_at word_at function_of
function_first = refl

-- three brackets, two at one time
brackets : most_open 0 (token.Open ∷ token.Open ∷ token.Close ∷ token.Open ∷ token.Close ∷ token.Close ∷ []) ≡ 2
brackets = refl

-- (min(x,y)*x)<=(-y)
printed : relation_text (record { op = relop.Le; left = Join Product (Join Least (Named (codes "x")) (Named (codes "y"))) (Named (codes "x")); right = Apply Minus (Named (codes "y")) }) ≡ codes "(min(x,y)*x)<=(-y)"
printed = refl

-- x+*2=1 has its first fault at 2: behind x+ no relation goes on with *
third_byte : FaultAt (codes "x+*2=1") 2
unfolding token_at word_at symbol_at step
third_byte =
    let before = token.Name (codes "x") ∷ token.Plus ∷ [] in
    record {
      tokens = before;
      rest = codes "*2=1";
      begins = (1, refl, (1, refl, refl));
      viable = taken (state wanted.Operand [] false) before refl;
      stops = λ t size e b. not_taken (state wanted.Operand [] false) before token.Times refl refl (subst (λ (v : Token). CanBegin (before ++ v ∷ [])) (sym (first (token.Times, 1) (t, size) e)) b);
      place_is = refl;
    }
  where
    first : (a b : Token × ℕ) → Some a ≡ Some b → a.0 ≡ b.0
    first a b e = let P : Option (Token × ℕ) → Type 0 = elim [ Some x ↦ a.0 ≡ x.0 | None ↦ Unit {0} ] in subst P e refl
