-- The tree that is built of a phrase is the phrase's, and what stands behind it is left.
use Rattle.std.proofs.Common.{◌≡◌, ℕ, zero, suc, ◌+◌, ◌*◌, ◌≤◌, List, [], ◌∷◌, ◌++◌, length, Option, Some, refl, sym, ap, ◌∙◌, append_assoc, append-nil, arith, length-append}
use Rattle.std.specs.Prelude.{option_and_then}
use Rattle.expr_tree.specs.Trees.{Tree, Join, Minus, Square, Absolute, Sum, Difference, Product, Least, Greatest}
use Rattle.expr_text.specs.declared.token.Token.{Token}
use Rattle.expr_text.specs.declared.token.Token.TheVariants as token
use Rattle.expr_text.specs.Grammar.{SumPhrase, SumOf, Addends, NoAddend, Added, Subtracted, ProductPhrase, ProductOf, Factors, NoFactor, Multiplied, UnaryPhrase, Negated, Plain, PrimaryPhrase, Literal, Symbol, Bracketed, SquareOf, AbsoluteOf, LeastOf, GreatestOf, RelationPhrase, sum_tokens, addend_tokens, product_tokens, factor_tokens, unary_tokens, primary_tokens, relation_tokens, phrase_relation, sum_tree, with_addends, product_tree, with_factors, unary_tree, primary_tree}
use Rattle.expr_text.specs.Descent.{closes, closes_two, with_unary, with_binary, sum_at, addends_at, product_at, factors_at, unary_at, second_at, ends, right_at, relation_at}

-- how many calls a phrase takes
abbrev mutual
  pub sum_calls : SumPhrase → ℕ
  sum_calls (SumOf p more) = 1 + (product_calls p + addend_calls more)

  addend_calls : Addends → ℕ
  addend_calls NoAddend = 1
  addend_calls (Added p more) = 1 + (product_calls p + addend_calls more)
  addend_calls (Subtracted p more) = 1 + (product_calls p + addend_calls more)

  product_calls : ProductPhrase → ℕ
  product_calls (ProductOf u more) = 1 + (unary_calls u + factor_calls more)

  factor_calls : Factors → ℕ
  factor_calls NoFactor = 1
  factor_calls (Multiplied u more) = 1 + (unary_calls u + factor_calls more)

  unary_calls : UnaryPhrase → ℕ
  unary_calls (Negated u) = 1 + unary_calls u
  unary_calls (Plain p) = primary_calls p

  primary_calls : PrimaryPhrase → ℕ
  primary_calls (Literal n) = 1
  primary_calls (Symbol name) = 1
  primary_calls (Bracketed a) = 1 + sum_calls a
  primary_calls (SquareOf a) = 2 + sum_calls a
  primary_calls (AbsoluteOf a) = 2 + sum_calls a
  primary_calls (LeastOf a b) = 3 + (sum_calls a + sum_calls b)
  primary_calls (GreatestOf a b) = 3 + (sum_calls a + sum_calls b)

two : (a b : SumPhrase) → sum_calls a ≤ 6 * length (sum_tokens a) → sum_calls b ≤ 6 * length (sum_tokens b) → 3 + (sum_calls a + sum_calls b) + 4 ≤ 6 * length (token.Min ∷ token.Open ∷ (sum_tokens a ++ token.Comma ∷ (sum_tokens b ++ token.Close ∷ [])))
two a b x y =
    let z = length-append (sum_tokens a) (token.Comma ∷ (sum_tokens b ++ token.Close ∷ [])) in
    let w = length-append (sum_tokens b) (token.Close ∷ []) in
    omega (arith, x, y, z, w)

-- six calls for each token are enough
mutual
  pub sum_calls-le : (a : SumPhrase) → sum_calls a ≤ 6 * length (sum_tokens a)
  sum_calls-le (SumOf p more) = let x = product_calls-le p in let y = addend_calls-le more in let z = length-append (product_tokens p) (addend_tokens more) in omega (arith, x, y, z)

  addend_calls-le : (a : Addends) → addend_calls a ≤ 6 * length (addend_tokens a) + 1
  addend_calls-le NoAddend = omega arith
  addend_calls-le (Added p more) = let x = product_calls-le p in let y = addend_calls-le more in let z = length-append (product_tokens p) (addend_tokens more) in omega (arith, x, y, z)
  addend_calls-le (Subtracted p more) = let x = product_calls-le p in let y = addend_calls-le more in let z = length-append (product_tokens p) (addend_tokens more) in omega (arith, x, y, z)

  product_calls-le : (p : ProductPhrase) → product_calls p + 2 ≤ 6 * length (product_tokens p)
  product_calls-le (ProductOf u more) = let x = unary_calls-le u in let y = factor_calls-le more in let z = length-append (unary_tokens u) (factor_tokens more) in omega (arith, x, y, z)

  factor_calls-le : (f : Factors) → factor_calls f ≤ 6 * length (factor_tokens f) + 1
  factor_calls-le NoFactor = omega arith
  factor_calls-le (Multiplied u more) = let x = unary_calls-le u in let y = factor_calls-le more in let z = length-append (unary_tokens u) (factor_tokens more) in omega (arith, x, y, z)

  unary_calls-le : (u : UnaryPhrase) → unary_calls u + 4 ≤ 6 * length (unary_tokens u)
  unary_calls-le (Negated u) = let x = unary_calls-le u in omega (arith, x)
  unary_calls-le (Plain p) = primary_calls-le p

  primary_calls-le : (p : PrimaryPhrase) → primary_calls p + 4 ≤ 6 * length (primary_tokens p)
  primary_calls-le (Literal n) = omega arith
  primary_calls-le (Symbol name) = omega arith
  primary_calls-le (Bracketed a) = let x = sum_calls-le a in let z = length-append (sum_tokens a) (token.Close ∷ []) in omega (arith, x, z)
  primary_calls-le (SquareOf a) = let x = sum_calls-le a in let z = length-append (sum_tokens a) (token.Close ∷ []) in omega (arith, x, z)
  primary_calls-le (AbsoluteOf a) = let x = sum_calls-le a in let z = length-append (sum_tokens a) (token.Close ∷ []) in omega (arith, x, z)
  primary_calls-le (LeastOf a b) = two a b (sum_calls-le a) (sum_calls-le b)
  primary_calls-le (GreatestOf a b) = two a b (sum_calls-le a) (sum_calls-le b)

-- what can stand behind a sum, and behind a product
abbrev pub EndsSum : List Token → Type 0
EndsSum [] = Unit {0}
EndsSum (token.Plus ∷ ts) = ⊥
EndsSum (token.Minus ∷ ts) = ⊥
EndsSum (token.Times ∷ ts) = ⊥
EndsSum (_ ∷ ts) = Unit {0}

abbrev EndsProduct : List Token → Type 0
EndsProduct [] = Unit {0}
EndsProduct (token.Times ∷ ts) = ⊥
EndsProduct (_ ∷ ts) = Unit {0}

addends_end : (n : ℕ) (left : Tree) (rest : List Token) → EndsSum rest → addends_at (suc n) left rest ≡ Some (left, rest)
unfolding addends_at
addends_end n left [] h = refl
addends_end n left (token.Number z ∷ ts) h = refl
addends_end n left (token.Name name ∷ ts) h = refl
addends_end n left (token.Sqr ∷ ts) h = refl
addends_end n left (token.Abs ∷ ts) h = refl
addends_end n left (token.Min ∷ ts) h = refl
addends_end n left (token.Max ∷ ts) h = refl
addends_end n left (token.Plus ∷ ts) h = absurd h
addends_end n left (token.Minus ∷ ts) h = absurd h
addends_end n left (token.Times ∷ ts) h = absurd h
addends_end n left (token.Open ∷ ts) h = refl
addends_end n left (token.Close ∷ ts) h = refl
addends_end n left (token.Comma ∷ ts) h = refl
addends_end n left (token.Compare op ∷ ts) h = refl

factors_end : (n : ℕ) (left : Tree) (rest : List Token) → EndsProduct rest → factors_at (suc n) left rest ≡ Some (left, rest)
unfolding factors_at
factors_end n left [] h = refl
factors_end n left (token.Number z ∷ ts) h = refl
factors_end n left (token.Name name ∷ ts) h = refl
factors_end n left (token.Sqr ∷ ts) h = refl
factors_end n left (token.Abs ∷ ts) h = refl
factors_end n left (token.Min ∷ ts) h = refl
factors_end n left (token.Max ∷ ts) h = refl
factors_end n left (token.Plus ∷ ts) h = refl
factors_end n left (token.Minus ∷ ts) h = refl
factors_end n left (token.Times ∷ ts) h = absurd h
factors_end n left (token.Open ∷ ts) h = refl
factors_end n left (token.Close ∷ ts) h = refl
factors_end n left (token.Comma ∷ ts) h = refl
factors_end n left (token.Compare op ∷ ts) h = refl

sum_ends_product : (rest : List Token) → EndsSum rest → EndsProduct rest
sum_ends_product [] h = tt
sum_ends_product (token.Number z ∷ ts) h = tt
sum_ends_product (token.Name name ∷ ts) h = tt
sum_ends_product (token.Sqr ∷ ts) h = tt
sum_ends_product (token.Abs ∷ ts) h = tt
sum_ends_product (token.Min ∷ ts) h = tt
sum_ends_product (token.Max ∷ ts) h = tt
sum_ends_product (token.Plus ∷ ts) h = tt
sum_ends_product (token.Minus ∷ ts) h = tt
sum_ends_product (token.Times ∷ ts) h = h
sum_ends_product (token.Open ∷ ts) h = tt
sum_ends_product (token.Close ∷ ts) h = tt
sum_ends_product (token.Comma ∷ ts) h = tt
sum_ends_product (token.Compare op ∷ ts) h = tt

addends_end_product : (more : Addends) (rest : List Token) → EndsSum rest → EndsProduct (addend_tokens more ++ rest)
addends_end_product NoAddend rest h = sum_ends_product rest h
addends_end_product (Added p more) rest h = tt
addends_end_product (Subtracted p more) rest h = tt

-- two readings, one after the other
chain : {A B : Type 0} (read : Option A) (next : A → Option B) (a : A) (b : B) → read ≡ Some a → next a ≡ Some b → option_and_then next read ≡ Some b
chain read next a b h k = ap (option_and_then next) h ∙ k

mutual
  unfolding sum_at

  pub sum_built : (a : SumPhrase) (n : ℕ) (rest : List Token) → sum_calls a ≤ n → EndsSum rest → sum_at n (sum_tokens a ++ rest) ≡ Some (sum_tree a, rest)
  sum_built (SumOf p more) zero rest h e = absurd (omega arith)
  sum_built (SumOf p more) (suc n) rest h e =
      ap (sum_at (suc n)) (append_assoc (product_tokens p) (addend_tokens more) rest)
      ∙ chain (product_at n (product_tokens p ++ (addend_tokens more ++ rest))) (λ q. addends_at n q.0 q.1) (product_tree p, addend_tokens more ++ rest) (with_addends more (product_tree p), rest)
      (product_built p n (addend_tokens more ++ rest) (omega arith) (addends_end_product more rest e))
      (addends_built more n (product_tree p) rest (omega arith) e)

  addends_built : (more : Addends) (n : ℕ) (left : Tree) (rest : List Token) → addend_calls more ≤ n → EndsSum rest → addends_at n left (addend_tokens more ++ rest) ≡ Some (with_addends more left, rest)
  addends_built NoAddend zero left rest h e = absurd (omega arith)
  addends_built NoAddend (suc n) left rest h e = addends_end n left rest e
  addends_built (Added p more) zero left rest h e = absurd (omega arith)
  addends_built (Added p more) (suc n) left rest h e =
      ap (λ (ts : List Token). addends_at (suc n) left (token.Plus ∷ ts)) (append_assoc (product_tokens p) (addend_tokens more) rest)
      ∙ chain (product_at n (product_tokens p ++ (addend_tokens more ++ rest))) (λ q. addends_at n (Join Sum left q.0) q.1) (product_tree p, addend_tokens more ++ rest) (with_addends more (Join Sum left (product_tree p)), rest)
      (product_built p n (addend_tokens more ++ rest) (omega arith) (addends_end_product more rest e))
      (addends_built more n (Join Sum left (product_tree p)) rest (omega arith) e)
  addends_built (Subtracted p more) zero left rest h e = absurd (omega arith)
  addends_built (Subtracted p more) (suc n) left rest h e =
      ap (λ (ts : List Token). addends_at (suc n) left (token.Minus ∷ ts)) (append_assoc (product_tokens p) (addend_tokens more) rest)
      ∙ chain (product_at n (product_tokens p ++ (addend_tokens more ++ rest))) (λ q. addends_at n (Join Difference left q.0) q.1) (product_tree p, addend_tokens more ++ rest) (with_addends more (Join Difference left (product_tree p)), rest)
      (product_built p n (addend_tokens more ++ rest) (omega arith) (addends_end_product more rest e))
      (addends_built more n (Join Difference left (product_tree p)) rest (omega arith) e)

  product_built : (p : ProductPhrase) (n : ℕ) (rest : List Token) → product_calls p ≤ n → EndsProduct rest → product_at n (product_tokens p ++ rest) ≡ Some (product_tree p, rest)
  product_built (ProductOf u more) zero rest h e = absurd (omega arith)
  product_built (ProductOf u more) (suc n) rest h e =
      ap (product_at (suc n)) (append_assoc (unary_tokens u) (factor_tokens more) rest)
      ∙ chain (unary_at n (unary_tokens u ++ (factor_tokens more ++ rest))) (λ q. factors_at n q.0 q.1) (unary_tree u, factor_tokens more ++ rest) (with_factors more (unary_tree u), rest)
      (unary_built u n (factor_tokens more ++ rest) (omega arith))
      (factors_built more n (unary_tree u) rest (omega arith) e)

  factors_built : (more : Factors) (n : ℕ) (left : Tree) (rest : List Token) → factor_calls more ≤ n → EndsProduct rest → factors_at n left (factor_tokens more ++ rest) ≡ Some (with_factors more left, rest)
  factors_built NoFactor zero left rest h e = absurd (omega arith)
  factors_built NoFactor (suc n) left rest h e = factors_end n left rest e
  factors_built (Multiplied u more) zero left rest h e = absurd (omega arith)
  factors_built (Multiplied u more) (suc n) left rest h e =
      ap (λ (ts : List Token). factors_at (suc n) left (token.Times ∷ ts)) (append_assoc (unary_tokens u) (factor_tokens more) rest)
      ∙ chain (unary_at n (unary_tokens u ++ (factor_tokens more ++ rest))) (λ q. factors_at n (Join Product left q.0) q.1) (unary_tree u, factor_tokens more ++ rest) (with_factors more (Join Product left (unary_tree u)), rest)
      (unary_built u n (factor_tokens more ++ rest) (omega arith))
      (factors_built more n (Join Product left (unary_tree u)) rest (omega arith) e)

  unary_built : (u : UnaryPhrase) (n : ℕ) (rest : List Token) → unary_calls u ≤ n → unary_at n (unary_tokens u ++ rest) ≡ Some (unary_tree u, rest)
  unary_built (Negated u) zero rest h = absurd (omega arith)
  unary_built (Negated u) (suc n) rest h = ap (with_unary Minus) (unary_built u n rest (omega arith))
  unary_built (Plain p) n rest h = primary_built p n rest h

  primary_built : (p : PrimaryPhrase) (n : ℕ) (rest : List Token) → primary_calls p ≤ n → unary_at n (primary_tokens p ++ rest) ≡ Some (primary_tree p, rest)
  primary_built (Literal z) zero rest h = absurd (omega arith)
  primary_built (Literal z) (suc n) rest h = refl
  primary_built (Symbol name) zero rest h = absurd (omega arith)
  primary_built (Symbol name) (suc n) rest h = refl
  primary_built (Bracketed a) zero rest h = absurd (omega arith)
  primary_built (Bracketed a) (suc n) rest h = ap (λ (ts : List Token). unary_at (suc n) (token.Open ∷ ts)) (append_assoc (sum_tokens a) (token.Close ∷ []) rest) ∙ ap (option_and_then (λ p. closes p.0 p.1)) (sum_built a n (token.Close ∷ rest) (omega arith) tt)
  primary_built (SquareOf a) zero rest h = absurd (omega arith)
  primary_built (SquareOf a) (suc zero) rest h = absurd (omega arith)
  primary_built (SquareOf a) (suc (suc n)) rest h = ap (λ (ts : List Token). unary_at (suc (suc n)) (token.Sqr ∷ token.Open ∷ ts)) (append_assoc (sum_tokens a) (token.Close ∷ []) rest) ∙ ap (λ r. with_unary Square (option_and_then (λ p. closes p.0 p.1) r)) (sum_built a n (token.Close ∷ rest) (omega arith) tt)
  primary_built (AbsoluteOf a) zero rest h = absurd (omega arith)
  primary_built (AbsoluteOf a) (suc zero) rest h = absurd (omega arith)
  primary_built (AbsoluteOf a) (suc (suc n)) rest h = ap (λ (ts : List Token). unary_at (suc (suc n)) (token.Abs ∷ token.Open ∷ ts)) (append_assoc (sum_tokens a) (token.Close ∷ []) rest) ∙ ap (λ r. with_unary Absolute (option_and_then (λ p. closes p.0 p.1) r)) (sum_built a n (token.Close ∷ rest) (omega arith) tt)
  primary_built (LeastOf a b) zero rest h = absurd (omega arith)
  primary_built (LeastOf a b) (suc zero) rest h = absurd (omega arith)
  primary_built (LeastOf a b) (suc (suc zero)) rest h = absurd (omega arith)
  primary_built (LeastOf a b) (suc (suc (suc n))) rest h =
      let tail = token.Comma ∷ (sum_tokens b ++ token.Close ∷ []) in
      ap (λ (ts : List Token). unary_at (suc (suc (suc n))) (token.Min ∷ token.Open ∷ ts)) (append_assoc (sum_tokens a) tail rest ∙ ap (λ (ts : List Token). sum_tokens a ++ token.Comma ∷ ts) (append_assoc (sum_tokens b) (token.Close ∷ []) rest))
      ∙ ap (λ r. with_binary Least (option_and_then (λ p. second_at (suc n) p.0 p.1) r)) (sum_built a (suc n) (token.Comma ∷ (sum_tokens b ++ token.Close ∷ rest)) (omega arith) tt)
      ∙ ap (λ r. with_binary Least (option_and_then (λ p. closes_two (sum_tree a) p.0 p.1) r)) (sum_built b n (token.Close ∷ rest) (omega arith) tt)
  primary_built (GreatestOf a b) zero rest h = absurd (omega arith)
  primary_built (GreatestOf a b) (suc zero) rest h = absurd (omega arith)
  primary_built (GreatestOf a b) (suc (suc zero)) rest h = absurd (omega arith)
  primary_built (GreatestOf a b) (suc (suc (suc n))) rest h =
      let tail = token.Comma ∷ (sum_tokens b ++ token.Close ∷ []) in
      ap (λ (ts : List Token). unary_at (suc (suc (suc n))) (token.Max ∷ token.Open ∷ ts)) (append_assoc (sum_tokens a) tail rest ∙ ap (λ (ts : List Token). sum_tokens a ++ token.Comma ∷ ts) (append_assoc (sum_tokens b) (token.Close ∷ []) rest))
      ∙ ap (λ r. with_binary Greatest (option_and_then (λ p. second_at (suc n) p.0 p.1) r)) (sum_built a (suc n) (token.Comma ∷ (sum_tokens b ++ token.Close ∷ rest)) (omega arith) tt)
      ∙ ap (λ r. with_binary Greatest (option_and_then (λ p. closes_two (sum_tree a) p.0 p.1) r)) (sum_built b n (token.Close ∷ rest) (omega arith) tt)

pub relation_built : (r : RelationPhrase) → relation_at (6 * length (relation_tokens r)) (relation_tokens r) ≡ Some (phrase_relation r)
unfolding relation_at
relation_built r =
    let n = 6 * length (relation_tokens r) in
    let x = sum_calls-le r.left in
    let y = sum_calls-le r.right in
    let z = length-append (sum_tokens r.left) (token.Compare r.op ∷ sum_tokens r.right) in
    let left : sum_calls r.left ≤ n = omega (arith, x, z) in
    let right : sum_calls r.right ≤ n = omega (arith, y, z) in
    ap (option_and_then (λ p. right_at (sum_at n) p.0 p.1)) (sum_built r.left n (token.Compare r.op ∷ sum_tokens r.right) left tt)
    ∙ ap (λ (ts : List Token). option_and_then (λ p. ends r.op (sum_tree r.left) p.0 p.1) (sum_at n ts)) (sym (append-nil (sum_tokens r.right)))
    ∙ ap (option_and_then (λ p. ends r.op (sum_tree r.left) p.0 p.1)) (sum_built r.right n [] right tt)
