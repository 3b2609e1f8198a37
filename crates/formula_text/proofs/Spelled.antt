-- What the tokens of a text spell has a spelling: numbers of at most eighteen digits, and references.
use Rattle.std.proofs.Common.{◌≡◌, ℕ, suc, ◌+◌, ◌-◌, ◌*◌, ◌^◌, ◌<◌, ◌≤◌, ◌==◌, ◌&&◌, ◌||◌, ◌⊎◌, inl, inr, Bool, true, false, cond, List, [], ◌∷◌, ◌++◌, length, take, drop, Option, Some, None, refl, ap, ◌∙◌, subst, arith, nat_le}
use Rattle.std.specs.Prelude.{bytes_eq, codes, option_map, pos, slice_index}
use Rattle.std.specs.List.{list_all, prefix_len}
use Rattle.std.proofs.Math.Nat.{pow-succ'}
use Rattle.std.proofs.Math.Seq.{take-add}
use Rattle.std.proofs.lemmas.Bool.Decides.{nat_tests}
use Rattle.log_spelling.specs.Names.{is_letter, is_name, is_name_byte}
use Rattle.log_spelling.specs.Numbers.{are_digits, digits_value, is_digit, magnitude_of}
use Rattle.log_spelling.proofs.Bounds.{below_18}
use Rattle.expr_tree.specs.Trees.{Tree, Number, Join, Sum, Difference, Product}
use Rattle.expr_text.specs.declared.token.Token.{Token}
use Rattle.expr_text.specs.declared.token.Token.TheVariants as token
use Rattle.expr_text.specs.Spelling.{Found, function_of, is_coordinate, number_at, symbol_at, token_at, without_spaces, word_at}
use Rattle.expr_text.specs.Spellable.{IsPrintable, IsReference, IsSpellable}
use Rattle.expr_text.specs.Reading.{Begins, IsWithinLimits, Spells}
use Rattle.expr_text.specs.Grammar.{SumPhrase, Addends, ProductPhrase, Factors, UnaryPhrase, PrimaryPhrase, RelationPhrase, SumOf, NoAddend, Added, Subtracted, ProductOf, NoFactor, Multiplied, Negated, Plain, Literal, Symbol, Bracketed, SquareOf, AbsoluteOf, LeastOf, GreatestOf, sum_tokens, addend_tokens, product_tokens, factor_tokens, unary_tokens, primary_tokens, relation_tokens, sum_tree, with_addends, product_tree, with_factors, unary_tree, primary_tree, phrase_relation}
use Rattle.expr_text.proofs.Words.{and_parts}

-- the number or the name of a token has a spelling
abbrev pub IsSpelled : Token → Type 0
IsSpelled (token.Number n) = IsSpellable (Number n)
IsSpelled (token.Name name) = IsReference name
IsSpelled _ = Unit {0}

abbrev Spelled : Found → Type 0
Spelled None = Unit {0}
Spelled (Some found) = IsSpelled found.0

pick : {A : Type 0} (P : A → Type 0) (b : Bool) (x y : A) → (b ≡ true → P x) → (b ≡ false → P y) → P (cond b x y)
pick P true x y h k = h refl
pick P false x y h k = k refl

-- digits behind a number of so many digits
digits_below : (ds : List ℕ) (n i m : ℕ) → list_all is_digit ds ≡ true → n < 10 ^ i → m ≡ i + length ds → digits_value n ds < 10 ^ m
digits_below [] n i m h k e = subst (λ j. n < 10 ^ j) (omega arith) k
digits_below (d ∷ ds) n i m h k e =
    let both = and_parts (is_digit d) (list_all is_digit ds) h in
    let digit : d ≤ 57 = at_most d both.0 in
    let next : 10 * n + (d - 48) < 10 ^ suc i = omega (arith, digit, k, pow-succ' 10 i) in
    digits_below ds (10 * n + (d - 48)) (suc i) m both.1 next (omega (arith, e))
  where
    at_most : (c : ℕ) → is_digit c ≡ true → c ≤ 57
    at_most c h = grind (arith, nat_tests)

at_most_18 : (n : ℕ) → nat_le n 18 ≡ true → n ≤ 18
at_most_18 n h = grind (arith, nat_tests)

magnitude_small : (ds : List ℕ) (n : ℕ) → magnitude_of ds ≡ Some n → n < 1000000000000000000
magnitude_small ds n e = at (are_digits ds) refl e
  where
    same : (a b : ℕ) → Some a ≡ Some b → a ≡ b
    same a b e = cc

    at : (b : Bool) → are_digits ds ≡ b → cond b (Some (digits_value 0 ds)) None ≡ Some n → n < 1000000000000000000
    at false h k = cc
    at true h k =
        let some = and_parts (nat_le 1 (length ds)) (nat_le (length ds) 18 && list_all is_digit ds) h in
        let rest = and_parts (nat_le (length ds) 18) (list_all is_digit ds) some.1 in
        let few : length ds ≤ 18 = at_most_18 (length ds) rest.0 in
        let below = digits_below ds 0 0 (length ds) rest.1 (omega arith) (omega arith) in
        let small = below_18 (digits_value 0 ds) (length ds) below few in
        subst (λ x. x < 1000000000000000000) (same (digits_value 0 ds) n k) small

number_spelled : (text : List ℕ) → Spelled (number_at text)
unfolding number_at
number_spelled text = of (magnitude_of (take (prefix_len is_digit text) text)) refl
  where
    of : (m : Option ℕ) → magnitude_of (take (prefix_len is_digit text) text) ≡ m → Spelled (option_map (λ value. (token.Number (pos value), prefix_len is_digit text)) m)
    of None e = tt
    of (Some value) e = magnitude_small (take (prefix_len is_digit text) text) value e

-- the two bytes of a coordinate
or_parts : (a b : Bool) → (a || b) ≡ true → (a ≡ true) ⊎ (b ≡ true)
or_parts true b e = inl refl
or_parts false b e = inr e

is_byte : (c d : ℕ) → (c == d) ≡ true → c ≡ d
is_byte c d e = grind (arith, nat_tests)

coordinate_is : (text : List ℕ) → is_coordinate text ≡ true → (take 2 text ≡ codes ".x") ⊎ (take 2 text ≡ codes ".y")
coordinate_is [] h = cc
coordinate_is (a ∷ []) h = absurd (no (a == 46) h)
  where
    no : (b : Bool) → (b && false) ≡ true → ⊥
    no true e = cc
    no false e = cc
coordinate_is (a ∷ b ∷ cs) h =
    let both = and_parts (a == 46) ((b == 120) || (b == 121)) h in
    let dot = is_byte a 46 both.0 in
    elim (or_parts (b == 120) (b == 121) both.1) [
      | inl e ↦ inl (two dot (is_byte b 120 e))
      | inr e ↦ inr (two dot (is_byte b 121 e))
    ]
  where
    two : {x y : ℕ} → a ≡ x → b ≡ y → take 2 (a ∷ b ∷ cs) ≡ x ∷ y ∷ []
    two p q = λ i. p i ∷ q i ∷ []

function_spelled : (word : List ℕ) (size : ℕ) → Spelled (option_map (λ (f : Token). (f, size)) (function_of word))
unfolding function_of
function_spelled word size =
    let P : Option Token → Type 0 = λ m. Spelled (option_map (λ (f : Token). (f, size)) m) in
    pick P (bytes_eq word (codes "sqr")) _ _ (λ _. tt) (λ _.
    pick P (bytes_eq word (codes "abs")) _ _ (λ _. tt) (λ _.
    pick P (bytes_eq word (codes "min")) _ _ (λ _. tt) (λ _.
    pick P (bytes_eq word (codes "max")) _ _ (λ _. tt) (λ _. tt))))

word_spelled : (text : List ℕ) → Spelled (word_at text)
unfolding word_at
word_spelled text =
    let n = prefix_len is_name_byte text in
    pick Spelled (is_name (take n text)) _ _
    (λ named. pick Spelled (is_coordinate (drop n text)) _ _ (λ e. inr (take n text, named, coordinate n (coordinate_is (drop n text) e))) (λ _. inl named))
    (λ _. function_spelled (take n text) n)
  where
    coordinate : (n : ℕ) → (take 2 (drop n text) ≡ codes ".x") ⊎ (take 2 (drop n text) ≡ codes ".y") → (take (n + 2) text ≡ take n text ++ codes ".x") ⊎ (take (n + 2) text ≡ take n text ++ codes ".y")
    coordinate n (inl e) = inl (take-add n 2 text ∙ ap (λ (xs : List ℕ). take n text ++ xs) e)
    coordinate n (inr e) = inr (take-add n 2 text ∙ ap (λ (xs : List ℕ). take n text ++ xs) e)

symbol_spelled : (c next : ℕ) → Spelled (symbol_at c next)
unfolding symbol_at
symbol_spelled c next =
    pick Spelled (c == 43) _ _ (λ _. tt) (λ _.
    pick Spelled (c == 45) _ _ (λ _. tt) (λ _.
    pick Spelled (c == 42) _ _ (λ _. tt) (λ _.
    pick Spelled (c == 40) _ _ (λ _. tt) (λ _.
    pick Spelled (c == 41) _ _ (λ _. tt) (λ _.
    pick Spelled (c == 44) _ _ (λ _. tt) (λ _.
    pick Spelled (c == 61) _ _ (λ _. tt) (λ _.
    pick Spelled (c == 60) _ _ (λ _. pick Spelled (next == 61) _ _ (λ _. tt) (λ _. tt)) (λ _.
    pick Spelled (c == 62) _ _ (λ _. pick Spelled (next == 61) _ _ (λ _. tt) (λ _. tt)) (λ _. tt)))))))))

spelled_at : (text : List ℕ) → Spelled (token_at text)
unfolding token_at
spelled_at text =
    pick Spelled (is_digit (slice_index text 0)) _ _ (λ _. number_spelled text) (λ _.
    pick Spelled (is_letter (slice_index text 0)) _ _ (λ _. word_spelled text) (λ _. symbol_spelled (slice_index text 0) (slice_index text 1)))

abbrev pub AreSpelled : List Token → Type 0
AreSpelled [] = Unit {0}
AreSpelled (t ∷ ts) = IsSpelled t × AreSpelled ts

-- the tokens that a text begins with
pub all_spelled : (text : List ℕ) (ts : List Token) (rest : List ℕ) → Begins text ts rest → AreSpelled ts
all_spelled text [] rest b = tt
all_spelled text (t ∷ ts) rest b = (subst Spelled b.1 (spelled_at (without_spaces text)), all_spelled (drop b.0 (without_spaces text)) ts rest b.2)

-- of some tokens and more
split : (xs ys : List Token) → AreSpelled (xs ++ ys) → AreSpelled xs × AreSpelled ys
split [] ys h = (tt, h)
split (x ∷ xs) ys h = let s = split xs ys h.1 in ((h.0, s.0), s.1)

mutual
  sum_spelled : (a : SumPhrase) → AreSpelled (sum_tokens a) → IsSpellable (sum_tree a)
  sum_spelled (SumOf p more) h =
      let s = split (product_tokens p) (addend_tokens more) h in
      addends_spelled more (product_tree p) (product_spelled p s.0) s.1

  addends_spelled : (more : Addends) (left : Tree) → IsSpellable left → AreSpelled (addend_tokens more) → IsSpellable (with_addends more left)
  addends_spelled NoAddend left l h = l
  addends_spelled (Added p more) left l h =
      let s = split (product_tokens p) (addend_tokens more) h.1 in
      addends_spelled more (Join Sum left (product_tree p)) (l, product_spelled p s.0) s.1
  addends_spelled (Subtracted p more) left l h =
      let s = split (product_tokens p) (addend_tokens more) h.1 in
      addends_spelled more (Join Difference left (product_tree p)) (l, product_spelled p s.0) s.1

  product_spelled : (p : ProductPhrase) → AreSpelled (product_tokens p) → IsSpellable (product_tree p)
  product_spelled (ProductOf u more) h =
      let s = split (unary_tokens u) (factor_tokens more) h in
      factors_spelled more (unary_tree u) (unary_spelled u s.0) s.1

  factors_spelled : (more : Factors) (left : Tree) → IsSpellable left → AreSpelled (factor_tokens more) → IsSpellable (with_factors more left)
  factors_spelled NoFactor left l h = l
  factors_spelled (Multiplied u more) left l h =
      let s = split (unary_tokens u) (factor_tokens more) h.1 in
      factors_spelled more (Join Product left (unary_tree u)) (l, unary_spelled u s.0) s.1

  unary_spelled : (u : UnaryPhrase) → AreSpelled (unary_tokens u) → IsSpellable (unary_tree u)
  unary_spelled (Negated u) h = unary_spelled u h.1
  unary_spelled (Plain p) h = primary_spelled p h

  primary_spelled : (p : PrimaryPhrase) → AreSpelled (primary_tokens p) → IsSpellable (primary_tree p)
  primary_spelled (Literal n) h = h.0
  primary_spelled (Symbol name) h = h.0
  primary_spelled (Bracketed a) h = sum_spelled a (split (sum_tokens a) (token.Close ∷ []) h.1).0
  primary_spelled (SquareOf a) h = sum_spelled a (split (sum_tokens a) (token.Close ∷ []) h.1.1).0
  primary_spelled (AbsoluteOf a) h = sum_spelled a (split (sum_tokens a) (token.Close ∷ []) h.1.1).0
  primary_spelled (LeastOf a b) h =
      let s = split (sum_tokens a) (token.Comma ∷ (sum_tokens b ++ token.Close ∷ [])) h.1.1 in
      (sum_spelled a s.0, sum_spelled b (split (sum_tokens b) (token.Close ∷ []) s.1.1).0)
  primary_spelled (GreatestOf a b) h =
      let s = split (sum_tokens a) (token.Comma ∷ (sum_tokens b ++ token.Close ∷ [])) h.1.1 in
      (sum_spelled a s.0, sum_spelled b (split (sum_tokens b) (token.Close ∷ []) s.1.1).0)

-- the relation of a phrase that a text spells can be printed
pub printable : (text : List ℕ) (p : RelationPhrase) → Spells text p → IsWithinLimits p → IsPrintable (phrase_relation p)
printable text p b w =
    let s = split (sum_tokens p.left) (token.Compare p.op ∷ sum_tokens p.right) (all_spelled text (relation_tokens p) [] b) in
    record { left = sum_spelled p.left s.0; right = sum_spelled p.right s.1.1; nodes = w.nodes; depth = w.depth }
