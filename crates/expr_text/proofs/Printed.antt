-- The canonical text is read as the same relation.
use Rattle.std.proofs.Common.{◌≡◌, ℕ, ◌+◌, ◌-◌, ◌*◌, ◌<◌, ◌≤◌, ◌==◌, ◌&&◌, not, nat_le, inl, inr, true, false, List, [], ◌∷◌, ◌++◌, length, drop, Some, pos, negsuc, refl, sym, ap, ◌∙◌, subst, append_assoc, append-nil, length-append, arith}
use Rattle.std.specs.Prelude.{codes, decimal, slice_index}
use Rattle.std.specs.List.{list_all}
use Rattle.std.proofs.Math.Seq.{drop-append_seam}
use Rattle.std.proofs.lemmas.Bool.Decides.{nat_tests}
use Rattle.std.proofs.lemmas.Fmt.{decimal_nonempty, length-decimal-le}
use Rattle.log_spelling.specs.Names.{is_letter, is_name, is_name_byte, is_reserved}
use Rattle.log_spelling.specs.Numbers.{is_digit}
use Rattle.log_spelling.proofs.Printed.{all_digits}
use Rattle.expr_tree.specs.declared.RelOp.{RelOp}
use Rattle.expr_tree.specs.declared.RelOp.TheVariants as relop
use Rattle.expr_tree.specs.Trees.{Tree, Number, Named, Apply, Join, Unary, Binary, Minus, Square, Absolute, Sum, Difference, Product, Least, Greatest, Relation}
use Rattle.expr_tree.specs.Measures.{depth, nodes, relation_depth, relation_nodes}
use Rattle.expr_text.specs.declared.token.Token.{Token}
use Rattle.expr_text.specs.declared.token.Token.TheVariants as token
use Rattle.expr_text.specs.Spelling.{function_of, symbol_at, token_at, without_spaces, word_at}
use Rattle.expr_text.specs.Grammar.{SumPhrase, SumOf, NoAddend, Added, Subtracted, ProductPhrase, ProductOf, NoFactor, Multiplied, Negated, Plain, PrimaryPhrase, Literal, Symbol, Bracketed, SquareOf, AbsoluteOf, LeastOf, GreatestOf, RelationPhrase, sum_tokens, product_tokens, primary_tokens, relation_tokens, phrase_relation, primary_tree}
use Rattle.expr_text.specs.Reading.{Begins, most_open}
use Rattle.expr_text.specs.Canonical.{binary_between, binary_front, comparison_text, relation_text, tree_text, unary_front}
use Rattle.expr_text.specs.Spellable.{IsPrintable, IsReadAgain, IsReference, IsSpellable}
use Rattle.expr_text.proofs.Depths.{some_depth}
use Rattle.expr_text.proofs.Grown.{lone_product, lone_product_tokens, lone_sum, lone_sum_tokens}
use Rattle.expr_text.proofs.Words.{Delimited, and_parts, digits_at, first_passes, front_letter, name_parts, reference_at}

-- the tokens of the canonical text
abbrev unary_start : Unary → List Token
unary_start Minus = token.Open ∷ token.Minus ∷ []
unary_start Square = token.Sqr ∷ token.Open ∷ []
unary_start Absolute = token.Abs ∷ token.Open ∷ []

abbrev binary_start : Binary → List Token
binary_start Sum = token.Open ∷ []
binary_start Difference = token.Open ∷ []
binary_start Product = token.Open ∷ []
binary_start Least = token.Min ∷ token.Open ∷ []
binary_start Greatest = token.Max ∷ token.Open ∷ []

abbrev binary_token : Binary → Token
binary_token Sum = token.Plus
binary_token Difference = token.Minus
binary_token Product = token.Times
binary_token Least = token.Comma
binary_token Greatest = token.Comma

abbrev tree_tokens : Tree → List Token
tree_tokens (Number n) = token.Number n ∷ []
tree_tokens (Named name) = token.Name name ∷ []
tree_tokens (Apply op a) = unary_start op ++ (tree_tokens a ++ token.Close ∷ [])
tree_tokens (Join op a b) = binary_start op ++ (tree_tokens a ++ binary_token op ∷ (tree_tokens b ++ token.Close ∷ []))

-- the phrase of the canonical text
abbrev alone : PrimaryPhrase → SumPhrase
alone p = lone_sum (Plain p)

abbrev single : PrimaryPhrase → ProductPhrase
single p = lone_product (Plain p)

abbrev applied : Unary → PrimaryPhrase → PrimaryPhrase
applied Minus a = Bracketed (lone_sum (Negated (Plain a)))
applied Square a = SquareOf (alone a)
applied Absolute a = AbsoluteOf (alone a)

abbrev joined : Binary → PrimaryPhrase → PrimaryPhrase → PrimaryPhrase
joined Sum a b = Bracketed (SumOf (single a) (Added (single b) NoAddend))
joined Difference a b = Bracketed (SumOf (single a) (Subtracted (single b) NoAddend))
joined Product a b = Bracketed (SumOf (ProductOf (Plain a) (Multiplied (Plain b) NoFactor)) NoAddend)
joined Least a b = LeastOf (alone a) (alone b)
joined Greatest a b = GreatestOf (alone a) (alone b)

abbrev phrase_of : Tree → PrimaryPhrase
phrase_of (Number n) = Literal n
phrase_of (Named name) = Symbol name
phrase_of (Apply op a) = applied op (phrase_of a)
phrase_of (Join op a b) = joined op (phrase_of a) (phrase_of b)

applied_tree : (op : Unary) (a : PrimaryPhrase) → primary_tree (applied op a) ≡ Apply op (primary_tree a)
applied_tree Minus a = refl
applied_tree Square a = refl
applied_tree Absolute a = refl

joined_tree : (op : Binary) (a b : PrimaryPhrase) → primary_tree (joined op a b) ≡ Join op (primary_tree a) (primary_tree b)
joined_tree Sum a b = refl
joined_tree Difference a b = refl
joined_tree Product a b = refl
joined_tree Least a b = refl
joined_tree Greatest a b = refl

-- it means the tree
means : (t : Tree) → primary_tree (phrase_of t) ≡ t
means (Number n) = refl
means (Named name) = refl
means (Apply op a) = applied_tree op (phrase_of a) ∙ ap (Apply op) (means a)
means (Join op a b) = joined_tree op (phrase_of a) (phrase_of b) ∙ ap (λ x. Join op x (primary_tree (phrase_of b))) (means a) ∙ ap (Join op a) (means b)

applied_tokens : (op : Unary) (a : PrimaryPhrase) → primary_tokens (applied op a) ≡ unary_start op ++ (primary_tokens a ++ token.Close ∷ [])
applied_tokens Minus a = ap (λ (ts : List Token). token.Open ∷ (ts ++ token.Close ∷ [])) (lone_sum_tokens (Negated (Plain a)))
applied_tokens Square a = ap (λ (ts : List Token). token.Sqr ∷ token.Open ∷ (ts ++ token.Close ∷ [])) (lone_sum_tokens (Plain a))
applied_tokens Absolute a = ap (λ (ts : List Token). token.Abs ∷ token.Open ∷ (ts ++ token.Close ∷ [])) (lone_sum_tokens (Plain a))

-- two operands in brackets
in_brackets : (xs ys : List Token) (t : Token) (sum : List Token) → sum ≡ xs ++ t ∷ ys → token.Open ∷ (sum ++ token.Close ∷ []) ≡ token.Open ∷ (xs ++ t ∷ (ys ++ token.Close ∷ []))
in_brackets xs ys t sum e = ap (λ (ts : List Token). token.Open ∷ (ts ++ token.Close ∷ [])) e ∙ ap (λ (ts : List Token). token.Open ∷ ts) (append_assoc xs (t ∷ ys) (token.Close ∷ []))

two_terms : (a b : PrimaryPhrase) (t : Token) → product_tokens (single a) ++ t ∷ (product_tokens (single b) ++ []) ≡ primary_tokens a ++ t ∷ primary_tokens b
two_terms a b t = ap (λ (ts : List Token). ts ++ t ∷ sum_tokens (alone b)) (lone_product_tokens (Plain a)) ∙ ap (λ (ts : List Token). primary_tokens a ++ t ∷ ts) (lone_sum_tokens (Plain b))

two_arguments : (a b : PrimaryPhrase) (f : Token) → f ∷ token.Open ∷ (sum_tokens (alone a) ++ token.Comma ∷ (sum_tokens (alone b) ++ token.Close ∷ [])) ≡ f ∷ token.Open ∷ (primary_tokens a ++ token.Comma ∷ (primary_tokens b ++ token.Close ∷ []))
two_arguments a b f =
    ap (λ (ts : List Token). f ∷ token.Open ∷ (ts ++ token.Comma ∷ (sum_tokens (alone b) ++ token.Close ∷ []))) (lone_sum_tokens (Plain a))
    ∙ ap (λ (ts : List Token). f ∷ token.Open ∷ (primary_tokens a ++ token.Comma ∷ (ts ++ token.Close ∷ []))) (lone_sum_tokens (Plain b))

joined_tokens : (op : Binary) (a b : PrimaryPhrase) → primary_tokens (joined op a b) ≡ binary_start op ++ (primary_tokens a ++ binary_token op ∷ (primary_tokens b ++ token.Close ∷ []))
joined_tokens Sum a b = in_brackets (primary_tokens a) (primary_tokens b) token.Plus _ (two_terms a b token.Plus)
joined_tokens Difference a b = in_brackets (primary_tokens a) (primary_tokens b) token.Minus _ (two_terms a b token.Minus)
joined_tokens Product a b =
    in_brackets (primary_tokens a) (primary_tokens b) token.Times _ (append-nil (primary_tokens a ++ token.Times ∷ (primary_tokens b ++ [])) ∙ ap (λ (ts : List Token). primary_tokens a ++ token.Times ∷ ts) (append-nil (primary_tokens b)))
joined_tokens Least a b = two_arguments a b token.Min
joined_tokens Greatest a b = two_arguments a b token.Max

-- it has the tokens
derives : (t : Tree) → primary_tokens (phrase_of t) ≡ tree_tokens t
derives (Number n) = refl
derives (Named name) = refl
derives (Apply op a) = applied_tokens op (phrase_of a) ∙ ap (λ (ts : List Token). unary_start op ++ (ts ++ token.Close ∷ [])) (derives a)
derives (Join op a b) =
    joined_tokens op (phrase_of a) (phrase_of b)
    ∙ ap (λ (ts : List Token). binary_start op ++ (ts ++ binary_token op ∷ (primary_tokens (phrase_of b) ++ token.Close ∷ []))) (derives a)
    ∙ ap (λ (ts : List Token). binary_start op ++ (tree_tokens a ++ binary_token op ∷ (ts ++ token.Close ∷ []))) (derives b)

-- as many brackets are open at one time as the tree is deep, less one
opens : (t : Tree) (n m : ℕ) (ts : List Token) → n + depth t ≤ m + 1 → most_open n ts ≤ m → most_open n (tree_tokens t ++ ts) ≤ m
opens (Number z) n m ts h k = omega (arith, k)
opens (Named name) n m ts h k = omega (arith, k)
opens (Apply op a) n m ts h k =
    let some = some_depth a in
    let closed : most_open (n + 1) (token.Close ∷ ts) ≤ m = closing n m ts (omega (arith, some)) k in
    let inner = opens a (n + 1) m (token.Close ∷ ts) (omega arith) closed in
    front op (subst (λ (us : List Token). most_open (n + 1) us ≤ m) (sym (append_assoc (tree_tokens a) (token.Close ∷ []) ts)) inner) (omega (arith, some))
  where
    closing : (n m : ℕ) (ts : List Token) → n + 1 ≤ m → most_open n ts ≤ m → most_open (n + 1) (token.Close ∷ ts) ≤ m
    closing n m ts h k =
        let same : n + 1 - 1 ≡ n = omega arith in
        let e = ap (λ i. most_open i ts) same in
        omega (arith, e, h, k)

    front : (op : Unary) → most_open (n + 1) ((tree_tokens a ++ token.Close ∷ []) ++ ts) ≤ m → n + 1 ≤ m → most_open n ((unary_start op ++ (tree_tokens a ++ token.Close ∷ [])) ++ ts) ≤ m
    front Minus h k = omega (arith, h, k)
    front Square h k = omega (arith, h, k)
    front Absolute h k = omega (arith, h, k)
opens (Join op a b) n m ts h k =
    let some = some_depth a in
    let closed : most_open (n + 1) (token.Close ∷ ts) ≤ m = closing n m ts (omega (arith, some)) k in
    let second = opens b (n + 1) m (token.Close ∷ ts) (omega arith) closed in
    let between = middle op (tree_tokens b ++ token.Close ∷ ts) second (omega (arith, some)) in
    let first = opens a (n + 1) m (binary_token op ∷ (tree_tokens b ++ token.Close ∷ ts)) (omega arith) between in
    front op (tree_tokens a ++ binary_token op ∷ (tree_tokens b ++ token.Close ∷ [])) (subst (λ (us : List Token). most_open (n + 1) us ≤ m) (sym regrouped) first) (omega (arith, some))
  where
    closing : (n m : ℕ) (ts : List Token) → n + 1 ≤ m → most_open n ts ≤ m → most_open (n + 1) (token.Close ∷ ts) ≤ m
    closing n m ts h k =
        let same : n + 1 - 1 ≡ n = omega arith in
        let e = ap (λ i. most_open i ts) same in
        omega (arith, e, h, k)

    middle : (op : Binary) (us : List Token) → most_open (n + 1) us ≤ m → n + 1 ≤ m → most_open (n + 1) (binary_token op ∷ us) ≤ m
    middle Sum us h k = omega (arith, h, k)
    middle Difference us h k = omega (arith, h, k)
    middle Product us h k = omega (arith, h, k)
    middle Least us h k = omega (arith, h, k)
    middle Greatest us h k = omega (arith, h, k)

    regrouped : (tree_tokens a ++ binary_token op ∷ (tree_tokens b ++ token.Close ∷ [])) ++ ts ≡ tree_tokens a ++ binary_token op ∷ (tree_tokens b ++ token.Close ∷ ts)
    regrouped = append_assoc (tree_tokens a) (binary_token op ∷ (tree_tokens b ++ token.Close ∷ [])) ts ∙ ap (λ (us : List Token). tree_tokens a ++ binary_token op ∷ us) (append_assoc (tree_tokens b) (token.Close ∷ []) ts)

    front : (op : Binary) (us : List Token) → most_open (n + 1) (us ++ ts) ≤ m → n + 1 ≤ m → most_open n ((binary_start op ++ us) ++ ts) ≤ m
    front Sum us h k = omega (arith, h, k)
    front Difference us h k = omega (arith, h, k)
    front Product us h k = omega (arith, h, k)
    front Least us h k = omega (arith, h, k)
    front Greatest us h k = omega (arith, h, k)

-- a word at the front, with no space before it
word_begins : (word more : List ℕ) (t : Token) (ts : List Token) (rest : List ℕ) → (slice_index (word ++ more) 0 == 32) ≡ false → token_at (word ++ more) ≡ Some (t, length word) → Begins more ts rest → Begins (word ++ more) (t ∷ ts) rest
word_begins word more t ts rest space h b =
    let same = solid (word ++ more) space in
    (length word, ap token_at same ∙ h, subst (λ (xs : List ℕ). Begins xs ts rest) (sym (ap (drop (length word)) same ∙ drop-append_seam word more)) b)
  where
    solid : (xs : List ℕ) → (slice_index xs 0 == 32) ≡ false → without_spaces xs ≡ xs
    solid [] e = refl
    solid (c ∷ cs) e = rw e refl

digit_solid : (c : ℕ) → is_digit c ≡ true → (c == 32) ≡ false
digit_solid c h = grind (arith, nat_tests)

letter_solid : (c : ℕ) → is_letter c ≡ true → (c == 32) ≡ false
letter_solid c h = grind (arith, nat_tests)

digit_no_equals : (c : ℕ) → is_digit c ≡ true → (c == 61) ≡ false
digit_no_equals c h = grind (arith, nat_tests)

letter_no_equals : (c : ℕ) → is_letter c ≡ true → (c == 61) ≡ false
letter_no_equals c h = grind (arith, nat_tests)

-- a reference begins with a letter
reference_letter : (bytes more : List ℕ) → IsReference bytes → is_letter (slice_index (bytes ++ more) 0) ≡ true
reference_letter bytes more (inl h) = front_letter bytes more (name_parts bytes h).letter
reference_letter bytes more (inr r) = elim r.2 [
  | inl e ↦ of (codes ".x") e
  | inr e ↦ of (codes ".y") e
]
  where
    of : (tail : List ℕ) → bytes ≡ r.0 ++ tail → is_letter (slice_index (bytes ++ more) 0) ≡ true
    of tail e =
        let P : List ℕ → Type 0 = λ xs. is_letter (slice_index (xs ++ more) 0) ≡ true in
        subst P (sym e) (front_letter (r.0 ++ tail) more (front_letter r.0 tail (name_parts r.0 r.1).letter))

open_at : (more : List ℕ) → token_at (40 ∷ more) ≡ Some (token.Open, 1)
unfolding token_at symbol_at
open_at more = refl

close_at : (more : List ℕ) → token_at (41 ∷ more) ≡ Some (token.Close, 1)
unfolding token_at symbol_at
close_at more = refl

minus_at : (more : List ℕ) → token_at (45 ∷ more) ≡ Some (token.Minus, 1)
unfolding token_at symbol_at
minus_at more = refl

sqr_at : (more : List ℕ) → token_at (codes "sqr" ++ 40 ∷ more) ≡ Some (token.Sqr, 3)
unfolding token_at word_at function_of
sqr_at more = refl

abs_at : (more : List ℕ) → token_at (codes "abs" ++ 40 ∷ more) ≡ Some (token.Abs, 3)
unfolding token_at word_at function_of
abs_at more = refl

min_at : (more : List ℕ) → token_at (codes "min" ++ 40 ∷ more) ≡ Some (token.Min, 3)
unfolding token_at word_at function_of
min_at more = refl

max_at : (more : List ℕ) → token_at (codes "max" ++ 40 ∷ more) ≡ Some (token.Max, 3)
unfolding token_at word_at function_of
max_at more = refl

unary_begins : (op : Unary) (more : List ℕ) (ts : List Token) (rest : List ℕ) → Begins more ts rest → Begins (unary_front op ++ more) (unary_start op ++ ts) rest
unary_begins Minus more ts rest b = (1, open_at (45 ∷ more), (1, minus_at more, b))
unary_begins Square more ts rest b = (3, sqr_at more, (1, open_at more, b))
unary_begins Absolute more ts rest b = (3, abs_at more, (1, open_at more, b))

binary_begins : (op : Binary) (more : List ℕ) (ts : List Token) (rest : List ℕ) → Begins more ts rest → Begins (binary_front op ++ more) (binary_start op ++ ts) rest
binary_begins Sum more ts rest b = (1, open_at more, b)
binary_begins Difference more ts rest b = (1, open_at more, b)
binary_begins Product more ts rest b = (1, open_at more, b)
binary_begins Least more ts rest b = (3, min_at more, (1, open_at more, b))
binary_begins Greatest more ts rest b = (3, max_at more, (1, open_at more, b))

between_begins : (op : Binary) (more : List ℕ) (ts : List Token) (rest : List ℕ) → Begins more ts rest → Begins (binary_between op ++ more) (binary_token op ∷ ts) rest
unfolding token_at symbol_at
between_begins Sum more ts rest b = (1, refl, b)
between_begins Difference more ts rest b = (1, refl, b)
between_begins Product more ts rest b = (1, refl, b)
between_begins Least more ts rest b = (1, refl, b)
between_begins Greatest more ts rest b = (1, refl, b)

between_delimits : (op : Binary) (more : List ℕ) → Delimited (binary_between op ++ more)
between_delimits Sum more = record { name = refl; dot = refl }
between_delimits Difference more = record { name = refl; dot = refl }
between_delimits Product more = record { name = refl; dot = refl }
between_delimits Least more = record { name = refl; dot = refl }
between_delimits Greatest more = record { name = refl; dot = refl }

-- a term in brackets that close behind it
enclosed : (text : List ℕ) (tokens : List Token) (more : List ℕ) (ts : List Token) (rest : List ℕ) → Begins (text ++ 41 ∷ more) (tokens ++ token.Close ∷ ts) rest → Begins ((text ++ 41 ∷ []) ++ more) ((tokens ++ token.Close ∷ []) ++ ts) rest
enclosed text tokens more ts rest b =
    let P : List ℕ → Type 0 = λ xs. Begins xs ((tokens ++ token.Close ∷ []) ++ ts) rest in
    let Q : List Token → Type 0 = λ us. Begins (text ++ 41 ∷ more) us rest in
    subst P (sym (append_assoc text (41 ∷ []) more)) (subst Q (sym (append_assoc tokens (token.Close ∷ []) ts)) b)

regrouped : (as' bs more : List ℕ) (us vs ts : List Token) (rest : List ℕ) → Begins (as' ++ (bs ++ more)) (us ++ (vs ++ ts)) rest → Begins ((as' ++ bs) ++ more) ((us ++ vs) ++ ts) rest
regrouped as' bs more us vs ts rest b =
    let P : List ℕ → Type 0 = λ xs. Begins xs ((us ++ vs) ++ ts) rest in
    let Q : List Token → Type 0 = λ ws. Begins (as' ++ (bs ++ more)) ws rest in
    subst P (sym (append_assoc as' bs more)) (subst Q (sym (append_assoc us vs ts)) b)

closing : (more : List ℕ) (ts : List Token) (rest : List ℕ) → Begins more ts rest → Begins (41 ∷ more) (token.Close ∷ ts) rest
closing more ts rest b = (1, close_at more, b)

-- the text of a tree, with something behind it that ends a word
begins : (t : Tree) → IsSpellable t → (more : List ℕ) → Delimited more → (ts : List Token) (rest : List ℕ) → Begins more ts rest → Begins (tree_text t ++ more) (tree_tokens t ++ ts) rest
begins (Number (pos n)) h more d ts rest b =
    let some : 0 < length (decimal n) = decimal_nonempty n (omega arith) in
    word_begins (decimal n) more (token.Number (pos n)) ts rest (digit_solid (slice_index (decimal n ++ more) 0) (first_passes is_digit (decimal n) more some (all_digits n h))) (digits_at n more h d) b
begins (Number (negsuc n)) h more d ts rest b = absurd h
begins (Named name) h more d ts rest b = word_begins name more (token.Name name) ts rest (letter_solid (slice_index (name ++ more) 0) (reference_letter name more h)) (reference_at name more h d) b
begins (Apply op a) h more d ts rest b =
    let inner = begins a h (41 ∷ more) (record { name = refl; dot = refl }) (token.Close ∷ ts) rest (closing more ts rest b) in
    regrouped (unary_front op) (tree_text a ++ 41 ∷ []) more (unary_start op) (tree_tokens a ++ token.Close ∷ []) ts rest
    (unary_begins op ((tree_text a ++ 41 ∷ []) ++ more) ((tree_tokens a ++ token.Close ∷ []) ++ ts) rest (enclosed (tree_text a) (tree_tokens a) more ts rest inner))
begins (Join op a b) h more d ts rest k =
    let second = enclosed (tree_text b) (tree_tokens b) more ts rest (begins b h.1 (41 ∷ more) (record { name = refl; dot = refl }) (token.Close ∷ ts) rest (closing more ts rest k)) in
    let middle = between_begins op ((tree_text b ++ 41 ∷ []) ++ more) ((tree_tokens b ++ token.Close ∷ []) ++ ts) rest second in
    let first = begins a h.0 (binary_between op ++ ((tree_text b ++ 41 ∷ []) ++ more)) (between_delimits op _) (binary_token op ∷ ((tree_tokens b ++ token.Close ∷ []) ++ ts)) rest middle in
    regrouped (binary_front op) (tree_text a ++ (binary_between op ++ (tree_text b ++ 41 ∷ []))) more (binary_start op) (tree_tokens a ++ binary_token op ∷ (tree_tokens b ++ token.Close ∷ [])) ts rest
    (binary_begins op _ _ rest
    (let P : List ℕ → Type 0 = λ xs. Begins xs ((tree_tokens a ++ binary_token op ∷ (tree_tokens b ++ token.Close ∷ [])) ++ ts) rest in
    let Q : List Token → Type 0 = λ us. Begins (tree_text a ++ (binary_between op ++ ((tree_text b ++ 41 ∷ []) ++ more))) us rest in
    subst P (sym (append_assoc (tree_text a) (binary_between op ++ (tree_text b ++ 41 ∷ [])) more ∙ ap (λ (xs : List ℕ). tree_text a ++ xs) (append_assoc (binary_between op) (tree_text b ++ 41 ∷ []) more)))
    (subst Q (sym (append_assoc (tree_tokens a) (binary_token op ∷ (tree_tokens b ++ token.Close ∷ [])) ts)) first)))

comparison_delimits : (op : RelOp) (more : List ℕ) → Delimited (comparison_text op ++ more)
comparison_delimits relop.Eq more = record { name = refl; dot = refl }
comparison_delimits relop.Lt more = record { name = refl; dot = refl }
comparison_delimits relop.Le more = record { name = refl; dot = refl }
comparison_delimits relop.Gt more = record { name = refl; dot = refl }
comparison_delimits relop.Ge more = record { name = refl; dot = refl }

comparison_begins : (op : RelOp) (more : List ℕ) (ts : List Token) (rest : List ℕ) → (slice_index more 0 == 61) ≡ false → Begins more ts rest → Begins (comparison_text op ++ more) (token.Compare op ∷ ts) rest
unfolding token_at symbol_at
comparison_begins relop.Eq more ts rest e b = (1, refl, b)
comparison_begins relop.Lt more ts rest e b = (1, rw e refl, b)
comparison_begins relop.Le more ts rest e b = (2, refl, b)
comparison_begins relop.Gt more ts rest e b = (1, rw e refl, b)
comparison_begins relop.Ge more ts rest e b = (2, refl, b)

no_equals : (t : Tree) → IsSpellable t → (more : List ℕ) → (slice_index (tree_text t ++ more) 0 == 61) ≡ false
no_equals (Number (pos n)) h more =
    let some : 0 < length (decimal n) = decimal_nonempty n (omega arith) in
    digit_no_equals (slice_index (decimal n ++ more) 0) (first_passes is_digit (decimal n) more some (all_digits n h))
no_equals (Number (negsuc n)) h more = absurd h
no_equals (Named name) h more = letter_no_equals (slice_index (name ++ more) 0) (reference_letter name more h)
no_equals (Apply Minus a) h more = refl
no_equals (Apply Square a) h more = refl
no_equals (Apply Absolute a) h more = refl
no_equals (Join Sum a b) h more = refl
no_equals (Join Difference a b) h more = refl
no_equals (Join Product a b) h more = refl
no_equals (Join Least a b) h more = refl
no_equals (Join Greatest a b) h more = refl

name_short : (name : List ℕ) → is_name name ≡ true → length name ≤ 32
name_short name h =
    let few = nat_le (length name) 32 && not (is_reserved name) in
    let a = and_parts (is_letter (slice_index name 0)) (list_all is_name_byte name && few) h in
    let b = and_parts (list_all is_name_byte name) few a.1 in
    let c : nat_le (length name) 32 ≡ true = (and_parts (nat_le (length name) 32) (not (is_reserved name)) b.1).0 in
    grind (arith, nat_tests)

reference_short : (bytes : List ℕ) → IsReference bytes → length bytes ≤ 34
reference_short bytes (inl h) = let s = name_short bytes h in omega (arith, s)
reference_short bytes (inr r) =
    let s = name_short r.0 r.1 in
    elim r.2 [
      | inl e ↦ (let l = ap length e in omega (arith, s, l, length-append r.0 (codes ".x")))
      | inr e ↦ (let l = ap length e in omega (arith, s, l, length-append r.0 (codes ".y")))
    ]

front_short : (op : Binary) → length (binary_front op) + length (binary_between op) ≤ 5
front_short Sum = omega arith
front_short Difference = omega arith
front_short Product = omega arith
front_short Least = omega arith
front_short Greatest = omega arith

unary_short : (op : Unary) → length (unary_front op) ≤ 4
unary_short Minus = omega arith
unary_short Square = omega arith
unary_short Absolute = omega arith

-- at most forty bytes for each node
short : (t : Tree) → IsSpellable t → length (tree_text t) ≤ 40 * nodes t
short (Number (pos n)) h = let s = length-decimal-le 18 n (omega arith) (omega arith) (omega arith) in omega (arith, s)
short (Number (negsuc n)) h = absurd h
short (Named name) h = let s = reference_short name h in omega (arith, s)
short (Apply op a) h =
    let s = short a h in
    omega (arith, s, unary_short op, length-append (unary_front op) (tree_text a ++ 41 ∷ []), length-append (tree_text a) (41 ∷ []))
short (Join op a b) h =
    let x = short a h.0 in
    let y = short b h.1 in
    let z = length-append (binary_front op) (tree_text a ++ (binary_between op ++ (tree_text b ++ 41 ∷ []))) in
    let w = length-append (tree_text a) (binary_between op ++ (tree_text b ++ 41 ∷ [])) in
    let v = length-append (binary_between op) (tree_text b ++ 41 ∷ []) in
    omega (arith, x, y, z, w, v, front_short op, length-append (tree_text b) (41 ∷ []))

comparison_short : (op : RelOp) → length (comparison_text op) ≤ 2
comparison_short relop.Eq = omega arith
comparison_short relop.Lt = omega arith
comparison_short relop.Le = omega arith
comparison_short relop.Gt = omega arith
comparison_short relop.Ge = omega arith

side_tokens : (t : Tree) → sum_tokens (alone (phrase_of t)) ≡ tree_tokens t
side_tokens t = lone_sum_tokens (Plain (phrase_of t)) ∙ derives t

canonical : Relation → RelationPhrase
canonical r = record { op = r.op; left = alone (phrase_of r.left); right = alone (phrase_of r.right) }

canonical_tokens : (r : Relation) → relation_tokens (canonical r) ≡ tree_tokens r.left ++ token.Compare r.op ∷ tree_tokens r.right
unfolding canonical
canonical_tokens r = ap (λ (ts : List Token). ts ++ token.Compare r.op ∷ sum_tokens (alone (phrase_of r.right))) (side_tokens r.left) ∙ ap (λ (ts : List Token). tree_tokens r.left ++ token.Compare r.op ∷ ts) (side_tokens r.right)

canonical_means : (r : Relation) → phrase_relation (canonical r) ≡ r
unfolding canonical
canonical_means r = ap (λ t. record { op = r.op; left = t; right = primary_tree (phrase_of r.right) }) (means r.left) ∙ ap (λ t. record { op = r.op; left = r.left; right = t }) (means r.right)

spelled : (r : Relation) → IsPrintable r → Begins (relation_text r) (tree_tokens r.left ++ token.Compare r.op ∷ tree_tokens r.right) []
spelled r h =
    let right = begins r.right h.right [] (record { name = refl; dot = refl }) [] [] refl in
    let P : List ℕ → Type 0 = λ xs. Begins xs (tree_tokens r.right ++ []) [] in
    let Q : List Token → Type 0 = λ us. Begins (tree_text r.right) us [] in
    let side = subst Q (append-nil (tree_tokens r.right)) (subst P (append-nil (tree_text r.right)) right) in
    let R : List ℕ → Type 0 = λ xs. (slice_index xs 0 == 61) ≡ false in
    let free = subst R (append-nil (tree_text r.right)) (no_equals r.right h.right []) in
    begins r.left h.left (comparison_text r.op ++ tree_text r.right) (comparison_delimits r.op (tree_text r.right)) (token.Compare r.op ∷ tree_tokens r.right) [] (comparison_begins r.op (tree_text r.right) (tree_tokens r.right) [] free side)

few_open : (r : Relation) → relation_depth r ≤ 32 → most_open 0 (tree_tokens r.left ++ token.Compare r.op ∷ tree_tokens r.right) ≤ 32
few_open r h =
    let right = opens r.right 0 32 [] (omega arith) (omega arith) in
    let Q : List Token → Type 0 = λ us. most_open 0 us ≤ 32 in
    let side = subst Q (append-nil (tree_tokens r.right)) right in
    opens r.left 0 32 (token.Compare r.op ∷ tree_tokens r.right) (omega arith) (omega (arith, side))

pub read_again : (r : Relation) → IsPrintable r → IsReadAgain r
read_again r h =
    let e = canonical_means r in
    let n = ap relation_nodes e in
    let d = ap relation_depth e in
    let b = ap (most_open 0) (canonical_tokens r) in
    let o = few_open r h.depth in
    let x = short r.left h.left in
    let y = short r.right h.right in
    let nodes = h.nodes in
    let depth = h.depth in
    let z = length-append (tree_text r.left) (comparison_text r.op ++ tree_text r.right) in
    let w = length-append (comparison_text r.op) (tree_text r.right) in
    let c = comparison_short r.op in
    record {
      phrase = canonical r;
      spells = subst (λ (us : List Token). Begins (relation_text r) us []) (sym (canonical_tokens r)) (spelled r h);
      within = record { nodes = omega (arith, n, nodes); depth = omega (arith, d, depth); brackets = omega (arith, b, o) };
      means = e;
      short = omega (arith, x, y, z, w, c, nodes);
    }
