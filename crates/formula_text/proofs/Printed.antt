-- The bytes of a canonical text.
use Rattle.std.proofs.Common.{◌≡◌, ◌≢◌, ℕ, ◌^◌, ◌<◌, ◌==◌, inl, inr, Bool, true, false, List, [], ◌∷◌, ◌++◌, length, Ok, refl, sym, ap, ◌∙◌, subst, arith, length-append, pos, negsuc}
use Rattle.std.specs.Prelude.{codes, decimal, All, slice_index_or, zero, suc}
use Rattle.std.specs.List.{list_all}
use Rattle.std.proofs.lemmas.Bool.Decides.{nat_tests}
use Rattle.std.proofs.lemmas.List.Elements.{All-append, All-nil}
use Rattle.std.proofs.lemmas.List.Folds.{list_all-append}
use Rattle.std.proofs.lemmas.List.Sums.{AllPass-from_list_all}
use Rattle.log_spelling.specs.Blanks.{is_note}
use Rattle.log_spelling.specs.Names.{is_name, is_name_byte}
use Rattle.log_spelling.specs.Numbers.{is_digit}
use Rattle.log_spelling.proofs.Printed.{all_digits}
use Rattle.log_spelling.proofs.Solid.{is_solid, trimmed_solid}
use Rattle.expr_tree.specs.declared.RelOp.{RelOp}
use Rattle.expr_tree.specs.declared.RelOp.TheVariants as relop
use Rattle.expr_tree.specs.Measures.{names, relation_names}
use Rattle.expr_tree.specs.Trees.{Tree, Number, Named, Apply, Join, Unary, Binary, Minus, Square, Absolute, Sum, Difference, Product, Least, Greatest, Relation}
use Rattle.expr_text.specs.Canonical.{binary_between, binary_front, comparison_text, relation_text, tree_text, unary_front}
use Rattle.expr_text.specs.Spellable.{IsPrintable, IsReference, IsSpellable}
use Rattle.expr_text.proofs.Printed.{read_again}
use Rattle.expr_text.proofs.Words.{and_parts, name_parts}
use Rattle.formula_text.specs.Laws.{IsFieldText, is_formula_byte}
use Rattle.formula_text.specs.Readings.{reading_of}
use Rattle.formula_text.proofs.Read.{means_read, read_means}
use Rattle.formula_text.proofs.Spelled.{printable}

pub read_printable : (text : List ℕ) (r : Relation) → reading_of text ≡ Ok r → IsPrintable r
read_printable text r e =
    let m = read_means text r e in
    subst IsPrintable m.relation (printable text m.phrase m.spells m.within)

pub printed_read : (r : Relation) → IsPrintable r → reading_of (relation_text r) ≡ Ok r
printed_read r h =
    let a = read_again r h in
    means_read (relation_text r) r (record { phrase = a.phrase; spells = a.spells; within = a.within; relation = a.means })

pub printed_short : (r : Relation) → IsPrintable r → length (relation_text r) < 2 ^ 32
printed_short r h = (read_again r h).short

-- a test that is met by each byte, where a stronger one is
all_weaker : (p q : ℕ → Bool) (cs : List ℕ) → ((c : ℕ) → p c ≡ true → q c ≡ true) → list_all p cs ≡ true → list_all q cs ≡ true
all_weaker p q [] w h = refl
all_weaker p q (c ∷ cs) w h =
    let e = and_parts (p c) (list_all p cs) h in
    rw (w c e.0, all_weaker p q cs w e.1) refl

both : (p : ℕ → Bool) (xs ys : List ℕ) → list_all p xs ≡ true → list_all p ys ≡ true → list_all p (xs ++ ys) ≡ true
both p xs ys h k = rw (list_all-append, h, k) refl

digit_byte : (c : ℕ) → is_digit c ≡ true → is_formula_byte c ≡ true
digit_byte c h = grind (arith, nat_tests)

name_byte : (c : ℕ) → is_name_byte c ≡ true → is_formula_byte c ≡ true
name_byte c h = rw h refl

name_bytes : (name : List ℕ) → is_name name ≡ true → list_all is_formula_byte name ≡ true
name_bytes name h = all_weaker is_name_byte is_formula_byte name name_byte (name_parts name h).bytes

reference_bytes : (bytes : List ℕ) → IsReference bytes → list_all is_formula_byte bytes ≡ true
reference_bytes bytes (inl h) = name_bytes bytes h
reference_bytes bytes (inr r) = elim r.2 [
  | inl e ↦ of (codes ".x") e refl
  | inr e ↦ of (codes ".y") e refl
]
  where
    of : (tail : List ℕ) → bytes ≡ r.0 ++ tail → list_all is_formula_byte tail ≡ true → list_all is_formula_byte bytes ≡ true
    of tail e h = ap (list_all is_formula_byte) e ∙ both is_formula_byte r.0 tail (name_bytes r.0 r.1) h

unary_bytes : (op : Unary) → list_all is_formula_byte (unary_front op) ≡ true
unary_bytes Minus = refl
unary_bytes Square = refl
unary_bytes Absolute = refl

front_bytes : (op : Binary) → list_all is_formula_byte (binary_front op) ≡ true
front_bytes Sum = refl
front_bytes Difference = refl
front_bytes Product = refl
front_bytes Least = refl
front_bytes Greatest = refl

between_bytes : (op : Binary) → list_all is_formula_byte (binary_between op) ≡ true
between_bytes Sum = refl
between_bytes Difference = refl
between_bytes Product = refl
between_bytes Least = refl
between_bytes Greatest = refl

comparison_bytes : (op : RelOp) → list_all is_formula_byte (comparison_text op) ≡ true
comparison_bytes relop.Eq = refl
comparison_bytes relop.Lt = refl
comparison_bytes relop.Le = refl
comparison_bytes relop.Gt = refl
comparison_bytes relop.Ge = refl

closed_bytes : (t : List ℕ) → list_all is_formula_byte t ≡ true → list_all is_formula_byte (t ++ codes ")") ≡ true
closed_bytes t h = both is_formula_byte t (codes ")") h refl

tree_bytes : (t : Tree) → IsSpellable t → list_all is_formula_byte (tree_text t) ≡ true
tree_bytes (Number (pos n)) h = all_weaker is_digit is_formula_byte (decimal n) digit_byte (all_digits n h)
tree_bytes (Number (negsuc n)) h = absurd h
tree_bytes (Named name) h = reference_bytes name h
tree_bytes (Apply op a) h = both is_formula_byte (unary_front op) (tree_text a ++ codes ")") (unary_bytes op) (closed_bytes (tree_text a) (tree_bytes a h))
tree_bytes (Join op a b) h =
    let right = closed_bytes (tree_text b) (tree_bytes b h.1) in
    let more = both is_formula_byte (binary_between op) (tree_text b ++ codes ")") (between_bytes op) right in
    let terms = both is_formula_byte (tree_text a) (binary_between op ++ (tree_text b ++ codes ")")) (tree_bytes a h.0) more in
    both is_formula_byte (binary_front op) (tree_text a ++ (binary_between op ++ (tree_text b ++ codes ")"))) (front_bytes op) terms

relation_bytes : (r : Relation) → IsPrintable r → list_all is_formula_byte (relation_text r) ≡ true
relation_bytes r h =
    both is_formula_byte (tree_text r.left) (comparison_text r.op ++ tree_text r.right) (tree_bytes r.left h.left)
    (both is_formula_byte (comparison_text r.op) (tree_text r.right) (comparison_bytes r.op) (tree_bytes r.right h.right))

some_comparison : (op : RelOp) → 0 < length (comparison_text op)
some_comparison relop.Eq = omega arith
some_comparison relop.Lt = omega arith
some_comparison relop.Le = omega arith
some_comparison relop.Gt = omega arith
some_comparison relop.Ge = omega arith

some_bytes : (r : Relation) → 0 < length (relation_text r)
some_bytes r =
    omega (arith, some_comparison r.op, length-append (tree_text r.left) (comparison_text r.op ++ tree_text r.right), length-append (comparison_text r.op) (tree_text r.right))

-- a byte that is none of a formula's
other : (b : ℕ) → is_formula_byte b ≡ false → (c : ℕ) → is_formula_byte c ≡ true → c ≢ b
other b e c h k = clash (is_formula_byte b) e (ap is_formula_byte (sym k) ∙ h)
  where
    clash : (x : Bool) → x ≡ false → x ≡ true → ⊥
    clash x e f = cc

solid : (c : ℕ) → is_formula_byte c ≡ true → is_solid c ≡ true
solid c h = grind (arith, nat_tests)

no_hash : (c : ℕ) → is_formula_byte c ≡ true → (c == 35) ≡ false
no_hash c h = grind (arith, nat_tests)

no_note : (cs : List ℕ) → list_all is_formula_byte cs ≡ true → is_note cs ≡ false
no_note [] h = refl
no_note (c ∷ cs) h = no_hash c (and_parts (is_formula_byte c) (list_all is_formula_byte cs) h).0

pub field_text : (r : Relation) → IsPrintable r → IsFieldText (relation_text r)
field_text r h =
    let text = relation_text r in
    let bytes = relation_bytes r h in
    let pass = AllPass-from_list_all is_formula_byte text bytes in
    record {
      some = some_bytes r;
      bytes = pass;
      no_quote = λ k d small. other 34 refl _ (pass k d small);
      no_feed = λ k d small. other 10 refl _ (pass k d small);
      no_return = λ k d small. other 13 refl _ (pass k d small);
      trimmed = trimmed_solid text (all_weaker is_formula_byte is_solid text solid bytes);
      no_note = no_note text bytes;
    }

-- the names of a tree that can be printed
tree_names : (t : Tree) → IsSpellable t → All IsReference (names t)
tree_names (Number n) h = All-nil IsReference
tree_names (Named name) h = λ k d small. one k d small
  where
    one : (k : ℕ) (d : List ℕ) → k < 1 → IsReference (slice_index_or (name ∷ []) k d)
    one zero d small = h
    one (suc k) d small = absurd (omega arith)
tree_names (Apply op a) h = tree_names a h
tree_names (Join op a b) h = All-append IsReference (names a) (names b) (tree_names a h.0) (tree_names b h.1)

pub all_names : (r : Relation) → IsPrintable r → All IsReference (relation_names r)
all_names r h = All-append IsReference (names r.left) (names r.right) (tree_names r.left h.left) (tree_names r.right h.right)
