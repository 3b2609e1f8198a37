-- What is spelled, with something behind it that ends it, is taken as that token.
use Rattle.std.proofs.Common.{◌≡◌, ℕ, ◌+◌, ◌<◌, ◌==◌, ◌&&◌, inl, inr, Bool, true, false, List, [], ◌∷◌, ◌++◌, length, take, Some, pos, refl, sym, ap, ◌∙◌, subst, append_assoc, length-append, arith}
use Rattle.std.specs.Prelude.{codes, decimal, slice_index}
use Rattle.std.specs.List.{list_all, prefix_len}
use Rattle.std.proofs.Math.Seq.{take-append_seam, take-append-add, drop-append_seam}
use Rattle.std.proofs.lemmas.Bool.Decides.{nat_tests}
use Rattle.std.proofs.lemmas.Fmt.{decimal_nonempty}
use Rattle.log_spelling.specs.Names.{is_letter, is_name, is_name_byte}
use Rattle.log_spelling.specs.Numbers.{is_digit}
use Rattle.log_spelling.proofs.Printed.{all_digits, decimal_read}
use Rattle.expr_text.specs.declared.token.Token.TheVariants as token
use Rattle.expr_text.specs.Spelling.{is_coordinate, number_at, token_at, word_at}
use Rattle.expr_text.specs.Spellable.{IsReference}

-- no byte of a name, and no dot, stands at the front
pub record Delimited (more : List ℕ) : Type 0 where
  pub name : is_name_byte (slice_index more 0) ≡ false
  pub dot : (slice_index more 0 == 46) ≡ false

-- what passes as far as something that does not
pub passes : (p : ℕ → Bool) (xs more : List ℕ) → list_all p xs ≡ true → p (slice_index more 0) ≡ false → p 0 ≡ false → prefix_len p (xs ++ more) ≡ length xs
passes p [] [] h e z = refl
passes p [] (c ∷ cs) h e z = rw e refl
passes p (x ∷ xs) more h e z =
    let both = parts (p x) (list_all p xs) h in
    rw both.0 (ap (λ n. 1 + n) (passes p xs more both.1 e z) ∙ omega arith)
  where
    parts : (a b : Bool) → (a && b) ≡ true → (a ≡ true) × (b ≡ true)
    parts true b e = (refl, e)
    parts false b e = cc

pub and_parts : (a b : Bool) → (a && b) ≡ true → (a ≡ true) × (b ≡ true)
and_parts true b e = (refl, e)
and_parts false b e = cc

no_digit : (c : ℕ) → is_name_byte c ≡ false → is_digit c ≡ false
no_digit c h = grind (arith, nat_tests)

-- the first of some bytes that all pass
pub first_passes : (p : ℕ → Bool) (xs more : List ℕ) → 0 < length xs → list_all p xs ≡ true → p (slice_index (xs ++ more) 0) ≡ true
first_passes p [] more some h = absurd (omega arith)
first_passes p (x ∷ xs) more some h = (and_parts (p x) (list_all p xs) h).0

pub digits_at : (n : ℕ) (more : List ℕ) → n < 1000000000000000000 → Delimited more → token_at (decimal n ++ more) ≡ Some (token.Number (pos n), length (decimal n))
unfolding token_at number_at
digits_at n more h d =
    let all = all_digits n h in
    let some : 0 < length (decimal n) = decimal_nonempty n (omega arith) in
    let len = passes is_digit (decimal n) more all (no_digit (slice_index more 0) d.name) refl in
    rw (first_passes is_digit (decimal n) more some all, len, take-append_seam (decimal n) more, decimal_read n h) refl

-- letters are no digits
letter_no_digit : (c : ℕ) → is_letter c ≡ true → is_digit c ≡ false
letter_no_digit c h = grind (arith, nat_tests)

-- the parts of a name
pub record NameParts (name : List ℕ) : Type 0 where
  pub letter : is_letter (slice_index name 0) ≡ true
  pub bytes : list_all is_name_byte name ≡ true

pub name_parts : (name : List ℕ) → is_name name ≡ true → NameParts name
name_parts name h =
    let a = and_parts (is_letter (slice_index name 0)) _ h in
    record { letter = a.0; bytes = (and_parts (list_all is_name_byte name) _ a.1).0 }

pub front_letter : (name more : List ℕ) → is_letter (slice_index name 0) ≡ true → is_letter (slice_index (name ++ more) 0) ≡ true
front_letter [] more h = cc
front_letter (c ∷ cs) more h = h

no_coordinate : (more : List ℕ) → (slice_index more 0 == 46) ≡ false → is_coordinate more ≡ false
no_coordinate more h = rw h refl

pub name_at : (name more : List ℕ) → is_name name ≡ true → Delimited more → token_at (name ++ more) ≡ Some (token.Name name, length name)
unfolding token_at word_at
name_at name more h d =
    let parts = name_parts name h in
    let letter = front_letter name more parts.letter in
    let len = passes is_name_byte name more parts.bytes d.name refl in
    rw (letter_no_digit (slice_index (name ++ more) 0) letter, letter, len, take-append_seam name more, h, drop-append_seam name more, no_coordinate more d.dot) refl

-- a name and a coordinate
pub coordinate_at : (name tail more : List ℕ) → is_name name ≡ true → is_name_byte (slice_index (tail ++ more) 0) ≡ false → is_coordinate (tail ++ more) ≡ true → length tail ≡ 2 → token_at (name ++ (tail ++ more)) ≡ Some (token.Name (name ++ tail), length name + 2)
unfolding token_at word_at
coordinate_at name tail more h e k two =
    let parts = name_parts name h in
    let letter = front_letter name (tail ++ more) parts.letter in
    let len = passes is_name_byte name (tail ++ more) parts.bytes e refl in
    let cut : take (length name + 2) (name ++ (tail ++ more)) ≡ name ++ tail =
    take-append-add name (tail ++ more) 2 ∙ ap (λ (xs : List ℕ). name ++ xs) (ap (λ n. take n (tail ++ more)) (sym two) ∙ take-append_seam tail more) in
    rw (letter_no_digit (slice_index (name ++ (tail ++ more)) 0) letter, letter, len, take-append_seam name (tail ++ more), h, drop-append_seam name (tail ++ more), k, cut) refl

-- the token of a reference, its bytes and what is behind them
pub reference_at : (bytes more : List ℕ) → IsReference bytes → Delimited more → token_at (bytes ++ more) ≡ Some (token.Name bytes, length bytes)
reference_at bytes more (inl h) d = name_at bytes more h d
reference_at bytes more (inr r) d = elim r.2 [
  | inl e ↦ of (codes ".x") e refl refl refl
  | inr e ↦ of (codes ".y") e refl refl refl
]
  where
    size : (tail : List ℕ) → length tail ≡ 2 → length r.0 + 2 ≡ length (r.0 ++ tail)
    size tail two = omega (arith, two, length-append r.0 tail)

    of : (tail : List ℕ) → bytes ≡ r.0 ++ tail → is_name_byte (slice_index (tail ++ more) 0) ≡ false → is_coordinate (tail ++ more) ≡ true → length tail ≡ 2 → token_at (bytes ++ more) ≡ Some (token.Name bytes, length bytes)
    of tail e a b two =
        let P : List ℕ → Type 0 = λ xs. token_at (xs ++ more) ≡ Some (token.Name xs, length xs) in
        subst P (sym e) (ap token_at (append_assoc r.0 tail more) ∙ coordinate_at r.0 tail more r.1 a b two ∙ ap (λ n. Some (token.Name (r.0 ++ tail), n)) (size tail two))
