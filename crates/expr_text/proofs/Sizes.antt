-- A token takes some bytes of the text, and no more than there are.
use Rattle.std.proofs.Common.{◌≡◌, ℕ, ◌<◌, ◌≤◌, ◌==◌, ◌&&◌, Bool, true, false, cond, List, [], ◌∷◌, length, take, drop, Option, Some, None, refl, subst, arith}
use Rattle.std.specs.Prelude.{option_map, pos, slice_index}
use Rattle.std.specs.List.{prefix_len}
use Rattle.std.proofs.lemmas.List.{length-drop}
use Rattle.std.proofs.lemmas.List.Sums.{prefix_len-le-length}
use Rattle.log_spelling.specs.Names.{is_letter, is_name, is_name_byte}
use Rattle.log_spelling.specs.Numbers.{is_digit, magnitude_of}
use Rattle.expr_text.specs.declared.token.Token.{Token}
use Rattle.expr_text.specs.declared.token.Token.TheVariants as token
use Rattle.expr_text.specs.Spelling.{Found, function_of, is_coordinate, number_at, symbol_at, token_at, word_at}

-- between one byte and all of so many
abbrev Fits : ℕ → Found → Type 0
Fits most None = Unit {0}
Fits most (Some found) = (0 < found.1) × (found.1 ≤ most)

pick : (P : Found → Type 0) (b : Bool) (x y : Found) → (b ≡ true → P x) → (b ≡ false → P y) → P (cond b x y)
pick P true x y h k = h refl
pick P false x y h k = k refl

-- the first byte passes
some_pass : (p : ℕ → Bool) (text : List ℕ) → p 0 ≡ false → p (slice_index text 0) ≡ true → 0 < prefix_len p text
some_pass p [] z h = absurd (clash (p 0) z h)
  where
    clash : (b : Bool) → b ≡ false → b ≡ true → ⊥
    clash b e f = cc
some_pass p (c ∷ cs) z h = rw h (omega arith)

number_fits : (text : List ℕ) → is_digit (slice_index text 0) ≡ true → Fits (length text) (number_at text)
unfolding number_at
number_fits text h = of (magnitude_of (take (prefix_len is_digit text) text))
  where
    of : (m : Option ℕ) → Fits (length text) (option_map (λ value. (token.Number (pos value), prefix_len is_digit text)) m)
    of None = tt
    of (Some value) = (some_pass is_digit text refl h, prefix_len-le-length is_digit text)

letter_is_name_byte : (c : ℕ) → is_letter c ≡ true → is_name_byte c ≡ true
letter_is_name_byte c h = rw h refl

-- `.x` is two bytes
coordinate_fits : (text : List ℕ) → is_coordinate text ≡ true → 2 ≤ length text
coordinate_fits [] h = cc
coordinate_fits (a ∷ []) h = absurd (no (a == 46) h)
  where
    no : (b : Bool) → (b && false) ≡ true → ⊥
    no true e = cc
    no false e = cc
coordinate_fits (a ∷ b ∷ cs) h = omega arith

word_fits : (text : List ℕ) → is_letter (slice_index text 0) ≡ true → Fits (length text) (word_at text)
unfolding word_at
word_fits text h =
    let n = prefix_len is_name_byte text in
    let some : 0 < n = some_pass is_name_byte text refl (letter_is_name_byte (slice_index text 0) h) in
    let most : n ≤ length text = prefix_len-le-length is_name_byte text in
    pick (Fits (length text)) (is_name (take n text)) _ _
    (λ _. pick (Fits (length text)) (is_coordinate (drop n text)) _ _
    (λ e. let two : 2 ≤ length (drop n text) = coordinate_fits (drop n text) e in (omega arith, omega (arith, two, length-drop n text)))
    (λ _. (some, most)))
    (λ _. of (function_of (take n text)) some most)
  where
    of : (m : Option Token) → 0 < prefix_len is_name_byte text → prefix_len is_name_byte text ≤ length text → Fits (length text) (option_map (λ function. (function, prefix_len is_name_byte text)) m)
    of None some most = tt
    of (Some f) some most = (some, most)

symbol_fits : (c next most : ℕ) → 1 ≤ most → ((next == 61) ≡ true → 2 ≤ most) → Fits most (symbol_at c next)
unfolding symbol_at
symbol_fits c next most one two =
    let P = Fits most in
    pick P (c == 43) _ _ (λ _. (omega arith, one)) (λ _.
    pick P (c == 45) _ _ (λ _. (omega arith, one)) (λ _.
    pick P (c == 42) _ _ (λ _. (omega arith, one)) (λ _.
    pick P (c == 40) _ _ (λ _. (omega arith, one)) (λ _.
    pick P (c == 41) _ _ (λ _. (omega arith, one)) (λ _.
    pick P (c == 44) _ _ (λ _. (omega arith, one)) (λ _.
    pick P (c == 61) _ _ (λ _. (omega arith, one)) (λ _.
    pick P (c == 60) _ _ (λ _. pick P (next == 61) _ _ (λ e. (omega arith, two e)) (λ _. (omega arith, one))) (λ _.
    pick P (c == 62) _ _ (λ _. pick P (next == 61) _ _ (λ e. (omega arith, two e)) (λ _. (omega arith, one))) (λ _. tt)))))))))

symbol_of : (text : List ℕ) → Fits (length text) (symbol_at (slice_index text 0) (slice_index text 1))
unfolding symbol_at
symbol_of [] = tt
symbol_of (c ∷ []) = symbol_fits c 0 1 (omega arith) (λ e. cc)
symbol_of (c ∷ d ∷ cs) = symbol_fits c d (length (c ∷ d ∷ cs)) (omega arith) (λ _. omega arith)

fits : (text : List ℕ) → Fits (length text) (token_at text)
unfolding token_at
fits text =
    pick (Fits (length text)) (is_digit (slice_index text 0)) _ _ (λ e. number_fits text e) (λ _.
    pick (Fits (length text)) (is_letter (slice_index text 0)) _ _ (λ e. word_fits text e) (λ _. symbol_of text))

pub token_size : (text : List ℕ) (t : Token) (size : ℕ) → token_at text ≡ Some (t, size) → (0 < size) × (size ≤ length text)
token_size text t size e = let P : Found → Type 0 = Fits (length text) in subst P e (fits text)
