-- A number that is printed is read again.
use Rattle.std.proofs.Common.{◌≡◌, ℕ, ℤ, pos, negsuc, suc, ◌+◌, ◌-◌, ◌*◌, ◌/◌, ◌%◌, ◌<◌, ◌≤◌, ◌==◌, ◌&&◌, Bool, true, false, List, [], ◌∷◌, ◌++◌, Some, length, refl, ap, ◌∙◌, arith, nat_le}
use Rattle.std.specs.Prelude.{decimal, option_map}
use Rattle.std.specs.Fmt.{signed_decimal}
use Rattle.std.specs.Prelude.{unsigned_abs}
use Rattle.std.specs.List.{list_all}
use Rattle.std.proofs.lemmas.Bool.Decides.{nat_tests}
use Rattle.std.proofs.lemmas.Fmt.{decimal_by_steps, decimal_nonempty, length-decimal-le}
use Rattle.std.proofs.lemmas.List.Folds.{list_all-append}
use Rattle.log_spelling.specs.Numbers.{digits_value, is_digit, magnitude_of, number_of}

-- one more digit
digits_last : (a : ℕ) (ds : List ℕ) (d : ℕ) → digits_value a (ds ++ d ∷ []) ≡ 10 * digits_value a ds + (d - 48)
digits_last a [] d = refl
digits_last a (c ∷ ds) d = digits_last (10 * a + (c - 48)) ds d

-- the digits of n stand for n
abbrev StandsFor : ℕ → List ℕ → Type 0
StandsFor n ds = (list_all is_digit ds ≡ true) × (digits_value 0 ds ≡ n)

digit_is : (m : ℕ) → m < 10 → is_digit (48 + m) ≡ true
digit_is m h = grind (arith, nat_tests)

one_digit : (n : ℕ) → n < 10 → StandsFor n ((48 + n) ∷ [])
one_digit n h = (rw (digit_is n h) refl, omega arith)

more_digits : (n : ℕ) (ds : List ℕ) → 10 ≤ n → StandsFor (n / 10) ds → StandsFor n (ds ++ (48 + n % 10) ∷ [])
more_digits n ds h p =
    let small : n % 10 < 10 = omega arith in (
      rw (list_all-append, p.0, digit_is (n % 10) small) refl,
      digits_last 0 ds (48 + n % 10) ∙ rw p.1 (omega arith),
    )

pub decimal_read : (n : ℕ) → n < 1000000000000000000 → magnitude_of (decimal n) ≡ Some n
decimal_read n h =
    let stands = decimal_by_steps StandsFor one_digit more_digits n (omega arith) in
    let some : 0 < length (decimal n) = decimal_nonempty n (omega arith) in
    let short : length (decimal n) ≤ 18 = length-decimal-le 18 n (omega arith) (omega arith) (omega arith) in
    read (decimal n) some short stands
  where
    read : (ds : List ℕ) → 0 < length ds → length ds ≤ 18 → StandsFor n ds → magnitude_of ds ≡ Some n
    read ds some short p =
        let least : nat_le 1 (length ds) ≡ true = grind (arith, nat_tests) in
        let most : nat_le (length ds) 18 ≡ true = grind (arith, nat_tests) in
        rw (least, most, p.0, p.1) refl

-- digits with no sign
plain_number : (ds : List ℕ) (n : ℕ) → magnitude_of ds ≡ Some n → list_all is_digit ds ≡ true → number_of ds ≡ Some (pos n)
plain_number [] n e h = cc e
plain_number (c ∷ cs) n e h =
    let digit : is_digit c ≡ true = first (is_digit c) (list_all is_digit cs) h in
    let minus : (c == 45) ≡ false = grind (arith, nat_tests) in
    let plus : (c == 43) ≡ false = grind (arith, nat_tests) in
    rw (minus, plus) (ap (option_map pos) e)
  where
    first : (a b : Bool) → (a && b) ≡ true → a ≡ true
    first true b e = refl
    first false b e = e

pub all_digits : (n : ℕ) → n < 1000000000000000000 → list_all is_digit (decimal n) ≡ true
all_digits n h = (decimal_by_steps StandsFor one_digit more_digits n (omega arith)).0

-- a number of at most eighteen digits, with a minus where it is negative
pub number_read : (z : ℤ) → unsigned_abs z < 1000000000000000000 → number_of (signed_decimal z) ≡ Some z
number_read (pos n) h = let small : n < 1000000000000000000 = omega arith in plain_number (decimal n) n (decimal_read n small) (all_digits n small)
number_read (negsuc n) h = let small : suc n < 1000000000000000000 = omega arith in rw (decimal_read (suc n) small) refl
