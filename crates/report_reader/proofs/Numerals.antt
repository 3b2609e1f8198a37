-- Decimal texts and the numbers that they stand for.
use Rattle.std.proofs.Common.{◌≡◌, ℕ, pos, neg_ℤ, zero, suc, ◌^◌, ◌<◌, ◌≤◌, true, List, ◌∷◌, length, get_or, refl, sym, ap, ◌∙◌, subst, arith, rules}
use Rattle.std.specs.Prelude.{decimal}
use Rattle.std.specs.Fmt.{signed_decimal}
use Rattle.std.specs.List.{list_all}
use Rattle.std.proofs.Math.Nat.{pow-le-pow_right}
use Rattle.std.proofs.lemmas.Fmt.{decimal_digit, decimal_nonempty, decimal-digits_value, decimal_injective, digits_decimal, first_decimal, length-decimal-le}
use Rattle.std.proofs.lemmas.Str.Parse.{IsNumeralModel, numerals_by_fold}
use Rattle.log_spelling.specs.Numbers.{digits_value, is_digit}
use Rattle.report_reader.specs.Words.{Lacks}
use Rattle.report_reader.proofs.Cuts.{decimal_lacks, lacks_parts}

-- digits and their value, as std has them
own : IsNumeralModel (λ ds. list_all is_digit ds ≡ true) (digits_value 0)
own = numerals_by_fold _ (search rules) digits_value (search rules)

-- at most nineteen digits are below 10 ^ 19
pub below_19 : (n i : ℕ) → n < 10 ^ i → i ≤ 19 → n < 10000000000000000000
below_19 n i h k = let most : 10 ^ i ≤ 10 ^ 19 = pow-le-pow_right {n = 10} (omega arith) k in omega arith

-- at most eighteen digits are below 10 ^ 18
pub below_18 : (n i : ℕ) → n < 10 ^ i → i ≤ 18 → n < 1000000000000000000
below_18 n i h k = let most : 10 ^ i ≤ 10 ^ 18 = pow-le-pow_right {n = 10} (omega arith) k in omega arith

-- ---- counts

-- digits with no leading zero are what is printed of their value
pub digits_printed : (word : List ℕ) (n : ℕ) → list_all is_digit word ≡ true → n ≡ digits_value 0 word → 0 < length word → (get_or word 0 0 ≡ 48 → length word ≡ 1) → n < 10000000000000000000 → decimal n ≡ word
digits_printed word n digits e some led small =
    let least : digits_value 0 word < 2 ^ 64 = omega arith in
    ap decimal e ∙ decimal-digits_value own word digits some led least

pub decimal_some : (n : ℕ) (word : List ℕ) → n < 10000000000000000000 → decimal n ≡ word → 0 < length word
decimal_some n word small e = subst (λ (w : List ℕ). 0 < length w) e (decimal_nonempty n (omega arith))

pub decimal_short : (n : ℕ) (word : List ℕ) → n < 10000000000000000000 → decimal n ≡ word → length word ≤ 19
decimal_short n word small e = subst (λ (w : List ℕ). length w ≤ 19) e (length-decimal-le 19 n (omega arith) (omega arith) (omega arith))

-- a leading zero stands alone
pub decimal_led : (n : ℕ) (word : List ℕ) → n < 10000000000000000000 → decimal n ≡ word → 1 < length word → get_or word 0 0 ≡ 48 → ⊥
decimal_led zero word small e long led = let one : length word ≡ 1 = ap length (sym e ∙ decimal_digit 0 (omega arith)) in omega arith
decimal_led (suc n) word small e long led =
    let first : 48 < get_or word 0 0 = subst (λ (w : List ℕ). 48 < get_or w 0 0) e (first_decimal (suc n) (omega arith) (omega arith)) in
    omega arith

pub decimal_digits : (n : ℕ) (word : List ℕ) → n < 10000000000000000000 → decimal n ≡ word → list_all is_digit word ≡ true
decimal_digits n word small e = subst (λ (w : List ℕ). list_all is_digit w ≡ true) e (digits_decimal own n (omega arith))

pub same_count : (m n : ℕ) → m < 10000000000000000000 → n < 10000000000000000000 → decimal m ≡ decimal n → m ≡ n
same_count m n h k e = decimal_injective m n (omega arith) (omega arith) e

-- ---- signed numbers

pub signed_negative : (n : ℕ) → 0 < n → signed_decimal (neg_ℤ (pos n)) ≡ 45 ∷ decimal n
signed_negative zero h = absurd (omega arith)
signed_negative (suc n) h = refl

-- a count has no minus
pub unsigned_text : (n : ℕ) (digits : List ℕ) → n < 2 ^ 64 → decimal n ≡ 45 ∷ digits → ⊥
unsigned_text n digits h e = (lacks_parts 45 45 digits (subst (λ (w : List ℕ). Lacks 45 w) e (decimal_lacks 45 n (omega arith) h))).0 refl
