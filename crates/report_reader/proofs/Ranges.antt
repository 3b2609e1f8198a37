-- What is read of signed numbers and of ranges.
use Rattle.std.proofs.Common.{◌≡◌, ℕ, ℤ, pos, negsuc, neg_ℤ, suc, ◌^◌, ◌<◌, ◌≤◌, ◌≤ℤ◌, ◌↔◌, true, false, List, ◌∷◌, ◌++◌, length, get_or, refl, sym, ap, ◌∙◌, subst, arith, Option, Some, None, IfSome, IsSome, MatchOption}
use Rattle.std.specs.Prelude.{decimal, unsigned_abs}
use Rattle.std.specs.Fmt.{signed_decimal}
use Rattle.std.specs.List.{list_all}
use lib.Signed.{mag}
use Rattle.std.proofs.lemmas.Bool.{both_ways, false≢true}
use Rattle.std.proofs.lemmas.Fmt.{signed_decimal_injective}
use Rattle.std.proofs.lemmas.Int.{ints}
use Rattle.log_spelling.specs.Numbers.{digits_value, is_digit}
use Rattle.tube_spec.specs.Span.{Span}
use Rattle.report_reader.specs.Words.{IsCut, IsInterval, Reads, range_text}
use Rattle.report_reader.proofs.Cuts.{cut_is, signed_lacks}
use Rattle.report_reader.proofs.Numerals.{decimal_digits, digits_printed, same_count, unsigned_text}

-- ---- counts

pub count_read : (word : List ℕ) (r : Option ℕ) → MatchOption r (list_all is_digit word ≡ false) (λ n. (list_all is_digit word ≡ true) × (n ≡ digits_value 0 word)) → IfSome r (λ n. n < 10000000000000000000)
    → 0 < length word → (get_or word 0 0 ≡ 48 → length word ≡ 1) → Reads decimal (λ n. n < 10000000000000000000) word r
count_read word None value small some led = λ v h e. both_ways (list_all is_digit word) value (decimal_digits v word h e)
count_read word (Some n) value small some led = (small, digits_printed word n value.0 value.1 some led small)

-- ---- signed numbers

pub no_negative : (digits : List ℕ) → ((v : ℕ) → v ≤ 4000000000000000000 → decimal v ≡ digits → ⊥) → (z : ℤ) → unsigned_abs z ≤ 4000000000000000000 → signed_decimal z ≡ 45 ∷ digits → ⊥
no_negative digits none (pos n) h e = let small : n ≤ 4000000000000000000 = h in unsigned_text n digits (omega arith) e
no_negative digits none (negsuc n) h e = none (suc n) h cc

pub no_minus_zero : (digits : List ℕ) → decimal 0 ≡ digits → (z : ℤ) → unsigned_abs z ≤ 4000000000000000000 → signed_decimal z ≡ 45 ∷ digits → ⊥
no_minus_zero digits d (pos n) h e = let small : n ≤ 4000000000000000000 = h in unsigned_text n digits (omega arith) e
no_minus_zero digits d (negsuc n) h e =
    let small : suc n ≤ 4000000000000000000 = h in
    let tails : decimal (suc n) ≡ digits = cc in
    let same : suc n ≡ 0 = same_count (suc n) 0 (omega arith) (omega arith) (tails ∙ sym d) in
    omega arith

-- ---- ranges

small_bound : (z : ℤ) → neg_ℤ (pos 4000000000000000000) ≤ℤ z → z ≤ℤ pos 4000000000000000000 → unsigned_abs z ≤ 4000000000000000000
small_bound z h k = omega (arith, ints)

pub low_small : (v : Span) → IsInterval v → unsigned_abs v.lo ≤ 4000000000000000000
low_small v h = let proper : v.lo ≤ℤ v.hi = h.0 in let high : v.hi ≤ℤ pos 4000000000000000000 = h.1.high in small_bound v.lo h.1.low (omega (arith, ints))

pub high_small : (v : Span) → IsInterval v → unsigned_abs v.hi ≤ 4000000000000000000
high_small v h = let proper : v.lo ≤ℤ v.hi = h.0 in let low : neg_ℤ (pos 4000000000000000000) ≤ℤ v.lo = h.1.low in small_bound v.hi (omega (arith, ints)) h.1.high

-- a range is cut into its bounds
pub range_cut : (text front rest : List ℕ) → IsCut 32 text front rest → (v : Span) → IsInterval v → range_text v ≡ text → (signed_decimal v.lo ≡ front) × (signed_decimal v.hi ≡ rest)
range_cut text front rest p v h e =
    let small = low_small v h in
    cut_is 32 text front rest (signed_decimal v.lo) (signed_decimal v.hi) p (signed_lacks 32 v.lo (omega arith) (omega arith)) e

pub no_low_bound : (text front rest : List ℕ) → IsCut 32 text front rest → ((z : ℤ) → unsigned_abs z ≤ 4000000000000000000 → signed_decimal z ≡ front → ⊥) → (v : Span) → IsInterval v → range_text v ≡ text → ⊥
no_low_bound text front rest p none v h e = none v.lo (low_small v h) (range_cut text front rest p v h e).0

pub no_high_bound : (text front rest : List ℕ) → IsCut 32 text front rest → ((z : ℤ) → unsigned_abs z ≤ 4000000000000000000 → signed_decimal z ≡ rest → ⊥) → (v : Span) → IsInterval v → range_text v ≡ text → ⊥
no_high_bound text front rest p none v h e = none v.hi (high_small v h) (range_cut text front rest p v h e).1

small_mag : (z : ℤ) → unsigned_abs z ≤ 4000000000000000000 → mag z < 2 ^ 63
small_mag (pos n) h = let small : n ≤ 4000000000000000000 = h in omega arith
small_mag (negsuc n) h = let small : suc n ≤ 4000000000000000000 = h in omega arith

pub same_bound : (y z : ℤ) → unsigned_abs y ≤ 4000000000000000000 → unsigned_abs z ≤ 4000000000000000000 → signed_decimal y ≡ signed_decimal z → y ≡ z
same_bound y z h k e = signed_decimal_injective y z (small_mag y h) (small_mag z k) e

-- a range that has the bounds y and z where its words stand for lo and hi
pub range_read : (text front rest : List ℕ) (lo hi y z : ℤ) (r : Option Span) → IsCut 32 text front rest → unsigned_abs lo ≤ 4000000000000000000 → signed_decimal lo ≡ front → unsigned_abs hi ≤ 4000000000000000000 → signed_decimal hi ≡ rest
    → y ≡ lo → z ≡ hi → IfSome r (λ s. s ≡ record { lo = y; hi = z }) → IsSome r ↔ IsInterval (record { lo = y; hi = z }) → Reads range_text IsInterval text r
range_read text front rest lo hi y z None p sl el sh eh ey ez value exists = λ v h e.
    let parts = range_cut text front rest p v h e in
    let low : v.lo ≡ y = same_bound v.lo lo (low_small v h) sl (parts.0 ∙ sym el) ∙ sym ey in
    let high : v.hi ≡ z = same_bound v.hi hi (high_small v h) sh (parts.1 ∙ sym eh) ∙ sym ez in
    let one : IsInterval (record { lo = y; hi = v.hi }) = subst (λ (x : ℤ). IsInterval (record { lo = x; hi = v.hi })) low h in
    let both : IsInterval (record { lo = y; hi = z }) = subst (λ (x : ℤ). IsInterval (record { lo = y; hi = x })) high one in
    false≢true (exists.1 both)
range_read text front rest lo hi y z (Some s) p sl el sh eh ey ez value exists =
    let same : s ≡ record { lo = y; hi = z } = value in
    let low : signed_decimal y ≡ front = ap signed_decimal ey ∙ el in
    let high : signed_decimal z ≡ rest = ap signed_decimal ez ∙ eh in (
      subst IsInterval (sym same) (exists.0 refl),
      ap range_text same ∙ (ap (λ (w : List ℕ). w ++ 32 ∷ signed_decimal z) low ∙ (ap (λ (w : List ℕ). front ++ 32 ∷ w) high ∙ sym p.whole)),
    )
