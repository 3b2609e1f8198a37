-- Texts that are read as a number of 64 bits.
use Rattle.std.proofs.Common.{◌≡◌, ℕ, ◌<◌, ◌^◌, Bool, true, false, cond, refl, arith}
use Rattle.std.specs.Str.Parse.{IsNumeral, digits_value, without_leading_plus}
use Rattle.clap.specs.Values.{Accepts}
use Rattle.clap.specs.ValueTests.{is_unsigned_in}
use Rattle.clap.specs.Walk.{Text}
use Rattle.clap.specs.declared.builder.value_parser.ValueParser.TheVariants.{Unsigned}
use Rattle.clap.proofs.ValueTestLemmas.{Accepts-accepts, accepts-Accepts}
use Rattle.cli_words.specs.Asked.{number_in}

-- a text that is read as a number
pub number_read : (t : Text) (n : ℕ) → IsNumeral 10 (without_leading_plus t) → digits_value 10 (without_leading_plus t) < 2 ^ 64 → n ≡ digits_value 10 (without_leading_plus t) → n ≡ number_in t
number_read t n num small e =
    let test : is_unsigned_in 0 18446744073709551615 t ≡ true = Accepts-accepts false (Unsigned 0 18446744073709551615) t (num, small, omega arith, omega arith) in
    rw test e

-- a text that is read as none
pub number_not : (t : Text) → (IsNumeral 10 (without_leading_plus t) × (digits_value 10 (without_leading_plus t) < 2 ^ 64) → ⊥) → 0 ≡ number_in t
number_not t none = go (is_unsigned_in 0 18446744073709551615 t) refl
  where
    go : (b : Bool) → is_unsigned_in 0 18446744073709551615 t ≡ b → 0 ≡ cond b (digits_value 10 (without_leading_plus t)) 0
    go true e = let h : Accepts false (Unsigned 0 18446744073709551615) t = accepts-Accepts false (Unsigned 0 18446744073709551615) t e in absurd (none (h.0, h.1))
    go false e = refl
