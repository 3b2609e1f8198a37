-- The fields of canonical text are bare.
use Rattle.std.proofs.Common.{◌≡◌, ℕ, suc, ◌<◌, Bool, true, false, List, [], ◌∷◌, refl, arith, ℤ, pos, negsuc}
use Rattle.std.specs.Prelude.{decimal, unsigned_abs}
use Rattle.std.specs.Fmt.{signed_decimal}
use Rattle.std.specs.List.{list_all}
use Rattle.std.proofs.lemmas.Bool.Decides.{nat_tests}
use Rattle.std.proofs.lemmas.List.Folds.{list_any-append}
use Rattle.csv_rows.specs.Lines.{IsBare, is_special}
use Rattle.log_spelling.specs.Names.{is_name, is_name_byte}
use Rattle.log_spelling.specs.Numbers.{is_digit}
use Rattle.log_spelling.specs.References.{part_text, reference_text}
use Rattle.log_spelling.specs.declared.reference.Part.{Part}
use Rattle.log_spelling.specs.declared.reference.Part.TheVariants as part
use Rattle.log_spelling.proofs.Printed.{all_digits}
use Rattle.log_spelling.proofs.Solid.{and_parts}

-- bytes that pass a test that no special byte passes
none_special : (test : ℕ → Bool) → ((c : ℕ) → test c ≡ true → is_special c ≡ false) → (cs : List ℕ) → list_all test cs ≡ true → IsBare cs
none_special test w [] h = refl
none_special test w (c ∷ cs) h =
    let e = and_parts (test c) (list_all test cs) h in
    rw (w c e.0, none_special test w cs e.1) refl

digit_bare : (c : ℕ) → is_digit c ≡ true → is_special c ≡ false
digit_bare c h = grind (arith, nat_tests)

name_byte_bare : (c : ℕ) → is_name_byte c ≡ true → is_special c ≡ false
name_byte_bare c h = grind (arith, nat_tests)

pub name_bare : (name : List ℕ) → is_name name ≡ true → IsBare name
name_bare name h = none_special is_name_byte name_byte_bare name (and_parts (list_all is_name_byte name) _ (and_parts _ _ h).1).0

pub number_bare : (z : ℤ) → unsigned_abs z < 1000000000000000000 → IsBare (signed_decimal z)
number_bare (pos n) h = none_special is_digit digit_bare (decimal n) (all_digits n h)
number_bare (negsuc n) h = none_special is_digit digit_bare (decimal (suc n)) (all_digits (suc n) (omega arith))

part_bare : (p : Part) → IsBare (part_text p)
part_bare part.Whole = refl
part_bare part.X = refl
part_bare part.Y = refl

pub reference_bare : (name : List ℕ) (p : Part) → is_name name ≡ true → IsBare (reference_text name p)
reference_bare name p h = rw (list_any-append, name_bare name h, part_bare p) refl
