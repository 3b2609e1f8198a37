-- A text with no blank in it is trimmed already.
use Rattle.std.proofs.Common.{◌≡◌, ℕ, ◌<◌, ◌&&◌, not, Bool, true, false, List, [], ◌∷◌, refl, ap, ◌∙◌, arith, ℤ, pos, negsuc, suc}
use Rattle.std.specs.Prelude.{decimal}
use Rattle.std.specs.Fmt.{signed_decimal}
use Rattle.std.specs.Prelude.{unsigned_abs}
use Rattle.std.specs.List.{list_all}
use Rattle.std.proofs.lemmas.Bool.Decides.{nat_tests}
use Rattle.log_spelling.specs.Blanks.{is_blank, trimmed, without_back, without_front}
use Rattle.log_spelling.specs.Names.{is_name, is_name_byte}
use Rattle.log_spelling.specs.Numbers.{is_digit}
use Rattle.log_spelling.proofs.Printed.{all_digits}

-- a byte that is no blank
abbrev pub is_solid : ℕ → Bool
is_solid c = not (is_blank c)

pub and_parts : (a b : Bool) → (a && b) ≡ true → (a ≡ true) × (b ≡ true)
and_parts true b e = (refl, e)
and_parts false b e = cc

not_true : (b : Bool) → not b ≡ true → b ≡ false
not_true true e = cc
not_true false e = refl

back_solid : (cs : List ℕ) → list_all is_solid cs ≡ true → without_back cs ≡ cs
back_solid [] h = refl
back_solid (c ∷ cs) h =
    let p = and_parts (is_solid c) (list_all is_solid cs) h in
    rw (not_true (is_blank c) p.0, back_solid cs p.1) refl

front_solid : (cs : List ℕ) → list_all is_solid cs ≡ true → without_front cs ≡ cs
front_solid [] h = refl
front_solid (c ∷ cs) h = rw (not_true (is_blank c) (and_parts (is_solid c) (list_all is_solid cs) h).0) refl

pub trimmed_solid : (cs : List ℕ) → list_all is_solid cs ≡ true → trimmed cs ≡ cs
trimmed_solid cs h = ap without_back (front_solid cs h) ∙ back_solid cs h

-- a test that is met by each element, where a stronger one is
pub all_weaker : (p q : ℕ → Bool) (cs : List ℕ) → ((c : ℕ) → p c ≡ true → q c ≡ true) → list_all p cs ≡ true → list_all q cs ≡ true
all_weaker p q [] w h = refl
all_weaker p q (c ∷ cs) w h =
    let e = and_parts (p c) (list_all p cs) h in
    rw (w c e.0, all_weaker p q cs w e.1) refl

digit_solid : (c : ℕ) → is_digit c ≡ true → is_solid c ≡ true
digit_solid c h = grind (arith, nat_tests)

pub name_byte_solid : (c : ℕ) → is_name_byte c ≡ true → is_solid c ≡ true
name_byte_solid c h = grind (arith, nat_tests)

pub name_trimmed : (name : List ℕ) → is_name name ≡ true → trimmed name ≡ name
name_trimmed name h =
    let bytes = (and_parts (list_all is_name_byte name) _ (and_parts _ _ h).1).0 in
    trimmed_solid name (all_weaker is_name_byte is_solid name name_byte_solid bytes)

pub number_trimmed : (z : ℤ) → unsigned_abs z < 1000000000000000000 → trimmed (signed_decimal z) ≡ signed_decimal z
number_trimmed (pos n) h = trimmed_solid (decimal n) (all_weaker is_digit is_solid (decimal n) digit_solid (all_digits n h))
number_trimmed (negsuc n) h = trimmed_solid (45 ∷ decimal (suc n)) (all_weaker is_digit is_solid (decimal (suc n)) digit_solid (all_digits (suc n) (omega arith)))
