-- How a number is spelled: a sign or none, and one to eighteen digits.
use Rattle.std.specs.Prelude.{ℕ, ◌+◌, ◌-◌, ◌*◌, Bool, ◌==◌, ◌&&◌, nat_le, List, [], ◌∷◌, length, Option, Some, None, option_map, if◌then◌else◌, ℤ, pos, neg_ℤ}
use Rattle.std.specs.List.{list_all}

abbrev pub is_digit : ℕ → Bool
is_digit c = nat_le 48 c && nat_le c 57

-- the value of digits, after a number that came before
abbrev pub digits_value : ℕ → List ℕ → ℕ
digits_value n [] = n
digits_value n (d ∷ ds) = digits_value (10 * n + (d - 48)) ds

-- one to eighteen digits, where leading zeros count
abbrev pub are_digits : List ℕ → Bool
are_digits ds = nat_le 1 (length ds) && (nat_le (length ds) 18 && list_all is_digit ds)

abbrev pub magnitude_of : List ℕ → Option ℕ
magnitude_of ds = if are_digits ds then Some (digits_value 0 ds) else None

-- the number that a field spells: `-` or `+` or no sign, and then digits
abbrev pub number_of : List ℕ → Option ℤ
number_of [] = None
number_of (c ∷ cs) =
    if c == 45 then option_map (λ n. neg_ℤ (pos n)) (magnitude_of cs)
    else if c == 43 then option_map pos (magnitude_of cs)
    else option_map pos (magnitude_of (c ∷ cs))
