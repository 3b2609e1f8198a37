-- How a name is spelled: a letter, then letters, digits and underscores.
use Rattle.std.specs.Prelude.{ℕ, Bool, not, ◌==◌, ◌&&◌, ◌||◌, nat_le, List, length, codes, bytes_eq, slice_index}
use Rattle.std.specs.List.{list_all}
use Rattle.log_spelling.specs.Numbers.{is_digit}

abbrev pub is_letter : ℕ → Bool
is_letter c = (nat_le 65 c && nat_le c 90) || (nat_le 97 c && nat_le c 122)

abbrev pub is_name_byte : ℕ → Bool
is_name_byte c = is_letter c || (is_digit c || (c == 95))

-- the functions of expressions, which name nothing else
abbrev pub is_reserved : List ℕ → Bool
is_reserved cs = bytes_eq cs (codes "sqr") || (bytes_eq cs (codes "abs") || (bytes_eq cs (codes "min") || bytes_eq cs (codes "max")))

-- a letter and then letters, digits and underscores, 32 bytes at most, and no reserved word
abbrev pub is_name : List ℕ → Bool
is_name cs = is_letter (slice_index cs 0) && (list_all is_name_byte cs && (nat_le (length cs) 32 && not (is_reserved cs)))
