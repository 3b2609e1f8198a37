-- A line of a text: fields with commas between, ended by byte 10. A bare field has no comma, quote or line end.
use Rattle.std.specs.Prelude.{◌≡◌, ℕ, ◌<◌, ◌==◌, ◌||◌, Bool, false, List, [], ◌∷◌, ◌++◌, length, slice_index, flat_map}
use Rattle.std.specs.List.{list_any}
use Rattle.csv_rows.specs.Records.{Record}

abbrev pub is_special : ℕ → Bool
is_special b = (b == 44) || ((b == 34) || ((b == 10) || (b == 13)))

abbrev pub IsBare : List ℕ → Type 0
IsBare field = list_any is_special field ≡ false

abbrev pub AllBare : List (List ℕ) → Type 0
AllBare [] = Unit {0}
AllBare (field ∷ fields) = IsBare field × AllBare fields

-- the other fields of a line
abbrev pub others : List (List ℕ) → List ℕ
others [] = []
others (field ∷ fields) = 44 ∷ (field ++ others fields)

abbrev pub line : Record → List ℕ
line [] = 10 ∷ []
line (field ∷ fields) = field ++ (others fields ++ 10 ∷ [])

-- a record whose line is read again: bare fields, of which the first begins with an ASCII byte
abbrev pub IsPlain : Record → Type 0
IsPlain [] = ⊥
IsPlain (field ∷ fields) = (0 < length field) × (slice_index field 0 < 128) × IsBare field × AllBare fields

abbrev pub AllPlain : List Record → Type 0
AllPlain [] = Unit {0}
AllPlain (r ∷ rs) = IsPlain r × AllPlain rs

-- the lines of records
abbrev pub lines : List Record → List ℕ
lines rs = flat_map line rs
