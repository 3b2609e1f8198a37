-- How a variable is spelled: a name, or the name of a beacon and then `.x` or `.y`.
use Rattle.std.specs.Prelude.{ℕ, ◌-◌, Bool, List, [], ◌++◌, length, take, nat_eq, codes, if◌then◌else◌}
use Rattle.std.specs.List.{ends_with}
use Rattle.log_spelling.specs.Names.{is_name}
use Rattle.log_spelling.specs.declared.reference.Part.{Part}
use Rattle.log_spelling.specs.declared.reference.Part.TheVariants.{Whole, X, Y}

-- what stands after the name
abbrev pub part_text : Part → List ℕ
part_text Whole = []
part_text X = codes ".x"
part_text Y = codes ".y"

-- the text of a name with a part
abbrev pub reference_text : List ℕ → Part → List ℕ
reference_text name part = name ++ part_text part

-- the part that a text means: a coordinate where it ends with `.x` or `.y`, and else the whole
unfoldable pub part_of : List ℕ → Part
part_of text =
    if ends_with nat_eq text (codes ".x") then X
    else if ends_with nat_eq text (codes ".y") then Y
    else Whole

-- the text before its part
unfoldable pub bare_name : List ℕ → List ℕ
bare_name text = take (length text - length (part_text (part_of text))) text

-- a name, or a name and then `.x` or `.y`
abbrev pub is_reference : List ℕ → Bool
is_reference text = is_name (bare_name text)
