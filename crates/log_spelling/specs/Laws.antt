-- What is true of every number, name, reference and kind that is printed and read again.
use Rattle.std.specs.Prelude.{◌≡◌, ℕ, ◌<◌, List, Some, ℤ, true}
use Rattle.std.specs.Fmt.{signed_decimal}
use Rattle.std.specs.Prelude.{unsigned_abs}
use Rattle.log_spelling.specs.Blanks.{trimmed}
use Rattle.log_spelling.specs.Names.{is_name}
use Rattle.log_spelling.specs.Numbers.{number_of}
use Rattle.log_spelling.specs.References.{bare_name, is_reference, part_of, reference_text}
use Rattle.log_spelling.specs.declared.reference.Part.{Part}
use Rattle.log_spelling.specs.Kinds.{kind_of, word_of}
use Rattle.log_spelling.specs.declared.kind.Kind.{Kind}

-- a number of at most eighteen digits is read again, and has no blank at its ends
abbrev pub NumbersAreRead : Type 0
NumbersAreRead = (z : ℤ) → unsigned_abs z < 1000000000000000000 → (number_of (signed_decimal z) ≡ Some z) × (trimmed (signed_decimal z) ≡ signed_decimal z)

-- a name has no blank at its ends
abbrev pub NamesAreTrimmed : Type 0
NamesAreTrimmed = (name : List ℕ) → is_name name ≡ true → trimmed name ≡ name

-- a name with a part is read as that name and that part
pub record IsReadAs (text name : List ℕ) (part : Part) : Type 0 where
  pub reference : is_reference text ≡ true
  pub bare : bare_name text ≡ name
  pub parted : part_of text ≡ part

-- and has no blank at its ends
abbrev pub ReferencesAreRead : Type 0
ReferencesAreRead = (name : List ℕ) (part : Part) → is_name name ≡ true → IsReadAs (reference_text name part) name part × (trimmed (reference_text name part) ≡ reference_text name part)

-- each text is that of its bare name with its part
abbrev pub ReferencesAreWhole : Type 0
ReferencesAreWhole = (text : List ℕ) → reference_text (bare_name text) (part_of text) ≡ text

-- the word for a kind stands for that kind
abbrev pub KindsAreRead : Type 0
KindsAreRead = (k : Kind) → kind_of (word_of k) ≡ Some k
