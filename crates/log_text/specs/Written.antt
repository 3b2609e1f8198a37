-- The fields of a line, as they are written.
use Rattle.std.specs.Prelude.{ℕ, List, [], ◌∷◌, ◌++◌}
use Rattle.std.specs.Fmt.{signed_decimal}
use Rattle.log_spelling.specs.References.{reference_text}
use Rattle.log_text.specs.declared.field.Field.{Field}
use Rattle.log_text.specs.declared.field.Field.TheVariants as field

-- between double quotes
abbrev pub quoted : List ℕ → List ℕ
quoted text = 34 ∷ (text ++ 34 ∷ [])

abbrev pub field_text : Field → List ℕ
field_text (field.Text text) = text.now
field_text (field.Reference name part) = reference_text name.now part
field_text (field.Number n) = signed_decimal n
field_text (field.Quoted text) = quoted text.now
