-- What a text is by the grammar, and which bytes the canonical text of a relation has.
use Rattle.std.specs.Prelude.{◌≡◌, ◌≢◌, ℕ, ◌<◌, ◌&&◌, ◌||◌, Bool, false, nat_le, List, length, All}
use Rattle.std.specs.List.{AllPass}
use Rattle.log_spelling.specs.Blanks.{is_note, trimmed}
use Rattle.log_spelling.specs.Names.{is_name_byte}
use Rattle.expr_tree.specs.Trees.{Relation}
use Rattle.expr_text.specs.Grammar.{RelationPhrase, phrase_relation}
use Rattle.expr_text.specs.Reading.{FaultAt, IsWithinLimits, PassesALimit, Spells}

-- the text is a phrase within the limits, and this is its relation
pub record Means (text : List ℕ) (r : Relation) : Type 0 where
  pub phrase : RelationPhrase
  pub spells : Spells text phrase
  pub within : IsWithinLimits phrase
  pub relation : phrase_relation phrase ≡ r

-- the text is a phrase that passes a limit
pub record IsTooLarge (text : List ℕ) : Type 0 where
  pub phrase : RelationPhrase
  pub spells : Spells text phrase
  pub passes : PassesALimit phrase

-- the text is no relation: its first fault stands somewhere
pub record IsFaulty (text : List ℕ) : Type 0 where
  pub place : ℕ
  pub fault : FaultAt text place

-- a byte of a name or a number, one of `()*+,-.`, or one of `<=>`
abbrev pub is_formula_byte : ℕ → Bool
is_formula_byte c = is_name_byte c || ((nat_le 40 c && nat_le c 46) || (nat_le 60 c && nat_le c 62))

-- A field of a log can hold the text, in double quotes where it has a comma: it is not empty, no byte of it is a double quote or
-- ends a line, it has no blank at its ends, and it begins no note.
pub record IsFieldText (text : List ℕ) : Type 0 where
  pub some : 0 < length text
  pub bytes : AllPass is_formula_byte text
  pub no_quote : All (λ c. c ≢ 34) text
  pub no_feed : All (λ c. c ≢ 10) text
  pub no_return : All (λ c. c ≢ 13) text
  pub trimmed : trimmed text ≡ text
  pub no_note : is_note text ≡ false
