-- What has a text, and that it is read again.
use Rattle.std.specs.Prelude.{◌≡◌, ℕ, ◌<◌, ◌≤◌, ◌^◌, ◌⊎◌, true, List, ◌++◌, length, pos, negsuc, codes}
use Rattle.log_spelling.specs.Names.{is_name}
use Rattle.expr_tree.specs.Trees.{Tree, Number, Named, Apply, Join, Relation}
use Rattle.expr_tree.specs.Measures.{relation_depth, relation_nodes}
use Rattle.expr_text.specs.Grammar.{RelationPhrase, phrase_relation}
use Rattle.expr_text.specs.Reading.{IsWithinLimits, Spells}
use Rattle.expr_text.specs.Canonical.{relation_text}

-- a name, or a name with `.x` or `.y` after it
abbrev pub IsReference : List ℕ → Type 0
IsReference bytes =
    (is_name bytes ≡ true) ⊎ ((name : List ℕ) × (is_name name ≡ true) × ((bytes ≡ name ++ codes ".x") ⊎ (bytes ≡ name ++ codes ".y")))

-- Its numbers are not negative and have at most eighteen digits, and its names are spelled as names.
abbrev pub IsSpellable : Tree → Type 0
IsSpellable (Number (pos n)) = n < 1000000000000000000
IsSpellable (Number (negsuc n)) = ⊥
IsSpellable (Named name) = IsReference name
IsSpellable (Apply op a) = IsSpellable a
IsSpellable (Join op a b) = IsSpellable a × IsSpellable b

-- a relation within the limits whose numbers and names have a spelling
pub record IsPrintable (r : Relation) : Type 0 where
  pub left : IsSpellable r.left
  pub right : IsSpellable r.right
  pub nodes : relation_nodes r ≤ 256
  pub depth : relation_depth r ≤ 32

-- its canonical text is a relation within the limits, and that relation is the same
pub record IsReadAgain (r : Relation) : Type 0 where
  pub phrase : RelationPhrase
  pub spells : Spells (relation_text r) phrase
  pub within : IsWithinLimits phrase
  pub means : phrase_relation phrase ≡ r
  pub short : length (relation_text r) < 2 ^ 32

abbrev pub PrintedIsReadAgain : Type 0
PrintedIsReadAgain = (r : Relation) → IsPrintable r → IsReadAgain r
