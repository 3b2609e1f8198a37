-- The texts by which records name signals, variables and beacons, by their numbers.
use Rattle.std.specs.Prelude.{ℕ, List, [], ◌∷◌, ◌++◌, Option, Some, None, flat_map, replicate, slice_index_or, codes}
use Rattle.tube_store.specs.declared.SignalId.{SignalId}
use Rattle.tube_store.specs.declared.VarId.{VarId}
use Rattle.log_spelling.specs.References.{reference_text}
use Rattle.log_spelling.specs.declared.reference.Part.TheVariants as part
use Rattle.mission_items.specs.Made.{variables_made}
use Rattle.mission_items.specs.declared.item.Item.{Item}
use Rattle.mission_items.specs.declared.item.Item.TheVariants as item

-- ---- what a record declares

abbrev pub signal_text : Item → List (List ℕ)
signal_text (item.Signal name range) = name ∷ []
signal_text i = []

-- a beacon's coordinates are its name with `.x` and `.y`; a variable that has no name has no text
abbrev pub variable_texts : Item → List (List ℕ)
variable_texts (item.Variable name range) = reference_text name part.Whole ∷ []
variable_texts (item.Beacon name x y) = reference_text name part.X ∷ reference_text name part.Y ∷ []
variable_texts i = replicate (variables_made i) []

abbrev pub beacon_text : Item → List (List ℕ)
beacon_text (item.Beacon name x y) = name ∷ []
beacon_text i = []

-- ---- by number

-- the texts of all signals, variables and beacons, in order of declaration
pub record NameTexts : Type 0 where
  pub signals : List (List ℕ)
  pub variables : List (List ℕ)
  pub beacons : List (List ℕ)

abbrev pub texts_of : List Item → NameTexts
texts_of items = record { signals = flat_map signal_text items; variables = flat_map variable_texts items; beacons = flat_map beacon_text items }

-- one record more
abbrev pub texts_with : NameTexts → Item → NameTexts
texts_with names i = record {
  signals = names.signals ++ signal_text i;
  variables = names.variables ++ variable_texts i;
  beacons = names.beacons ++ beacon_text i;
}

abbrev pub signal_name : NameTexts → SignalId → List ℕ
signal_name names x = slice_index_or names.signals x.0 []

abbrev pub variable_name : NameTexts → VarId → List ℕ
variable_name names v = slice_index_or names.variables v.0 []

-- `?` where the beacon is not known
abbrev pub beacon_name : NameTexts → Option ℕ → List ℕ
beacon_name names None = codes "?"
beacon_name names (Some place) = slice_index_or names.beacons place []
