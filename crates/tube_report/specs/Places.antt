-- The records that declare a name, each with its place: what the report of a section is written from.
use Rattle.std.specs.Prelude.{◌≡◌, ℕ, ◌+◌, ◌<◌, Bool, true, false, List, [], ◌∷◌, ◌++◌, length, take, slice_index_or, if◌then◌else◌}
use Rattle.mission_items.specs.Made.{signals_in, variables_in}
use Rattle.mission_items.specs.Names.{names_of}
use Rattle.mission_items.specs.declared.decl.Decl.{Decl}
use Rattle.mission_items.specs.declared.item.Item.{Item}
use Rattle.mission_items.specs.declared.item.Item.TheVariants as item
use Rattle.tube_report.specs.declared.listed.Place.{Place}

-- a signal, a variable and a beacon have a name
abbrev pub is_naming : Item → Bool
is_naming (item.Signal name range) = true
is_naming (item.Variable name range) = true
is_naming (item.Beacon name x y) = true
is_naming i = false

-- the place of a record behind so many records, signals and variables, if it declares a name
abbrev pub place_behind : ℕ → ℕ → ℕ → Item → List Place
place_behind records signals variables i = if is_naming i then record { index = records; signals = signals; variables = variables } ∷ [] else []

abbrev pub place_of : List Item → Item → List Place
place_of before i = place_behind (length before) (signals_in before) (variables_in before) i

abbrev pub places_from : List Item → List Item → List Place
places_from before [] = []
places_from before (i ∷ items) = place_of before i ++ places_from (before ++ i ∷ []) items

-- the places of the records that declare a name, in order
abbrev pub places_of : List Item → List Place
places_of items = places_from [] items

-- these places, and how many signals and variables the records make
pub record Listed : Type 0 where
  pub places : List Place
  pub signals : ℕ
  pub variables : ℕ

abbrev pub listed : List Item → Listed
listed items = record { places = places_of items; signals = signals_in items; variables = variables_in items }

-- ---- what stands at a place

-- it is one of the records, behind so many signals and variables
pub record Stands (items : List Item) (p : Place) : Type 0 where
  pub within : p.index < length items
  pub signals : signals_in (take p.index items) ≡ p.signals
  pub variables : variables_in (take p.index items) ≡ p.variables

-- what it declares
abbrev pub names_at : List Item → Place → List (List ℕ × Decl)
names_at items p = names_of (take p.index items) (slice_index_or items p.index item.Note)
