-- The names that records declare, and what references stand for, found by a search of the records.
use Rattle.std.specs.Prelude.{◌≡◌, ℕ, ◌+◌, ◌==◌, ◌&&◌, not, Bool, true, List, [], ◌∷◌, ◌++◌, Option, Some, None, option_map, option_and_then, bytes_eq}
use Rattle.std.specs.List.{list_any}
use Rattle.std.specs.Map.{lookup}
use Rattle.tube_spec.specs.Span.{Span}
use Rattle.tube_store.specs.declared.SignalId.{SignalId}
use Rattle.tube_store.specs.declared.VarId.{VarId}
use Rattle.log_spelling.specs.References.{bare_name, part_of}
use Rattle.log_spelling.specs.declared.reference.Part.{Part}
use Rattle.log_spelling.specs.declared.reference.Part.TheVariants as part
use Rattle.tube_names.specs.declared.leaves.Leaf.{Leaf}
use Rattle.tube_names.specs.declared.leaves.Leaf.TheVariants.{Sig, Var}
use Rattle.mission_items.specs.Made.{beacons_in, signal_range, signals_in, variable_range, variables_in}
use Rattle.mission_items.specs.declared.decl.Decl.{Decl}
use Rattle.mission_items.specs.declared.decl.Decl.TheVariants as decl
use Rattle.mission_items.specs.declared.item.Item.{Item}
use Rattle.mission_items.specs.declared.item.Item.TheVariants as item

-- what a record declares, after the records before it
abbrev pub names_of : List Item → Item → List (List ℕ × Decl)
names_of before (item.Signal name range) = (name, decl.Signal (record { 0 = signals_in before }) range) ∷ []
names_of before (item.Variable name range) = (name, decl.Variable (record { 0 = variables_in before }) range) ∷ []
names_of before (item.Beacon name x y) = (name, decl.Beacon (beacons_in before) (record { 0 = variables_in before }) x y) ∷ []
names_of before i = []

abbrev pub declared_from : List Item → List Item → List (List ℕ × Decl)
declared_from before [] = []
declared_from before (i ∷ items) = names_of before i ++ declared_from (before ++ i ∷ []) items

-- the names that records declare, in order
abbrev pub declared : List Item → List (List ℕ × Decl)
declared items = declared_from [] items

-- what a name is declared as
abbrev pub declaration_of : List ℕ → List Item → Option Decl
declaration_of name items = lookup (bytes_eq name) (declared items)

-- ---- what the names and their parts stand for

-- the signal that a name is declared as
abbrev pub signal_of : Decl → Option SignalId
signal_of (decl.Signal id range) = Some id
signal_of d = None

-- the place of a beacon
abbrev pub beacon_of : Decl → Option ℕ
beacon_of (decl.Beacon place first x y) = Some place
beacon_of d = None

-- a variable's own name stands for it, and a beacon's with `.x` or `.y` for one of its coordinates
abbrev pub variable_of : Decl → Part → Option VarId
variable_of (decl.Variable id range) part.Whole = Some id
variable_of (decl.Beacon place first x y) part.X = Some first
variable_of (decl.Beacon place first x y) part.Y = Some (record { 0 = first.0 + 1 })
variable_of d p = None

-- a name in a formula stands for a signal or a variable
abbrev pub leaf_of : Decl → Part → Option Leaf
leaf_of (decl.Signal id range) part.Whole = Some (Sig id)
leaf_of (decl.Signal id range) p = None
leaf_of d p = option_map Var (variable_of d p)

-- the declared range of what it stands for
abbrev pub range_of : Decl → Part → Span
range_of (decl.Signal id range) p = range
range_of (decl.Variable id range) p = range
range_of (decl.Beacon place first x y) part.Y = y
range_of (decl.Beacon place first x y) p = x

-- the leaf that a reference stands for
abbrev pub leaf_at : List Item → List ℕ → Option Leaf
leaf_at items reference = option_and_then (λ d. leaf_of d (part_of reference)) (declaration_of (bare_name reference) items)

abbrev pub leaf_range : List Item → Leaf → Span
leaf_range items (Sig x) = signal_range items x.0
leaf_range items (Var v) = variable_range items v.0

-- ---- a variable that has a name

pub record IsNamed (items : List Item) (v : VarId) : Type 0 where
  pub name : List ℕ
  pub part : Part
  pub declared_as : Decl
  pub found : declaration_of name items ≡ Some declared_as
  pub stands : variable_of declared_as part ≡ Some v

-- variables of which no two are the same
abbrev pub are_distinct : List VarId → Bool
are_distinct [] = true
are_distinct (v ∷ vs) = not (list_any (λ w. w.0 == v.0) vs) && are_distinct vs
