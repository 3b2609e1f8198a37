-- The names that a record uses, and what they stand for among the records before it.
use Rattle.std.specs.Prelude.{ℕ, ◌||◌, Bool, List, [], ◌∷◌, map, Option, Some, None, is_some, option_and_then, unwrap_or, codes, bytes_eq, if◌then◌else◌}
use Rattle.std.specs.List.{list_all}
use Rattle.csv_rows.specs.Records.{Record}
use Rattle.tube_store.specs.declared.SignalId.{SignalId}
use Rattle.tube_store.specs.declared.VarId.{VarId}
use Rattle.log_spelling.specs.References.{bare_name, part_of}
use Rattle.log_spelling.specs.declared.kind.Kind.{Kind}
use Rattle.log_spelling.specs.declared.kind.Kind.TheVariants as kind
use Rattle.log_fields.specs.Fields.{field}
use Rattle.mission_items.specs.Names.{beacon_of, declaration_of, signal_of, variable_of}
use Rattle.mission_items.specs.declared.item.Item.{Item}

-- ---- what a field uses

pub data Use : Type 0 where
  OfSignal : Use
  OfVariable : Use
  OfBeacon : Use

-- the fields of a kind that use a name, each with what the name has to stand for
abbrev pub uses_of : Kind → List (ℕ × Use)
uses_of kind.Deriv = (1, OfSignal) ∷ (2, OfSignal) ∷ []
uses_of kind.Bound = (1, OfSignal) ∷ []
uses_of kind.At = (1, OfSignal) ∷ []
uses_of kind.Eval = (1, OfSignal) ∷ (2, OfVariable) ∷ (3, OfVariable) ∷ []
uses_of kind.Delay = (1, OfSignal) ∷ (2, OfSignal) ∷ (3, OfVariable) ∷ []
uses_of kind.Range = (3, OfVariable) ∷ (4, OfVariable) ∷ (5, OfVariable) ∷ (6, OfVariable) ∷ []
uses_of kind.Range3 = (3, OfVariable) ∷ (4, OfVariable) ∷ (5, OfVariable) ∷ (6, OfVariable) ∷ (7, OfVariable) ∷ (8, OfVariable) ∷ []
uses_of kind.Constell = (1, OfVariable) ∷ (2, OfVariable) ∷ []
uses_of kind.Ping = (1, OfSignal) ∷ (2, OfSignal) ∷ (5, OfBeacon) ∷ []
uses_of kind.Revisit = (1, OfSignal) ∷ (2, OfSignal) ∷ []
uses_of k = []

-- ---- what a name stands for

abbrev pub signal_named : List Item → List ℕ → Option SignalId
signal_named items name = option_and_then signal_of (declaration_of name items)

-- the variable of a name, or of a beacon's name with `.x` or `.y`
abbrev pub variable_named : List Item → List ℕ → Option VarId
variable_named items text = option_and_then (λ d. variable_of d (part_of text)) (declaration_of (bare_name text) items)

abbrev pub beacon_named : List Item → List ℕ → Option ℕ
beacon_named items name = option_and_then beacon_of (declaration_of name items)

-- any beacon
abbrev pub is_any : List ℕ → Bool
is_any text = bytes_eq text (codes "?")

-- a used name is declared before
abbrev pub is_declared : List Item → Use → List ℕ → Bool
is_declared items OfSignal text = is_some (declaration_of text items)
is_declared items OfVariable text = is_some (declaration_of (bare_name text) items)
is_declared items OfBeacon text = is_any text || is_some (declaration_of text items)

-- a used name stands for what its place wants
abbrev pub stands_right : List Item → Use → List ℕ → Bool
stands_right items OfSignal text = is_some (signal_named items text)
stands_right items OfVariable text = is_some (variable_named items text)
stands_right items OfBeacon text = is_any text || is_some (beacon_named items text)

-- so it is of all names that a kind's fields use
abbrev pub are_uses : (Use → List ℕ → Bool) → Kind → Record → Bool
are_uses test k r = list_all (λ u. test u.1 (field r u.0)) (uses_of k)

-- ---- the signals and variables of fields

abbrev pub signal_at : List Item → Record → ℕ → SignalId
signal_at items r i = unwrap_or (signal_named items (field r i)) (record { 0 = 0 })

abbrev pub variable_at : List Item → Record → ℕ → VarId
variable_at items r i = unwrap_or (variable_named items (field r i)) (record { 0 = 0 })

abbrev pub variables_at : List Item → Record → List ℕ → List VarId
variables_at items r places = map (variable_at items r) places

-- the beacon of a ping, if it is not any
abbrev pub mark_at : List Item → Record → ℕ → Option ℕ
mark_at items r i = if is_any (field r i) then None else Some (unwrap_or (beacon_named items (field r i)) 0)
