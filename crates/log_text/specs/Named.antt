-- What the name that a record gives stands for, by the records before it.
use Rattle.std.specs.Prelude.{◌≡◌, ℕ, true, List, Some}
use Rattle.tube_spec.specs.Span.{Span}
use Rattle.tube_store.specs.declared.SignalId.{SignalId}
use Rattle.tube_store.specs.declared.VarId.{VarId}
use Rattle.log_spelling.specs.Names.{is_name}
use Rattle.log_spelling.specs.References.{reference_text}
use Rattle.log_spelling.specs.declared.reference.Part.{Part}
use Rattle.mission_items.specs.Names.{beacon_of, declaration_of, variable_of}
use Rattle.mission_items.specs.declared.decl.Decl.{Decl}
use Rattle.mission_items.specs.declared.decl.Decl.TheVariants as decl
use Rattle.mission_items.specs.declared.item.Item.{Item}

-- a name that is declared as this signal
pub record NamesSignal (before : List Item) (x : SignalId) (text : List ℕ) : Type 0 where
  pub spelled : is_name text ≡ true
  pub range : Span
  pub found : declaration_of text before ≡ Some (decl.Signal x range)

-- a reference to this variable
pub record NamesVariable (before : List Item) (v : VarId) (text : List ℕ) : Type 0 where
  pub name : List ℕ
  pub part : Part
  pub spelled : is_name name ≡ true
  pub together : text ≡ reference_text name part
  pub declared_as : Decl
  pub found : declaration_of name before ≡ Some declared_as
  pub stands : variable_of declared_as part ≡ Some v

-- a name that is declared as the beacon at this place
pub record NamesBeacon (before : List Item) (place : ℕ) (text : List ℕ) : Type 0 where
  pub spelled : is_name text ≡ true
  pub declared_as : Decl
  pub found : declaration_of text before ≡ Some declared_as
  pub stands : beacon_of declared_as ≡ Some place
