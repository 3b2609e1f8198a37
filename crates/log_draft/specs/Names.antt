-- What a name stands for, by a search of the records before, or the cause that it has.
use Rattle.std.specs.Prelude.{ℕ, not, List, is_some, Result}
use Rattle.tube_store.specs.declared.SignalId.{SignalId}
use Rattle.tube_store.specs.declared.VarId.{VarId}
use Rattle.log_spelling.specs.declared.reference.Part.{Part}
use Rattle.log_fields.specs.Steps.{found_or, unless}
use Rattle.log_fields.specs.declared.fault.Cause.{Cause}
use Rattle.log_fields.specs.declared.fault.Cause.TheVariants as cause
use Rattle.mission_items.specs.Names.{beacon_of, declaration_of, signal_of, variable_of}
use Rattle.mission_items.specs.declared.decl.Decl.{Decl}
use Rattle.mission_items.specs.declared.item.Item.{Item}

-- a name that is declared now
abbrev pub new_name : List Item → List ℕ → Result (Unit {0}) Cause
new_name items name = unless (not (is_some (declaration_of name items))) cause.Twice

-- what a name is declared as
abbrev pub declaration_in : List Item → List ℕ → Result Decl Cause
declaration_in items name = found_or (declaration_of name items) cause.Unknown

abbrev pub signal_in : Decl → Result SignalId Cause
signal_in d = found_or (signal_of d) cause.WrongKind

abbrev pub variable_in : Decl → Part → Result VarId Cause
variable_in d part = found_or (variable_of d part) cause.WrongKind

abbrev pub beacon_in : Decl → Result ℕ Cause
beacon_in d = found_or (beacon_of d) cause.WrongKind
