-- What the names and the formula of a record stand for, by a search of the records before it, or the lowest cause that they have.
use Rattle.std.specs.Prelude.{ℕ, ◌&&◌, Bool, List, [], ◌∷◌, ◌++◌, Option, Some, None, is_some, Result, Ok, Err, map, take, drop}
use Rattle.tube_spec.specs.Span.{Span}
use Rattle.tube_store.specs.declared.VarId.{VarId}
use Rattle.log_spelling.specs.References.{bare_name, part_of}
use Rattle.log_spelling.specs.declared.reference.Part.{Part}
use Rattle.expr_tree.specs.Trees.{Relation}
use Rattle.expr_tree.specs.Measures.{relation_names}
use Rattle.expr_values.specs.Expressions.{leaves, numbered}
use Rattle.expr_values.specs.Values.{range_value}
use Rattle.tube_names.specs.declared.leaves.Leaf.{Leaf}
use Rattle.formula_text.specs.Readings.{Deep, Text, TextCause, reading_of}
use Rattle.log_fields.specs.Steps.{◌>>=◌, found_or}
use Rattle.log_fields.specs.declared.fault.Cause.{Cause}
use Rattle.log_fields.specs.declared.fault.Cause.TheVariants as cause
use Rattle.mission_items.specs.Names.{leaf_of, leaf_range}
use Rattle.mission_items.specs.declared.decl.Decl.{Decl}
use Rattle.mission_items.specs.declared.item.Item.{Item}
pub use Rattle.log_draft.specs.Names.{beacon_in, declaration_in, new_name, signal_in, variable_in}

-- ---- the beacon of a ping, which may be any of those before

abbrev pub mark_declared : List Item → Option (List ℕ) → Result (Option Decl) Cause
mark_declared items None = Ok None
mark_declared items (Some name) = do
  d ← declaration_in items name
  Ok (Some d)

abbrev pub mark_in : Option Decl → Result (Option ℕ) Cause
mark_in None = Ok None
mark_in (Some d) = do
  place ← beacon_in d
  Ok (Some place)

-- ---- several of them

-- what is found for each, or the first cause
abbrev pub each : {A B : Type 0} → (A → Result B Cause) → List A → Result (List B) Cause
each f [] = Ok []
each f (x ∷ xs) = do
  y ← f x
  ys ← each f xs
  Ok (y ∷ ys)

-- those that were found before, and then the others
abbrev pub appended : {B : Type 0} → List B → Result (List B) Cause → Result (List B) Cause
appended ys (Ok zs) = Ok (ys ++ zs)
appended ys (Err c) = Err c

-- what a name is declared as, with the part that is meant
abbrev pub declared_part : List Item → List ℕ × Part → Result (Decl × Part) Cause
declared_part items reference = do
  d ← declaration_in items reference.0
  Ok (d, reference.1)

abbrev pub declarations_in : List Item → List (List ℕ × Part) → Result (List (Decl × Part)) Cause
declarations_in items references = each (declared_part items) references

abbrev pub variable_part : Decl × Part → Result VarId Cause
variable_part d = variable_in d.0 d.1

-- the variables that they stand for
abbrev pub variables_for : List (Decl × Part) → Result (List VarId) Cause
variables_for ds = each variable_part ds

abbrev pub leaf_in : Decl × Part → Result Leaf Cause
leaf_in d = found_or (leaf_of d.0 d.1) cause.WrongKind

-- the signals and variables that they stand for
abbrev pub leaves_for : List (Decl × Part) → Result (List Leaf) Cause
leaves_for ds = each leaf_in ds

-- ---- formulas

-- the relation that a text is, if it is one within the limits
abbrev pub relation_in : Result Relation TextCause → Result Relation Cause
relation_in (Ok r) = Ok r
relation_in (Err Text) = Err cause.Text
relation_in (Err Deep) = Err cause.Deep

abbrev pub formula_in : List ℕ → Result Relation Cause
formula_in text = relation_in (reading_of text)

abbrev pub reference_in : List ℕ → List ℕ × Part
reference_in name = (bare_name name, part_of name)

-- the names of a formula, each cut into its bare name and its part
abbrev pub references_of : Relation → List (List ℕ × Part)
references_of r = map reference_in (relation_names r)

-- both sides have values within the bound of intervals, where the names have these ranges, from the left
abbrev pub have_values : Relation → List Span → Bool
have_values r ranges =
    is_some (range_value (take (leaves r.left) ranges) (numbered r.left 0)) && is_some (range_value (drop (leaves r.left) ranges) (numbered r.right 0))

-- the same over the declared ranges of the leaves
unfoldable pub has_values : List Item → Relation → List Leaf → Bool
has_values items r ls = have_values r (map (leaf_range items) ls)
