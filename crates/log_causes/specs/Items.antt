-- The item that a record says, by its fields and the records before it.
use Rattle.std.specs.Prelude.{ℕ, ◌+◌, List, [], ◌∷◌, map, take, drop, Result, Ok, Err, unwrap_or, ℤ, pos, negsuc}
use Rattle.csv_rows.specs.Records.{Record}
use Rattle.tube_spec.specs.Span.{Span}
use Rattle.log_spelling.specs.declared.kind.Kind.{Kind}
use Rattle.log_spelling.specs.declared.kind.Kind.TheVariants as kind
use Rattle.expr_tree.specs.Trees.{Relation}
use Rattle.expr_tree.specs.Measures.{relation_names}
use Rattle.tube_names.specs.declared.leaves.Leaf.{Leaf}
use Rattle.tube_names.specs.declared.leaves.Leaf.TheVariants.{Var}
use Rattle.formula_text.specs.Readings.{TextCause, reading_of}
use Rattle.log_fields.specs.Fields.{field, version_of}
use Rattle.log_fields.specs.Sentences.{value}
use Rattle.mission_items.specs.Names.{leaf_at}
use Rattle.mission_items.specs.Valid.{norm_in}
use Rattle.mission_items.specs.declared.item.Item.{Item}
use Rattle.mission_items.specs.declared.item.Item.TheVariants as item
use Rattle.mission_items.specs.declared.mission.Mission.{Mission}
use Rattle.log_draft.specs.Growing.{started}
use Rattle.log_causes.specs.Uses.{mark_at, signal_at, variable_at, variables_at}

-- ---- numbers

-- a number from 0 on
abbrev pub natural : ℤ → ℕ
natural (pos n) = n
natural (negsuc n) = 0

abbrev pub span_at : Record → ℕ → Span
span_at r i = record { lo = value r i; hi = value r (i + 1) }

-- ---- texts

-- what the names of a formula stand for
abbrev pub leaves_named : List Item → Relation → List Leaf
leaves_named items f = map (λ name. unwrap_or (leaf_at items name) (Var (record { 0 = 0 }))) (relation_names f)

-- a formula at every tick, and one of variables
abbrev pub each_said : List Item → Result Relation TextCause → Item
each_said items (Ok f) = item.Each f (leaves_named items f)
each_said items (Err c) = item.Note

abbrev pub single_said : List Item → Result Relation TextCause → Item
single_said items (Ok f) = item.Single f (leaves_named items f)
single_said items (Err c) = item.Note

-- ---- items

-- the item of a record of a kind, where it is right
abbrev pub item_said : Mission → Kind → Record → Item
item_said d kind.Mission r = item.Head
item_said d kind.Cut r = item.Cut (natural (value r 1))
item_said d kind.Signal r = item.Signal (field r 1) (span_at r 2)
item_said d kind.Variable r = item.Variable (field r 1) (span_at r 2)
item_said d kind.Beacon r = item.Beacon (field r 1) (span_at r 2) (span_at r 4)
item_said d kind.Deriv r = item.Deriv (signal_at d.items r 1) (signal_at d.items r 2)
item_said d kind.Bound r = item.Bound (signal_at d.items r 1) (natural (value r 2)) (natural (value r 3)) (span_at r 4)
item_said d kind.At r = item.At (signal_at d.items r 1) (natural (value r 2)) (span_at r 3)
item_said d kind.Eval r = item.Eval (signal_at d.items r 1) (variable_at d.items r 2) (variable_at d.items r 3)
item_said d kind.Delay r = item.Delay (signal_at d.items r 1) (signal_at d.items r 2) (variable_at d.items r 3)
item_said d kind.Range r =
    let points = variables_at d.items r (3 ∷ 4 ∷ 5 ∷ 6 ∷ []) in item.Dist2 (value r 1) (value r 2) (take 2 points) (drop 2 points)
item_said d kind.Range3 r =
    let points = variables_at d.items r (3 ∷ 4 ∷ 5 ∷ 6 ∷ 7 ∷ 8 ∷ []) in item.Dist3 (value r 1) (value r 2) (take 3 points) (drop 3 points)
item_said d kind.Constell r = item.Constell (variables_at d.items r (1 ∷ 2 ∷ []))
item_said d kind.Ping r =
    item.Ping (signal_at d.items r 1) (signal_at d.items r 2) (natural (value r 3)) (natural (value r 4)) (mark_at d.items r 5) (value r 6) (value r 7)
item_said d kind.Expr r = each_said d.items (reading_of (field r 1))
item_said d kind.Exprv r = single_said d.items (reading_of (field r 1))
item_said d kind.Revisit r =
    item.Revisit (record { x = signal_at d.items r 1; y = signal_at d.items r 2; radius = value r 3; gap = natural (value r 4); norm = norm_in d.version })
item_said d kind.Settle r = item.Settle

-- the mission before it; a mission record gives it its version and its clock
abbrev pub mission_before : Mission → Kind → Record → Mission
mission_before d kind.Mission r = started (unwrap_or (version_of (field r 1)) 0, natural (value r 2), natural (value r 3)) d
mission_before d k r = d
