-- What each cause says of a record, by its fields and the records before it.
use Rattle.std.specs.Prelude.{ℕ, ◌+◌, ◌-◌, ◌==◌, ◌&&◌, not, nat_le, nat_lt, Bool, true, false, List, [], ◌∷◌, length, find, Option, Some, None, is_some, Result, Ok, Err, ℤ, pos, negsuc, if◌then◌else◌}
use Rattle.std.specs.List.{list_all}
use Rattle.csv_rows.specs.Records.{Record}
use Rattle.log_spelling.specs.References.{bare_name}
use Rattle.log_spelling.specs.Kinds.{kind_of}
use Rattle.log_spelling.specs.declared.kind.Kind.{Kind}
use Rattle.log_spelling.specs.declared.kind.Kind.TheVariants as kind
use Rattle.tube_spec.specs.Limits.{most_reads, most_records}
use Rattle.expr_tree.specs.Trees.{Relation}
use Rattle.expr_tree.specs.Measures.{relation_names}
use Rattle.formula_text.specs.Readings.{Deep, Text, TextCause, reading_of}
use Rattle.log_fields.specs.Fields.{field}
use Rattle.log_fields.specs.Sentences.{holds, value}
use Rattle.log_fields.specs.declared.fault.Cause.{Cause}
use Rattle.log_fields.specs.declared.fault.Cause.TheVariants as cause
use Rattle.mission_items.specs.Made.{has_head, signals_in, signals_made, variable_range, variables_in, variables_made}
use Rattle.mission_items.specs.Names.{are_distinct, declaration_of, leaf_at}
use Rattle.mission_items.specs.Room.{are_few, feet_of, foot_of}
use Rattle.mission_items.specs.Valid.{may_precede_cut, revisits_in}
use Rattle.mission_items.specs.declared.item.Item.{Item}
use Rattle.mission_items.specs.declared.item.Item.TheVariants as item
use Rattle.mission_items.specs.declared.mission.Mission.{Mission}
use Rattle.log_draft.specs.Growing.{with_item}
use Rattle.log_draft.specs.Room.{is_narrow}
use Rattle.mission_log.specs.Found.{has_values}
use Rattle.mission_log.specs.Log.{is_note_record}
use Rattle.mission_log.specs.Room.{has_mark}
use Rattle.log_causes.specs.Uses.{are_uses, is_declared, mark_at, signal_at, stands_right, variable_at, variable_named, variables_at}
use Rattle.log_causes.specs.Items.{item_said, leaves_named, mission_before, natural}

-- ---- the log so far

-- a mission record stands before each record of another kind
abbrev pub is_in_mission : List Item → Kind → Bool
is_in_mission items kind.Mission = true
is_in_mission items k = has_head items

-- a cut is a kind in version 2 alone
abbrev pub is_of_version : ℕ → Kind → Bool
is_of_version version kind.Cut = version == 2
is_of_version version k = true

-- the mission record, and each name, is declared once
abbrev pub is_new : List Item → Kind → Record → Bool
is_new items kind.Mission r = not (has_head items)
is_new items kind.Signal r = not (is_some (declaration_of (field r 1) items))
is_new items kind.Variable r = not (is_some (declaration_of (field r 1) items))
is_new items kind.Beacon r = not (is_some (declaration_of (field r 1) items))
is_new items k r = true

-- only notes, the mission record and cuts stand before a cut
abbrev pub is_early : List Item → Kind → Bool
is_early items kind.Cut = list_all may_precede_cut items
is_early items k = true

-- ---- ticks

abbrev pub is_tick : ℕ → ℤ → Bool
is_tick last (pos n) = nat_le n last
is_tick last (negsuc n) = false

-- two ticks on the clock, in order
abbrev pub are_in_order : ℕ → ℤ → ℤ → Bool
are_in_order last first second = is_tick last first && (is_tick last second && nat_le (natural first) (natural second))

abbrev pub are_ticks : ℕ → Kind → Record → Bool
are_ticks last kind.Cut r = is_tick last (value r 1)
are_ticks last kind.Bound r = are_in_order last (value r 2) (value r 3)
are_ticks last kind.At r = is_tick last (value r 2)
are_ticks last kind.Ping r = are_in_order last (value r 3) (value r 4)
are_ticks last k r = true

-- a time or a delay ranges over few ticks
abbrev pub is_short : ℕ → List Item → Kind → Record → Bool
is_short last items kind.Eval r = is_narrow last (variable_range items (variable_at items r 2).0)
is_short last items kind.Delay r = is_narrow last (variable_range items (variable_at items r 3).0)
is_short last items kind.Ping r = nat_le (natural (value r 4) - natural (value r 3)) 2000
is_short last items k r = true

-- ---- texts, whose names and values are asked for only where they are formulas within the limits

abbrev pub is_formula : Result Relation TextCause → Bool
is_formula (Err Text) = false
is_formula reading = true

abbrev pub is_limited : Result Relation TextCause → Bool
is_limited (Err Deep) = false
is_limited reading = true

-- each name of a formula is declared before
abbrev pub are_declared : List Item → Result Relation TextCause → Bool
are_declared items (Ok f) = list_all (λ name. is_some (declaration_of (bare_name name) items)) (relation_names f)
are_declared items (Err c) = true

-- each stands for a signal or a variable
abbrev pub are_leaves : List Item → Result Relation TextCause → Bool
are_leaves items (Ok f) = list_all (λ name. is_some (leaf_at items name)) (relation_names f)
are_leaves items (Err c) = true

-- each stands for a variable
abbrev pub are_variables : List Item → Result Relation TextCause → Bool
are_variables items (Ok f) = list_all (λ name. is_some (variable_named items name)) (relation_names f)
are_variables items (Err c) = true

-- both sides have values over the declared ranges
abbrev pub are_valued : List Item → Result Relation TextCause → Bool
are_valued items (Ok f) = has_values items f (leaves_named items f)
are_valued items (Err c) = true

-- a test of the text of a record that has one
abbrev pub is_text : (Result Relation TextCause → Bool) → Kind → Record → Bool
is_text test kind.Expr r = test (reading_of (field r 1))
is_text test kind.Exprv r = test (reading_of (field r 1))
is_text test k r = true

-- ---- names

-- all names that a record uses are declared before
abbrev pub are_known : List Item → Kind → Record → Bool
are_known items kind.Expr r = are_declared items (reading_of (field r 1))
are_known items kind.Exprv r = are_declared items (reading_of (field r 1))
are_known items k r = are_uses (is_declared items) k r

-- each stands for what its place wants
abbrev pub are_of_kind : List Item → Kind → Record → Bool
are_of_kind items kind.Expr r = are_leaves items (reading_of (field r 1))
are_of_kind items kind.Exprv r = are_variables items (reading_of (field r 1))
are_of_kind items k r = are_uses (stands_right items) k r

-- two signals, and two variables, that a record uses outside a text are different
abbrev pub are_different : List Item → Kind → Record → Bool
are_different items kind.Deriv r = not ((signal_at items r 1).0 == (signal_at items r 2).0)
are_different items kind.Delay r = not ((signal_at items r 1).0 == (signal_at items r 2).0)
are_different items kind.Ping r = not ((signal_at items r 1).0 == (signal_at items r 2).0)
are_different items kind.Revisit r = not ((signal_at items r 1).0 == (signal_at items r 2).0)
are_different items kind.Eval r = not ((variable_at items r 2).0 == (variable_at items r 3).0)
are_different items kind.Range r = are_distinct (variables_at items r (3 ∷ 4 ∷ 5 ∷ 6 ∷ []))
are_different items kind.Range3 r = are_distinct (variables_at items r (3 ∷ 4 ∷ 5 ∷ 6 ∷ 7 ∷ 8 ∷ []))
are_different items kind.Constell r = are_distinct (variables_at items r (1 ∷ 2 ∷ []))
are_different items k r = true

-- a mark has a beacon before it
abbrev pub has_beacon : List Item → Kind → Record → Bool
has_beacon items kind.Constell r = has_mark items None
has_beacon items kind.Ping r = has_mark items (mark_at items r 5)
has_beacon items k r = true

-- ---- questions

abbrev pub are_few_questions : List Item → Kind → Bool
are_few_questions items kind.Revisit = nat_lt (revisits_in items) 16
are_few_questions items k = true

abbrev pub is_small_plane : ℕ → Kind → Bool
is_small_plane last kind.Revisit = nat_le last 20000
is_small_plane last k = true

-- ---- room for one item more

abbrev pub are_cells_few : Mission → Item → Bool
are_cells_few d i = are_few d.cuts (signals_in d.items + signals_made i) (variables_in d.items + variables_made i)

abbrev pub are_feet_few : Mission → Item → Bool
are_feet_few d i = nat_le (feet_of d.cuts d.items + foot_of d.cuts d.items i) most_reads

abbrev pub are_records_few : Mission → Bool
are_records_few d = nat_le (length d.items + 1) most_records

-- ---- the sentences

-- what a cause says of a record of a kind
abbrev pub holds_of : Mission → Kind → Record → Cause → Bool
holds_of d k r cause.NoMission = not (is_in_mission d.items k)
holds_of d k r cause.Kind = not (is_of_version d.version k)
holds_of d k r cause.Twice = not (is_new d.items k r)
holds_of d k r cause.Unknown = not (are_known d.items k r)
holds_of d k r cause.WrongKind = not (are_of_kind d.items k r)
holds_of d k r cause.Tick = not (are_ticks d.ticks k r)
holds_of d k r cause.Wide = not (is_short d.ticks d.items k r)
holds_of d k r cause.Text = not (is_text is_formula k r)
holds_of d k r cause.Deep = not (is_text is_limited k r)
holds_of d k r cause.Big = not (is_text (are_valued d.items) k r)
holds_of d k r cause.Cells = not (are_cells_few (mission_before d k r) (item_said d k r))
holds_of d k r cause.Foot = not (are_feet_few (mission_before d k r) (item_said d k r))
holds_of d k r cause.Records = not (are_records_few d)
holds_of d k r cause.NoBeacon = not (has_beacon d.items k r)
holds_of d k r cause.Same = not (are_different d.items k r)
holds_of d k r cause.Queries = not (are_few_questions d.items k)
holds_of d k r cause.Plane = not (is_small_plane d.ticks k)
holds_of d k r cause.LateCut = not (is_early d.items k)
-- those that a record has by itself: Version, Fields, Name, Number and Range
holds_of d k r alone = holds k r alone

-- what a cause says of a record whose first field is no kind, or is one
abbrev pub holds_in : Mission → Option Kind → Record → Cause → Bool
holds_in d None r cause.NoMission = not (has_head d.items)
holds_in d None r cause.Kind = true
holds_in d None r other = false
holds_in d (Some k) r c = holds_of d k r c

-- a note takes its room
abbrev pub holds_of_note : Mission → Cause → Bool
holds_of_note d cause.Cells = not (are_cells_few d item.Note)
holds_of_note d cause.Foot = not (are_feet_few d item.Note)
holds_of_note d cause.Records = not (are_records_few d)
holds_of_note d other = false

-- what a cause says of a record after the records of a mission
abbrev pub holds_after : Mission → Record → Cause → Bool
holds_after d r c = if is_note_record r then holds_of_note d c else holds_in d (kind_of (field r 0)) r c

-- ---- the lowest cause

-- the causes that stand behind those of the fields
abbrev pub later_causes : List Cause
later_causes =
    cause.Twice ∷ cause.Unknown ∷ cause.WrongKind ∷ cause.Tick ∷ cause.Wide ∷ cause.Text ∷ cause.Deep ∷ cause.Big ∷ cause.Cells ∷ cause.Foot
    ∷ cause.Records ∷ cause.NoBeacon ∷ cause.Same ∷ cause.Queries ∷ cause.Plane ∷ cause.LateCut ∷ []

-- in the order of their numbers; that a log is too long is judged before all records
abbrev pub causes : List Cause
causes =
    cause.NoMission ∷ cause.Version ∷ cause.Kind ∷ cause.Fields ∷ cause.Name ∷ cause.Number ∷ cause.Range ∷ later_causes

-- the first cause of which the sentence holds
unfoldable pub lowest_cause_after : Mission → Record → Option Cause
lowest_cause_after d r = find (holds_after d r) causes

-- ---- what is taken

abbrev pub taken_in : Mission → Option Kind → Record → Mission
taken_in d None r = d
taken_in d (Some k) r = with_item (item_said d k r) (mission_before d k r)

-- the mission with the record, where it is right
unfoldable pub taken : Mission → Record → Mission
taken d r = if is_note_record r then with_item item.Note d else taken_in d (kind_of (field r 0)) r
