-- Each kind of record is judged by its lowest cause: its chain of steps is the chain of the sentences.
use Rattle.std.proofs.Common.{◌≡◌, ℕ, ◌-◌, ◌&&◌, not, Bool, true, false, List, [], ◌∷◌, Option, Some, None, Result, Ok, Err, refl, ap, ◌∙◌, if◌then◌else◌, length, ◌==◌, nat_le, nat_lt, map, suc}
use Rattle.std.specs.Prelude.{IfOk, find, is_some, unwrap_or, option_and_then, option_map}
use Rattle.std.specs.Option.{option_or}
use Rattle.std.specs.List.{list_all}
use Rattle.csv_rows.specs.Records.{Record}
use Rattle.tube_store.specs.declared.SignalId.{SignalId}
use Rattle.tube_store.specs.declared.VarId.{VarId}
use Rattle.log_spelling.specs.Kinds.{kind_of}
use Rattle.log_spelling.specs.References.{bare_name, part_of}
use Rattle.log_spelling.specs.declared.kind.Kind.{Kind}
use Rattle.log_spelling.specs.declared.kind.Kind.TheVariants as kind
use Rattle.log_spelling.specs.declared.reference.Part.{Part}
use Rattle.log_spelling.specs.declared.reference.Part.TheVariants as part
use Rattle.expr_tree.specs.Trees.{Relation}
use Rattle.expr_tree.specs.Measures.{relation_names}
use Rattle.tube_names.specs.declared.leaves.Leaf.{Leaf}
use Rattle.tube_names.specs.declared.leaves.Leaf.TheVariants.{Var}
use Rattle.formula_text.specs.Readings.{Deep, Text, TextCause, reading_of}
use Rattle.log_fields.specs.Fields.{field}
use Rattle.log_fields.specs.Kinds.{at_fields, beacon_fields, bound_fields, constell_fields, cut_fields, declared_fields, delay_fields, deriv_fields, eval_fields, mission_fields, ping_fields, range3_fields, range_fields, revisit_fields, settle_fields, text_fields}
use Rattle.log_fields.specs.Sentences.{are_limited, are_right, form_of, has_version, is_named, is_numbered, lowest_cause, value}
use Rattle.log_fields.specs.Steps.{◌>>=◌, found_or, unless}
use Rattle.log_fields.specs.declared.fault.Cause.{Cause}
use Rattle.log_fields.specs.declared.fault.Cause.TheVariants as cause
use Rattle.log_fields.proofs.Lowest.{lowest_told}
use Rattle.mission_items.specs.Made.{has_head, variable_range}
use Rattle.mission_items.specs.Names.{declaration_of, leaf_at, leaf_of, variable_of}
use Rattle.mission_items.specs.Valid.{is_variable, may_precede_cut, norm_in, revisits_in}
use Rattle.mission_items.specs.declared.decl.Decl.{Decl}
use Rattle.mission_items.specs.declared.decl.Decl.TheVariants as decl
use Rattle.mission_items.specs.declared.item.Item.{Item}
use Rattle.mission_items.specs.declared.item.Item.TheVariants as item
use Rattle.mission_items.specs.declared.mission.Mission.{Mission}
use Rattle.log_draft.specs.Growing.{added, started, with_item}
use Rattle.log_draft.specs.Room.{is_narrow}
use Rattle.mission_log.specs.Found.{declarations_in, each, has_values, leaves_for, reference_in, references_of, relation_in}
use Rattle.mission_log.specs.Log.{at_step, beacon_step, bound_step, constell_step, cut_step, delay_step, deriv_step, each_step, eval_step, in_mission, is_note_record, kind_step, mission_step, ping_said, ping_step, range3_step, range_step, record_step, revisit_step, settle_step, signal_step, single_step, step, variable_step}
use Rattle.mission_log.specs.Room.{has_mark}
use Rattle.log_causes.specs.Uses.{is_any, variable_named}
use Rattle.log_causes.specs.Items.{each_said, item_said, leaves_named, mission_before, natural, single_said, span_at}
use Rattle.log_causes.specs.Sentences.{are_declared, are_in_order, are_leaves, are_valued, are_variables, are_different, causes, has_beacon, holds_in, holds_of, holds_of_note, is_formula, is_limited, is_tick, later_causes, lowest_cause_after, taken, taken_in}
use Rattle.log_causes.specs.Laws.{judged}
use Rattle.log_causes.proofs.Chains.{failing, fields_then, in_line, judged_then, kind_judged, mission_judged, own_cause, own_then, room_left, room_then, test_then, tick_judged, ticks_judged, version_judged}
use Rattle.log_causes.proofs.Said.{at-said, beacon-said, beacon_said, bound-said, constell-said, cut-said, declared-said, delay-said, deriv-said, eval-said, mission-said, ping-said, range-said, range3-said, reference_said, revisit-said, text-said, version_said}
use Rattle.log_causes.proofs.Naming.{all_found, all_map, found_by, is_found, map_map, named_cause, nest_judged, one_signal, signal_and_variables, signals_and_mark, signals_and_variable, two_signals}

-- ---- the sentences of a kind

-- those about its fields
abbrev own_of : Kind → Record → Option Cause
own_of k r = own_cause (length r == suc (length (form_of k))) (are_right is_named 1 (form_of k) r) (are_right is_numbered 1 (form_of k) r) (are_limited k r)

-- those behind them
abbrev later_of : Mission → Kind → Record → Option Cause
later_of d k r = find (holds_of d k r) later_causes

abbrev all_of : Mission → Kind → Record → Option Cause
all_of d k r = own_then (length r == suc (length (form_of k))) (are_right is_named 1 (form_of k) r) (are_right is_numbered 1 (form_of k) r) (are_limited k r) (later_of d k r)

abbrev made_by : Mission → Kind → Record → Mission
made_by d k r = with_item (item_said d k r) (mission_before d k r)

abbrev IsJudged : Mission → Kind → Record → Result Mission Cause → Type 0
IsJudged d k r s = s ≡ judged (find (holds_of d k r) causes) (made_by d k r)

-- a kind that stands behind a mission record
behind : (k : Kind) (d : Mission) (r : Record) (s : Result Mission Cause) (e : Mission) → s ≡ judged (option_or (own_of k r) (later_of d k r)) e
    → (if has_head d.items then s else Err cause.NoMission) ≡ judged (failing (has_head d.items) cause.NoMission (all_of d k r)) e
behind k d r s e h =
    kind_judged (has_head d.items) (length r == suc (length (form_of k))) (are_right is_named 1 (form_of k) r) (are_right is_numbered 1 (form_of k) r) (are_limited k r) (later_of d k r) s e h

-- ---- the clock and declarations

mission-judged : (d : Mission) (r : Record) → IsJudged d kind.Mission r (mission_step d r)
unfolding mission_step lowest_cause
mission-judged d r =
    let k = kind.Mission in
    let said : ℕ × ℕ × ℕ = (version_said r, natural (value r 2), natural (value r 3)) in
    mission_judged (has_version k r) (length r == suc (length (form_of k))) (are_right is_named 1 (form_of k) r) (are_right is_numbered 1 (form_of k) r) (are_limited k r) (later_of d k r) _ _
    (fields_then (mission_fields r) _ (failing (has_version k r) cause.Version (own_of k r)) (later_of d k r) said _ (lowest_told r).mission (mission-said r)
    (test_then (not (has_head d.items)) cause.Twice _ _ _ (room_then (started said d) item.Head _ None _ refl)))

cut-judged : (d : Mission) (r : Record) → IsJudged d kind.Cut r (in_mission d (cut_step d r))
unfolding cut_step lowest_cause
cut-judged d r =
    let k = kind.Cut in
    version_judged (has_head d.items) (d.version == 2) (length r == suc (length (form_of k))) (are_right is_named 1 (form_of k) r) (are_right is_numbered 1 (form_of k) r) (are_limited k r) (later_of d k r) _ _
    (fields_then (cut_fields r) _ (own_of k r) (later_of d k r) (value r 1) _ (lowest_told r).cut (cut-said r)
    (tick_judged d.ticks (value r 1) _ _ _ (room_then d (item.Cut (natural (value r 1))) _ _ _ (test_then (list_all may_precede_cut d.items) cause.LateCut _ None _ refl))))

signal-judged : (d : Mission) (r : Record) → IsJudged d kind.Signal r (in_mission d (signal_step d r))
unfolding signal_step lowest_cause
signal-judged d r =
    let k = kind.Signal in
    behind k d r _ _ (fields_then (declared_fields r) _ (own_of k r) (later_of d k r) (field r 1, span_at r 2) _ (lowest_told r).signal (declared-said r)
    (test_then (not (is_some (declaration_of (field r 1) d.items))) cause.Twice _ _ _ (room_then d (item.Signal (field r 1) (span_at r 2)) _ None _ refl)))

variable-judged : (d : Mission) (r : Record) → IsJudged d kind.Variable r (in_mission d (variable_step d r))
unfolding variable_step lowest_cause
variable-judged d r =
    let k = kind.Variable in
    behind k d r _ _ (fields_then (declared_fields r) _ (own_of k r) (later_of d k r) (field r 1, span_at r 2) _ (lowest_told r).variable (declared-said r)
    (test_then (not (is_some (declaration_of (field r 1) d.items))) cause.Twice _ _ _ (room_then d (item.Variable (field r 1) (span_at r 2)) _ None _ refl)))

beacon-judged : (d : Mission) (r : Record) → IsJudged d kind.Beacon r (in_mission d (beacon_step d r))
unfolding beacon_step lowest_cause
beacon-judged d r =
    let k = kind.Beacon in
    behind k d r _ _ (fields_then (beacon_fields r) _ (own_of k r) (later_of d k r) (field r 1, span_at r 2, span_at r 4) _ (lowest_told r).beacon (beacon-said r)
    (test_then (not (is_some (declaration_of (field r 1) d.items))) cause.Twice _ _ _ (room_then d (item.Beacon (field r 1) (span_at r 2) (span_at r 4)) _ None _ refl)))

-- ---- signals

deriv-judged : (d : Mission) (r : Record) → IsJudged d kind.Deriv r (in_mission d (deriv_step d r))
unfolding deriv_step lowest_cause
deriv-judged d r =
    let k = kind.Deriv in
    behind k d r _ _ (fields_then (deriv_fields r) _ (own_of k r) (later_of d k r) (field r 1, field r 2) _ (lowest_told r).deriv (deriv-said r)
    (two_signals (declaration_of (field r 1) d.items) (declaration_of (field r 2) d.items) _
    (λ x y. room_left d (item.Deriv x y) (failing (not (x.0 == y.0)) cause.Same None)) (λ x y. with_item (item.Deriv x y) d)
    (λ x y. room_then d (item.Deriv x y) _ _ _ (test_then (not (x.0 == y.0)) cause.Same _ None _ refl))))

bound-judged : (d : Mission) (r : Record) → IsJudged d kind.Bound r (in_mission d (bound_step d r))
unfolding bound_step lowest_cause
bound-judged d r =
    let k = kind.Bound in
    let bound = λ (x : SignalId). item.Bound x (natural (value r 2)) (natural (value r 3)) (span_at r 4) in
    behind k d r _ _ (fields_then (bound_fields r) _ (own_of k r) (later_of d k r) (field r 1, value r 2, value r 3, span_at r 4) _ (lowest_told r).bound (bound-said r)
    (one_signal (declaration_of (field r 1) d.items) _
    (λ x. failing (are_in_order d.ticks (value r 2) (value r 3)) cause.Tick (room_left d (bound x) None)) (λ x. with_item (bound x) d)
    (λ x. ticks_judged d.ticks (value r 2) (value r 3) (λ a b. added d (item.Bound x a b (span_at r 4))) _ _ (room_then d (bound x) _ None _ refl))))

at-judged : (d : Mission) (r : Record) → IsJudged d kind.At r (in_mission d (at_step d r))
unfolding at_step lowest_cause
at-judged d r =
    let k = kind.At in
    let fix = λ (x : SignalId). item.At x (natural (value r 2)) (span_at r 3) in
    behind k d r _ _ (fields_then (at_fields r) _ (own_of k r) (later_of d k r) (field r 1, value r 2, span_at r 3) _ (lowest_told r).at (at-said r)
    (one_signal (declaration_of (field r 1) d.items) _
    (λ x. failing (is_tick d.ticks (value r 2)) cause.Tick (room_left d (fix x) None)) (λ x. with_item (fix x) d)
    (λ x. tick_judged d.ticks (value r 2) (λ a. added d (item.At x a (span_at r 3))) _ _ (room_then d (fix x) _ None _ refl))))

eval-judged : (d : Mission) (r : Record) → IsJudged d kind.Eval r (in_mission d (eval_step d r))
unfolding eval_step lowest_cause
eval-judged d r =
    let k = kind.Eval in
    behind k d r _ _ (fields_then (eval_fields r) _ (own_of k r) (later_of d k r) (field r 1, reference_said r 2, reference_said r 3) _ (lowest_told r).eval (eval-said r)
    (signal_and_variables (declaration_of (field r 1) d.items) (declaration_of (bare_name (field r 2)) d.items) (declaration_of (bare_name (field r 3)) d.items) (part_of (field r 2)) (part_of (field r 3)) _
    (λ x t z. failing (is_narrow d.ticks (variable_range d.items t.0)) cause.Wide (room_left d (item.Eval x t z) (failing (not (t.0 == z.0)) cause.Same None))) (λ x t z. with_item (item.Eval x t z) d)
    (λ x t z. test_then (is_narrow d.ticks (variable_range d.items t.0)) cause.Wide _ _ _ (room_then d (item.Eval x t z) _ _ _ (test_then (not (t.0 == z.0)) cause.Same _ None _ refl)))))

delay-judged : (d : Mission) (r : Record) → IsJudged d kind.Delay r (in_mission d (delay_step d r))
unfolding delay_step lowest_cause
delay-judged d r =
    let k = kind.Delay in
    behind k d r _ _ (fields_then (delay_fields r) _ (own_of k r) (later_of d k r) (field r 1, field r 2, reference_said r 3) _ (lowest_told r).delay (delay-said r)
    (signals_and_variable (declaration_of (field r 1) d.items) (declaration_of (field r 2) d.items) (declaration_of (bare_name (field r 3)) d.items) (part_of (field r 3)) _
    (λ x y z. failing (is_narrow d.ticks (variable_range d.items z.0)) cause.Wide (room_left d (item.Delay x y z) (failing (not (x.0 == y.0)) cause.Same None))) (λ x y z. with_item (item.Delay x y z) d)
    (λ x y z. test_then (is_narrow d.ticks (variable_range d.items z.0)) cause.Wide _ _ _ (room_then d (item.Delay x y z) _ _ _ (test_then (not (x.0 == y.0)) cause.Same _ None _ refl)))))

-- ---- points

range-judged : (d : Mission) (r : Record) → IsJudged d kind.Range r (in_mission d (range_step d r))
unfolding range_step lowest_cause
range-judged d r =
    let k = kind.Range in
    let refs : List (List ℕ × Part) = reference_said r 3 ∷ reference_said r 4 ∷ reference_said r 5 ∷ reference_said r 6 ∷ [] in
    behind k d r _ _ (fields_then (range_fields r) _ (own_of k r) (later_of d k r) (value r 1, value r 2, refs) _ (lowest_told r).range (range-said r)
    (all_found variable_of (record { 0 = 0 }) d.items refs _ ∙ nest_judged _ _ _ _ _ (room_then d (item_said d k r) _ _ _ (test_then (are_different d.items k r) cause.Same _ None _ refl))))

range3-judged : (d : Mission) (r : Record) → IsJudged d kind.Range3 r (in_mission d (range3_step d r))
unfolding range3_step lowest_cause
range3-judged d r =
    let k = kind.Range3 in
    let refs : List (List ℕ × Part) = reference_said r 3 ∷ reference_said r 4 ∷ reference_said r 5 ∷ reference_said r 6 ∷ reference_said r 7 ∷ reference_said r 8 ∷ [] in
    behind k d r _ _ (fields_then (range3_fields r) _ (own_of k r) (later_of d k r) (value r 1, value r 2, refs) _ (lowest_told r).range3 (range3-said r)
    (all_found variable_of (record { 0 = 0 }) d.items refs _ ∙ nest_judged _ _ _ _ _ (room_then d (item_said d k r) _ _ _ (test_then (are_different d.items k r) cause.Same _ None _ refl))))

constell-judged : (d : Mission) (r : Record) → IsJudged d kind.Constell r (in_mission d (constell_step d r))
unfolding constell_step lowest_cause
constell-judged d r =
    let k = kind.Constell in
    let refs : List (List ℕ × Part) = reference_said r 1 ∷ reference_said r 2 ∷ [] in
    behind k d r _ _ (fields_then (constell_fields r) _ (own_of k r) (later_of d k r) (reference_said r 1, reference_said r 2) _ (lowest_told r).constell (constell-said r)
    (all_found variable_of (record { 0 = 0 }) d.items refs _ ∙ nest_judged _ _ _ _ _ (room_then d (item_said d k r) _ _ _
    (test_then (has_mark d.items None) cause.NoBeacon _ _ _ (test_then (are_different d.items k r) cause.Same _ None _ refl)))))

-- ---- pings

four_first : (known right order few : Bool) (later : Option Cause)
    → option_or (named_cause known right (failing order cause.Tick (failing few cause.Wide None))) later ≡ named_cause known right (failing order cause.Tick (failing few cause.Wide later))
four_first false right order few later = refl
four_first true false order few later = refl
four_first true true false few later = refl
four_first true true true false later = refl
four_first true true true true later = refl

ping-judged : (d : Mission) (r : Record) → IsJudged d kind.Ping r (in_mission d (ping_step d r))
unfolding ping_step ping_said lowest_cause
ping-judged d r =
    let k = kind.Ping in
    let few = nat_le (natural (value r 4) - natural (value r 3)) 2000 in
    behind k d r _ _ (in_line (ping_fields r) _ _ ∙ fields_then (ping_fields r) _ (own_of k r) (later_of d k r)
    (field r 1, field r 2, value r 3, value r 4, beacon_said (field r 5), value r 6, value r 7) _ (lowest_told r).ping (ping-said r)
    (judged_then _ _ _ _ _ _
    (signals_and_mark d.items (field r 5) (is_any (field r 5)) (declaration_of (field r 1) d.items) (declaration_of (field r 2) d.items) _
    (λ x y m. failing (are_in_order d.ticks (value r 3) (value r 4)) cause.Tick (failing few cause.Wide None))
    (λ x y m. (x, y, natural (value r 3), natural (value r 4), m, value r 6, value r 7))
    (λ x y m. ticks_judged d.ticks (value r 3) (value r 4) (λ a b. unless (nat_le (b - a) 2000) cause.Wide >>= (λ narrow. Ok (x, y, a, b, m, value r 6, value r 7))) _ _
    (test_then few cause.Wide _ None _ refl)))
    (room_then d (item_said d k r) _ _ _ (test_then (has_beacon d.items k r) cause.NoBeacon _ _ _ (test_then (are_different d.items k r) cause.Same _ None _ refl)))
    ∙ ap (λ (o : Option Cause). judged o (made_by d k r)) (four_first _ _ _ few _)))

-- ---- questions and sections

revisit-judged : (d : Mission) (r : Record) → IsJudged d kind.Revisit r (in_mission d (revisit_step d r))
unfolding revisit_step lowest_cause
revisit-judged d r =
    let k = kind.Revisit in
    let question = λ (x y : SignalId). item.Revisit (record { x = x; y = y; radius = value r 3; gap = natural (value r 4); norm = norm_in d.version }) in
    behind k d r _ _ (fields_then (revisit_fields r) _ (own_of k r) (later_of d k r) (field r 1, field r 2, value r 3, natural (value r 4)) _ (lowest_told r).revisit (revisit-said r)
    (two_signals (declaration_of (field r 1) d.items) (declaration_of (field r 2) d.items) _
    (λ x y. room_left d (question x y) (failing (not (x.0 == y.0)) cause.Same (failing (nat_lt (revisits_in d.items) 16) cause.Queries (failing (nat_le d.ticks 20000) cause.Plane None))))
    (λ x y. with_item (question x y) d)
    (λ x y. room_then d (question x y) _ _ _ (test_then (not (x.0 == y.0)) cause.Same _ _ _ (test_then (nat_lt (revisits_in d.items) 16) cause.Queries _ _ _ (test_then (nat_le d.ticks 20000) cause.Plane _ None _ refl))))))

settle-judged : (d : Mission) (r : Record) → IsJudged d kind.Settle r (in_mission d (settle_step d r))
unfolding settle_step lowest_cause
settle-judged d r =
    let k = kind.Settle in
    behind k d r _ _ (fields_then (settle_fields r) _ (own_of k r) (later_of d k r) tt _ (lowest_told r).settle (nothing-said (settle_fields r)) (room_then d item.Settle _ None _ refl))
  where
    nothing-said : (m : Result (Unit {0}) Cause) → IfOk m (λ x. x ≡ tt)
    nothing-said (Ok tt) = refl
    nothing-said (Err c) = tt

-- ---- texts

-- the names of a formula, each of which has to be declared and then to stand for something
abbrev is_right : {Y : Type 0} → (Decl → Part → Option Y) → List Item → List ℕ × Part → Bool
is_right found items ref = is_some (found_by found items ref)

abbrev named_by : {Y : Type 0} → (Decl → Part → Option Y) → Y → List Item → List ℕ × Part → Y
named_by found nobody items ref = unwrap_or (found_by found items ref) nobody

text_names : {A Y : Type 0} (found : Decl → Part → Option Y) (nobody : Y) (items : List Item) (names : List (List ℕ)) (f : List Y → Result A Cause)
    → (declarations_in items (map reference_in names) >>= (λ ds. each (λ d. found_or (found d.0 d.1) cause.WrongKind) ds >>= f))
    ≡ (if list_all (λ name. is_some (declaration_of (bare_name name) items)) names
    then (if list_all (λ name. is_some (option_and_then (λ d. found d (part_of name)) (declaration_of (bare_name name) items))) names
    then f (map (λ name. unwrap_or (option_and_then (λ d. found d (part_of name)) (declaration_of (bare_name name) items)) nobody) names)
    else Err cause.WrongKind)
    else Err cause.Unknown)
text_names {A} {Y} found nobody items names f =
    all_found found nobody items (map reference_in names) f
    ∙ (ap (λ a. nest a (list_all (is_right found items) (map reference_in names)) (map (named_by found nobody items) (map reference_in names))) (all_map (is_found items) reference_in names)
    ∙ (ap (λ b. nest (list_all (λ n. is_found items (reference_in n)) names) b (map (named_by found nobody items) (map reference_in names))) (all_map (is_right found items) reference_in names)
    ∙ ap (λ ys. nest (list_all (λ n. is_found items (reference_in n)) names) (list_all (λ n. is_right found items (reference_in n)) names) ys) (map_map (named_by found nobody items) reference_in names)))
  where
    nest : Bool → Bool → List Y → Result A Cause
    nest a b ys = if a then (if b then f ys else Err cause.WrongKind) else Err cause.Unknown

each_after : (d : Mission) (reading : Result Relation TextCause)
    → (relation_in reading >>= (λ formula. declarations_in d.items (references_of formula) >>= (λ names. leaves_for names >>= (λ ls.
    unless (has_values d.items formula ls) cause.Big >>= (λ bounded. added d (item.Each formula ls))))))
    ≡ judged (named_cause (are_declared d.items reading) (are_leaves d.items reading) (failing (is_formula reading) cause.Text (failing (is_limited reading) cause.Deep
    (failing (are_valued d.items reading) cause.Big (room_left d (each_said d.items reading) None))))) (with_item (each_said d.items reading) d)
each_after d (Err Text) = refl
each_after d (Err Deep) = refl
each_after d (Ok f) =
    text_names leaf_of (Var (record { 0 = 0 })) d.items (relation_names f) _
    ∙ nest_judged _ _ _ _ _ (test_then (has_values d.items f (leaves_named d.items f)) cause.Big _ _ _ (room_then d (item.Each f (leaves_named d.items f)) _ None _ refl))

expr-judged : (d : Mission) (r : Record) → IsJudged d kind.Expr r (in_mission d (each_step d r))
unfolding each_step lowest_cause
expr-judged d r =
    let k = kind.Expr in
    behind k d r _ _ (fields_then (text_fields r) _ (own_of k r) (later_of d k r) (field r 1) _ (lowest_told r).expr (text-said r) (each_after d (reading_of (field r 1))))

-- a name stands for a variable where it stands for a leaf and that is a variable
as_leaf : (v : Option VarId) → (is_some (option_map Var v) && is_variable (unwrap_or (option_map Var v) (Var (record { 0 = 0 })))) ≡ is_some v
as_leaf None = refl
as_leaf (Some v) = refl

one_variable : (p : Part) (o : Option Decl)
    → (is_some (option_and_then (λ d. leaf_of d p) o) && is_variable (unwrap_or (option_and_then (λ d. leaf_of d p) o) (Var (record { 0 = 0 })))) ≡ is_some (option_and_then (λ d. variable_of d p) o)
one_variable p None = refl
one_variable part.Whole (Some (decl.Signal id range)) = refl
one_variable part.X (Some (decl.Signal id range)) = refl
one_variable part.Y (Some (decl.Signal id range)) = refl
one_variable p (Some (decl.Variable id range)) = as_leaf (variable_of (decl.Variable id range) p)
one_variable p (Some (decl.Beacon place first x y)) = as_leaf (variable_of (decl.Beacon place first x y) p)

both_ands : (a all b every : Bool) → ((a && all) && (b && every)) ≡ ((a && b) && (all && every))
both_ands false all b every = refl
both_ands true true b every = refl
both_ands true false true every = refl
both_ands true false false every = refl

variables_alone : (items : List Item) (names : List (List ℕ))
    → (list_all (λ n. is_some (leaf_at items n)) names && list_all is_variable (map (λ n. unwrap_or (leaf_at items n) (Var (record { 0 = 0 }))) names)) ≡ list_all (λ n. is_some (variable_named items n)) names
variables_alone items [] = refl
variables_alone items (n ∷ names) =
    let leaf : Option Leaf = leaf_at items n in
    both_ands (is_some leaf) (list_all (λ m. is_some (leaf_at items m)) names) (is_variable (unwrap_or leaf (Var (record { 0 = 0 })))) (list_all is_variable (map (λ m. unwrap_or (leaf_at items m) (Var (record { 0 = 0 }))) names))
    ∙ (ap (λ (b : Bool). b && (list_all (λ m. is_some (leaf_at items m)) names && list_all is_variable (map (λ m. unwrap_or (leaf_at items m) (Var (record { 0 = 0 }))) names))) (one_variable (part_of n) (declaration_of (bare_name n) items))
    ∙ ap (λ (b : Bool). is_some (variable_named items n) && b) (variables_alone items names))

-- two tests of the same cause
three_judged : {A : Type 0} (known right alone : Bool) (f : Unit {0} → Result A Cause) (o : Option Cause) (e : A) → f tt ≡ judged o e
    → (if known then (if right then (unless alone cause.WrongKind >>= f) else Err cause.WrongKind) else Err cause.Unknown) ≡ judged (named_cause known (right && alone) o) e
three_judged false right alone f o e h = refl
three_judged true false alone f o e h = refl
three_judged true true false f o e h = refl
three_judged true true true f o e h = h

single_after : (d : Mission) (reading : Result Relation TextCause)
    → (relation_in reading >>= (λ formula. declarations_in d.items (references_of formula) >>= (λ names. leaves_for names >>= (λ ls.
    unless (list_all is_variable ls) cause.WrongKind >>= (λ variables. unless (has_values d.items formula ls) cause.Big >>= (λ bounded. added d (item.Single formula ls)))))))
    ≡ judged (named_cause (are_declared d.items reading) (are_variables d.items reading) (failing (is_formula reading) cause.Text (failing (is_limited reading) cause.Deep
    (failing (are_valued d.items reading) cause.Big (room_left d (single_said d.items reading) None))))) (with_item (single_said d.items reading) d)
single_after d (Err Text) = refl
single_after d (Err Deep) = refl
single_after d (Ok f) =
    let ls : List Leaf = leaves_named d.items f in
    let made : Mission = with_item (item.Single f ls) d in
    let rest : Option Cause = failing (has_values d.items f ls) cause.Big (room_left d (item.Single f ls) None) in
    let bounded : (unless (has_values d.items f ls) cause.Big >>= (λ bounded. added d (item.Single f ls))) ≡ judged rest made =
    test_then (has_values d.items f ls) cause.Big (λ bounded. added d (item.Single f ls)) (room_left d (item.Single f ls) None) made (room_then d (item.Single f ls) (λ room. Ok made) None made refl) in
    text_names leaf_of (Var (record { 0 = 0 })) d.items (relation_names f) _
    ∙ (three_judged (are_declared d.items (Ok f)) (are_leaves d.items (Ok f)) (list_all is_variable ls) (λ variables. unless (has_values d.items f ls) cause.Big >>= (λ bounded. added d (item.Single f ls))) rest made bounded
    ∙ ap (λ (b : Bool). judged (named_cause (are_declared d.items (Ok f)) b rest) made) (variables_alone d.items (relation_names f)))

exprv-judged : (d : Mission) (r : Record) → IsJudged d kind.Exprv r (in_mission d (single_step d r))
unfolding single_step lowest_cause
exprv-judged d r =
    let k = kind.Exprv in
    behind k d r _ _ (fields_then (text_fields r) _ (own_of k r) (later_of d k r) (field r 1) _ (lowest_told r).exprv (text-said r) (single_after d (reading_of (field r 1))))

-- ---- every record

note-judged : (d : Mission) → added d item.Note ≡ judged (find (holds_of_note d) causes) (with_item item.Note d)
note-judged d = room_then d item.Note _ None _ refl

no_kind-judged : (d : Mission) (r : Record) → record_step d r None ≡ judged (find (holds_in d None r) causes) d
unfolding kind_step
no_kind-judged d r = by (has_head d.items)
  where
    by : (head : Bool) → (if head then Err cause.Kind else Err cause.NoMission) ≡ judged (failing head cause.NoMission (Some cause.Kind)) d
    by true = refl
    by false = refl

kind-judged : (d : Mission) (r : Record) (k : Kind) → IsJudged d k r (record_step d r (Some k))
unfolding kind_step
kind-judged d r kind.Mission = mission-judged d r
kind-judged d r kind.Cut = cut-judged d r
kind-judged d r kind.Signal = signal-judged d r
kind-judged d r kind.Variable = variable-judged d r
kind-judged d r kind.Beacon = beacon-judged d r
kind-judged d r kind.Deriv = deriv-judged d r
kind-judged d r kind.Bound = bound-judged d r
kind-judged d r kind.At = at-judged d r
kind-judged d r kind.Eval = eval-judged d r
kind-judged d r kind.Delay = delay-judged d r
kind-judged d r kind.Range = range-judged d r
kind-judged d r kind.Range3 = range3-judged d r
kind-judged d r kind.Constell = constell-judged d r
kind-judged d r kind.Ping = ping-judged d r
kind-judged d r kind.Expr = expr-judged d r
kind-judged d r kind.Exprv = exprv-judged d r
kind-judged d r kind.Revisit = revisit-judged d r
kind-judged d r kind.Settle = settle-judged d r

pub records_judged : (d : Mission) (r : Record) → step d r ≡ judged (lowest_cause_after d r) (taken d r)
unfolding step lowest_cause_after taken
records_judged d r = by (is_note_record r) (kind_of (field r 0))
  where
    by : (note : Bool) (k : Option Kind) → (if note then added d item.Note else record_step d r k)
        ≡ judged (find (λ c. if note then holds_of_note d c else holds_in d k r c) causes) (if note then with_item item.Note d else taken_in d k r)
    by true k = note-judged d
    by false None = no_kind-judged d r
    by false (Some k) = kind-judged d r k
