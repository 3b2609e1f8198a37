-- A record that is taken is one record more.
use Rattle.std.proofs.Common.{◌≡◌, Bool, true, false, cond, List, [], ◌∷◌, ◌++◌, Result, Ok, Err, Option, Some, None, refl, ap, ◌∙◌, length, length-append, arith}
use Rattle.std.specs.Prelude.{IfOk, ◌+◌, not, nat_le, nat_lt, ◌==◌, take, drop}
use Rattle.std.specs.List.{list_all}
use Rattle.csv_rows.specs.Records.{Record}
use Rattle.log_fields.specs.Fields.{field, tick_of}
use Rattle.log_fields.specs.Kinds.{at_fields, beacon_fields, bound_fields, constell_fields, cut_fields, declared_fields, delay_fields, deriv_fields, eval_fields, mission_fields, range3_fields, range_fields, revisit_fields, settle_fields, text_fields}
use Rattle.log_fields.specs.Steps.{◌>>=◌, unless}
use Rattle.log_fields.specs.declared.fault.Cause.{Cause}
use Rattle.log_fields.specs.declared.fault.Cause.TheVariants as cause
use Rattle.log_spelling.specs.Kinds.{kind_of}
use Rattle.log_spelling.specs.declared.kind.Kind.{Kind}
use Rattle.log_spelling.specs.declared.kind.Kind.TheVariants as kind
use Rattle.mission_items.specs.Made.{has_head, variable_range}
use Rattle.mission_items.specs.Names.{are_distinct}
use Rattle.mission_items.specs.Valid.{is_variable, may_precede_cut, norm_in, revisits_in}
use Rattle.mission_items.specs.declared.item.Item.{Item}
use Rattle.mission_items.specs.declared.item.Item.TheVariants as item
use Rattle.mission_items.specs.declared.mission.Mission.{Mission}
use Rattle.mission_log.specs.Log.{added, at_step, beacon_step, bound_step, constell_step, cut_step, delay_step, deriv_step, each_step, eval_step, in_mission, is_note_record, kind_step, mission_step, ping_said, ping_step, range3_step, range_step, record_step, revisit_step, settle_step, signal_step, single_step, started, step, variable_step, with_item}
use Rattle.mission_log.specs.Found.{declaration_in, declarations_in, formula_in, has_values, leaves_for, new_name, references_of, signal_in, variable_in, variables_for}
use Rattle.mission_log.specs.Room.{has_mark, is_narrow, room_for}

-- a mission with one record more than these
pub record Grows (items : List Item) (e : Mission) : Type 0 where
  pub item : Item
  pub all : e.items ≡ items ++ item ∷ []

pub one_longer : (d e : Mission) → Grows d.items e → length e.items ≡ length d.items + 1
one_longer d e more = ap length more.all ∙ (length-append d.items (more.item ∷ []) ∙ omega arith)

-- where a step finds no cause, the mission has one record more
abbrev pub Adds : Mission → Result Mission Cause → Type 0
Adds d s = IfOk s (Grows d.items)

-- whatever the steps before it gave
then : {A : Type 0} (d : Mission) (s : Result A Cause) (f : A → Result Mission Cause) → ((x : A) → Adds d (f x)) → Adds d (s >>= f)
then d (Ok x) f h = h x
then d (Err c) f h = tt

stays : (d : Mission) (i : Item) → Adds d (Ok (with_item i d))
stays d i = record { item = i; all = refl }

added_adds : (d : Mission) (i : Item) → Adds d (added d i)
added_adds d i = then d (room_for d i) (λ room. Ok (with_item i d)) (λ room. stays d i)

mission_adds : (d : Mission) (r : Record) → Adds d (mission_step d r)
unfolding mission_step
mission_adds d r = then d (mission_fields r) _ (λ f. then d (unless (not (has_head d.items)) cause.Twice) _ (λ once. added_adds (started f d) item.Head))

cut_adds : (d : Mission) (r : Record) → Adds d (cut_step d r)
unfolding cut_step
cut_adds d r =
    then d (unless (d.version == 2) cause.Kind) _ (λ kind. then d (cut_fields r) _ (λ f. then d (tick_of d.ticks f) _ (λ tick. then d (room_for d (item.Cut tick)) _ (λ room. then d (unless (list_all may_precede_cut d.items) cause.LateCut) _ (λ early. stays d (item.Cut tick))))))

signal_adds : (d : Mission) (r : Record) → Adds d (signal_step d r)
unfolding signal_step
signal_adds d r =
    then d (declared_fields r) _ (λ f. then d (new_name d.items f.0) _ (λ once. added_adds d (item.Signal f.0 f.1)))

variable_adds : (d : Mission) (r : Record) → Adds d (variable_step d r)
unfolding variable_step
variable_adds d r =
    then d (declared_fields r) _ (λ f. then d (new_name d.items f.0) _ (λ once. added_adds d (item.Variable f.0 f.1)))

beacon_adds : (d : Mission) (r : Record) → Adds d (beacon_step d r)
unfolding beacon_step
beacon_adds d r =
    then d (beacon_fields r) _ (λ f. then d (new_name d.items f.0) _ (λ once. added_adds d (item.Beacon f.0 f.1 f.2)))

deriv_adds : (d : Mission) (r : Record) → Adds d (deriv_step d r)
unfolding deriv_step
deriv_adds d r =
    then d (deriv_fields r) _ (λ f. then d (declaration_in d.items f.0) _ (λ first. then d (declaration_in d.items f.1) _ (λ second. then d (signal_in first) _ (λ x. then d (signal_in second) _ (λ rate. then d (room_for d (item.Deriv x rate)) _ (λ room. then d (unless (not (x.0 == rate.0)) cause.Same) _ (λ same. stays d (item.Deriv x rate))))))))

bound_adds : (d : Mission) (r : Record) → Adds d (bound_step d r)
unfolding bound_step
bound_adds d r =
    then d (bound_fields r) _ (λ f. then d (declaration_in d.items f.0) _ (λ name. then d (signal_in name) _ (λ x. then d (tick_of d.ticks f.1) _ (λ first. then d (tick_of d.ticks f.2) _ (λ last. then d (unless (nat_le first last) cause.Tick) _ (λ order. added_adds d (item.Bound x first last f.3)))))))

at_adds : (d : Mission) (r : Record) → Adds d (at_step d r)
unfolding at_step
at_adds d r =
    then d (at_fields r) _ (λ f. then d (declaration_in d.items f.0) _ (λ name. then d (signal_in name) _ (λ x. then d (tick_of d.ticks f.1) _ (λ tick. added_adds d (item.At x tick f.2)))))

eval_adds : (d : Mission) (r : Record) → Adds d (eval_step d r)
unfolding eval_step
eval_adds d r =
    then d (eval_fields r) _ (λ f. then d (declaration_in d.items f.0) _ (λ first. then d (declaration_in d.items f.1.0) _ (λ second. then d (declaration_in d.items f.2.0) _ (λ third. then d (signal_in first) _ (λ x. then d (variable_in second f.1.1) _ (λ t. then d (variable_in third f.2.1) _ (λ z. then d (unless (is_narrow d.ticks (variable_range d.items t.0)) cause.Wide) _ (λ narrow. then d (room_for d (item.Eval x t z)) _ (λ room. then d (unless (not (t.0 == z.0)) cause.Same) _ (λ same. stays d (item.Eval x t z)))))))))))

delay_adds : (d : Mission) (r : Record) → Adds d (delay_step d r)
unfolding delay_step
delay_adds d r =
    then d (delay_fields r) _ (λ f. then d (declaration_in d.items f.0) _ (λ first. then d (declaration_in d.items f.1) _ (λ second. then d (declaration_in d.items f.2.0) _ (λ third. then d (signal_in first) _ (λ x. then d (signal_in second) _ (λ y. then d (variable_in third f.2.1) _ (λ tau. then d (unless (is_narrow d.ticks (variable_range d.items tau.0)) cause.Wide) _ (λ narrow. then d (room_for d (item.Delay x y tau)) _ (λ room. then d (unless (not (x.0 == y.0)) cause.Same) _ (λ same. stays d (item.Delay x y tau)))))))))))

range_adds : (d : Mission) (r : Record) → Adds d (range_step d r)
unfolding range_step
range_adds d r =
    then d (range_fields r) _ (λ f. then d (declarations_in d.items f.2) _ (λ names. then d (variables_for names) _ (λ vs. then d (room_for d (item.Dist2 f.0 f.1 (take 2 vs) (drop 2 vs))) _ (λ room. then d (unless (are_distinct vs) cause.Same) _ (λ same. stays d (item.Dist2 f.0 f.1 (take 2 vs) (drop 2 vs)))))))

range3_adds : (d : Mission) (r : Record) → Adds d (range3_step d r)
unfolding range3_step
range3_adds d r =
    then d (range3_fields r) _ (λ f. then d (declarations_in d.items f.2) _ (λ names. then d (variables_for names) _ (λ vs. then d (room_for d (item.Dist3 f.0 f.1 (take 3 vs) (drop 3 vs))) _ (λ room. then d (unless (are_distinct vs) cause.Same) _ (λ same. stays d (item.Dist3 f.0 f.1 (take 3 vs) (drop 3 vs)))))))

constell_adds : (d : Mission) (r : Record) → Adds d (constell_step d r)
unfolding constell_step
constell_adds d r =
    then d (constell_fields r) _ (λ f. then d (declarations_in d.items (f.0 ∷ f.1 ∷ [])) _ (λ names. then d (variables_for names) _ (λ vs. then d (room_for d (item.Constell vs)) _ (λ room. then d (unless (has_mark d.items None) cause.NoBeacon) _ (λ mark. then d (unless (are_distinct vs) cause.Same) _ (λ same. stays d (item.Constell vs)))))))

ping_adds : (d : Mission) (r : Record) → Adds d (ping_step d r)
unfolding ping_step
ping_adds d r =
    then d (ping_said d r) _ (λ p. then d (room_for d (item.Ping p.0 p.1 p.2 p.3 p.4 p.5 p.6)) _ (λ room. then d (unless (has_mark d.items p.4) cause.NoBeacon) _ (λ mark.
    then d (unless (not (p.0.0 == p.1.0)) cause.Same) _ (λ same. stays d (item.Ping p.0 p.1 p.2 p.3 p.4 p.5 p.6)))))

each_adds : (d : Mission) (r : Record) → Adds d (each_step d r)
unfolding each_step
each_adds d r =
    then d (text_fields r) _ (λ text. then d (formula_in text) _ (λ formula. then d (declarations_in d.items (references_of formula)) _ (λ names. then d (leaves_for names) _ (λ ls. then d (unless (has_values d.items formula ls) cause.Big) _ (λ bounded. added_adds d (item.Each formula ls))))))

single_adds : (d : Mission) (r : Record) → Adds d (single_step d r)
unfolding single_step
single_adds d r =
    then d (text_fields r) _ (λ text. then d (formula_in text) _ (λ formula. then d (declarations_in d.items (references_of formula)) _ (λ names. then d (leaves_for names) _ (λ ls. then d (unless (list_all is_variable ls) cause.WrongKind) _ (λ variables. then d (unless (has_values d.items formula ls) cause.Big) _ (λ bounded. added_adds d (item.Single formula ls)))))))

revisit_adds : (d : Mission) (r : Record) → Adds d (revisit_step d r)
unfolding revisit_step
revisit_adds d r =
    then d (revisit_fields r) _ (λ f. then d (declaration_in d.items f.0) _ (λ first. then d (declaration_in d.items f.1) _ (λ second. then d (signal_in first) _ (λ x. then d (signal_in second) _ (λ y. then d (room_for d (item.Revisit (record { x = x; y = y; radius = f.2; gap = f.3; norm = norm_in d.version }))) _ (λ room. then d (unless (not (x.0 == y.0)) cause.Same) _ (λ same. then d (unless (nat_lt (revisits_in d.items) 16) cause.Queries) _ (λ few. then d (unless (nat_le d.ticks 20000) cause.Plane) _ (λ plane. stays d (item.Revisit (record { x = x; y = y; radius = f.2; gap = f.3; norm = norm_in d.version })))))))))))

settle_adds : (d : Mission) (r : Record) → Adds d (settle_step d r)
unfolding settle_step
settle_adds d r =
    then d (settle_fields r) _ (λ f. added_adds d item.Settle)

pub kind_adds : (d : Mission) (r : Record) (k : Option Kind) → Adds d (kind_step d r k)
unfolding kind_step
kind_adds d r None = tt
kind_adds d r (Some kind.Mission) = mission_adds d r
kind_adds d r (Some kind.Cut) = cut_adds d r
kind_adds d r (Some kind.Signal) = signal_adds d r
kind_adds d r (Some kind.Variable) = variable_adds d r
kind_adds d r (Some kind.Beacon) = beacon_adds d r
kind_adds d r (Some kind.Deriv) = deriv_adds d r
kind_adds d r (Some kind.Bound) = bound_adds d r
kind_adds d r (Some kind.At) = at_adds d r
kind_adds d r (Some kind.Eval) = eval_adds d r
kind_adds d r (Some kind.Delay) = delay_adds d r
kind_adds d r (Some kind.Range) = range_adds d r
kind_adds d r (Some kind.Range3) = range3_adds d r
kind_adds d r (Some kind.Constell) = constell_adds d r
kind_adds d r (Some kind.Ping) = ping_adds d r
kind_adds d r (Some kind.Expr) = each_adds d r
kind_adds d r (Some kind.Exprv) = single_adds d r
kind_adds d r (Some kind.Revisit) = revisit_adds d r
kind_adds d r (Some kind.Settle) = settle_adds d r

-- a mission record is taken at any place, and what holds of it and of each other kind holds of a record
pub record_by : (P : Result Mission Cause → Type 0) (d : Mission) (r : Record) (k : Option Kind) → P (mission_step d r) → P (in_mission d (kind_step d r k)) → P (record_step d r k)
unfolding kind_step
record_by P d r (Some kind.Mission) first other = first
record_by P d r k first other = other

-- where a mission record stands before, and where none does
pub inside : (P : Result Mission Cause → Type 0) (d : Mission) (s : Result Mission Cause) → P (Err cause.NoMission) → (has_head d.items ≡ true → P s) → P (in_mission d s)
inside P d s none some = choose (has_head d.items) some
  where
    choose : (b : Bool) → (b ≡ true → P s) → P (cond b s (Err cause.NoMission))
    choose true h = h refl
    choose false h = none

record_adds : (d : Mission) (r : Record) (k : Option Kind) → Adds d (record_step d r k)
record_adds d r k = record_by (Adds d) d r k (mission_adds d r) (inside (Adds d) d (kind_step d r k) tt (λ h. kind_adds d r k))

pub step_adds : (d : Mission) (r : Record) → Adds d (step d r)
unfolding step
step_adds d r = choose (is_note_record r)
  where
    choose : (b : Bool) → Adds d (cond b (added d item.Note) (record_step d r (kind_of (field r 0))))
    choose true = added_adds d item.Note
    choose false = record_adds d r (kind_of (field r 0))
