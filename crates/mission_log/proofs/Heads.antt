-- A record that is taken and is no note leaves a mission record.
use Rattle.std.proofs.Common.{◌≡◌, Bool, true, false, ◌||◌, cond, Result, Ok, Err, Option, sym, ap, ◌∙◌}
use Rattle.std.specs.Prelude.{IfOk, not}
use Rattle.csv_rows.specs.Records.{Record}
use Rattle.log_fields.specs.Fields.{field}
use Rattle.log_fields.specs.Kinds.{mission_fields}
use Rattle.log_fields.specs.Steps.{◌>>=◌, unless}
use Rattle.log_fields.specs.declared.fault.Cause.{Cause}
use Rattle.log_spelling.specs.Kinds.{kind_of}
use Rattle.log_spelling.specs.declared.kind.Kind.{Kind}
use Rattle.mission_items.specs.Made.{has_head, is_head}
use Rattle.mission_items.specs.declared.item.Item.TheVariants as item
use Rattle.mission_items.specs.declared.mission.Mission.{Mission}
use Rattle.log_draft.proofs.Records.{head-last, or_true}
use Rattle.mission_log.specs.Log.{added, is_note_record, kind_step, mission_step, record_step, started, step, with_item}
use Rattle.mission_log.specs.Room.{room_for}
use Rattle.mission_log.proofs.Adding.{Adds, inside, kind_adds, record_by}

-- where a step finds no cause, a mission record stands among the records
abbrev Heads : Result Mission Cause → Type 0
Heads s = IfOk s (λ e. has_head e.items ≡ true)

-- whatever the steps before it gave
then : {A : Type 0} (s : Result A Cause) (f : A → Result Mission Cause) → ((x : A) → Heads (f x)) → Heads (s >>= f)
then (Ok x) f h = h x
then (Err c) f h = tt

mission_heads : (d : Mission) (r : Record) → Heads (mission_step d r)
unfolding mission_step
mission_heads d r =
    then (mission_fields r) _ (λ f. then (unless (not (has_head d.items)) _) _ (λ once.
    then (room_for (started f d) item.Head) (λ room. Ok (with_item item.Head (started f d))) (λ room. head-last d.items item.Head ∙ or_true (has_head d.items))))

-- a mission record that stands before still stands
stays : (d : Mission) (s : Result Mission Cause) → has_head d.items ≡ true → Adds d s → Heads s
stays d (Ok e) h more = ap has_head more.all ∙ (head-last d.items more.item ∙ ap (λ (b : Bool). b || is_head more.item) h)
stays d (Err c) h more = tt

record_heads : (d : Mission) (r : Record) (k : Option Kind) → Heads (record_step d r k)
record_heads d r k = record_by Heads d r k (mission_heads d r) (inside Heads d (kind_step d r k) tt (λ h. stays d (kind_step d r k) h (kind_adds d r k)))

-- what a step leaves of whether there is a mission record
abbrev pub TellsHead : Mission → Bool → Result Mission Cause → Type 0
TellsHead d is_note s = IfOk s (λ e. has_head e.items ≡ (has_head d.items || not is_note))

tells : (d : Mission) (s : Result Mission Cause) → Heads s → TellsHead d false s
tells d (Ok e) h = h ∙ sym (or_true (has_head d.items))
tells d (Err c) h = tt

note_tells : (d : Mission) (s : Result (Unit {0}) Cause) → TellsHead d true (s >>= (λ room. Ok (with_item item.Note d)))
note_tells d (Ok room) = head-last d.items item.Note
note_tells d (Err c) = tt

pub step_head : (d : Mission) (r : Record) → TellsHead d (is_note_record r) (step d r)
unfolding step
step_head d r = choose (is_note_record r)
  where
    choose : (b : Bool) → TellsHead d b (cond b (added d item.Note) (record_step d r (kind_of (field r 0))))
    choose true = note_tells d (room_for d item.Note)
    choose false = tells d (record_step d r (kind_of (field r 0))) (record_heads d r (kind_of (field r 0)))
