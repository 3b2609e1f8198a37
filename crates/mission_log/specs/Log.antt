-- What a log says: a mission, or the earliest record with a cause, and its lowest cause.
use Rattle.std.specs.Prelude.{◌≡◌, ℕ, ◌+◌, ◌-◌, ◌==◌, not, nat_le, nat_lt, Bool, List, [], ◌∷◌, length, take, drop, Option, Some, None, Result, Ok, Err, ℤ, if◌then◌else◌}
use Rattle.std.specs.List.{list_all}
use Rattle.csv_rows.specs.Records.{Record, records_of}
use Rattle.log_spelling.specs.Blanks.{is_note}
use Rattle.log_spelling.specs.Kinds.{kind_of}
use Rattle.log_spelling.specs.declared.kind.Kind.{Kind}
use Rattle.log_spelling.specs.declared.kind.Kind.TheVariants as kind
use Rattle.tube_spec.specs.Limits.{most_bytes}
use Rattle.tube_store.specs.declared.SignalId.{SignalId}
use Rattle.log_fields.specs.Fields.{field, tick_of}
use Rattle.log_fields.specs.Kinds.{at_fields, beacon_fields, bound_fields, constell_fields, cut_fields, declared_fields, delay_fields, deriv_fields, eval_fields, mission_fields, ping_fields, range3_fields, range_fields, revisit_fields, settle_fields, text_fields}
use Rattle.log_fields.specs.Steps.{◌>>=◌, unless}
use Rattle.log_fields.specs.declared.fault.Cause.{Cause}
use Rattle.log_fields.specs.declared.fault.Cause.TheVariants as cause
use Rattle.mission_items.specs.Made.{has_head, variable_range}
use Rattle.mission_items.specs.Names.{are_distinct}
use Rattle.mission_items.specs.Valid.{is_variable, may_precede_cut, norm_in, revisits_in}
use Rattle.mission_items.specs.declared.item.Item.TheVariants as item
use Rattle.mission_items.specs.declared.mission.Mission.{Mission}
pub use Rattle.log_draft.specs.Growing.{added, nothing_yet, started, with_item}
use Rattle.mission_log.specs.Found.{declaration_in, declarations_in, formula_in, has_values, leaves_for, mark_declared, mark_in, new_name, references_of, signal_in, variable_in, variables_for}
use Rattle.mission_log.specs.Room.{has_mark, is_narrow, room_for}
use Rattle.mission_log.specs.declared.fault.LogFault.{LogFault}
use Rattle.mission_log.specs.declared.fault.LogFault.TheVariants as fault

-- The steps of each kind stand in the order of the causes, of which the lowest wins: first what the fields say by themselves (Version,
-- Fields, Name, Number, Range), and then, by the records before, Twice, Unknown for all names before WrongKind for any, Tick, Wide, Big,
-- the room (Cells, Foot, Records), NoBeacon, Same, Queries, Plane, LateCut. Where a text is no relation within the limits (Text, Deep),
-- its names and values are not asked for.

-- ---- mission,V,T,w and cut,t

unfoldable pub mission_step : Mission → Record → Result Mission Cause
mission_step d r = do
  f ← mission_fields r
  once ← unless (not (has_head d.items)) cause.Twice
  added (started f d) item.Head

-- a kind in version 2 alone
unfoldable pub cut_step : Mission → Record → Result Mission Cause
cut_step d r = do
  kind ← unless (d.version == 2) cause.Kind
  f ← cut_fields r
  tick ← tick_of d.ticks f
  room ← room_for d (item.Cut tick)
  early ← unless (list_all may_precede_cut d.items) cause.LateCut
  Ok (with_item (item.Cut tick) d)

-- ---- signal,name,lo,hi and var,name,lo,hi and beacon,name,x1,x2,y1,y2

unfoldable pub signal_step : Mission → Record → Result Mission Cause
signal_step d r = do
  f ← declared_fields r
  once ← new_name d.items f.0
  added d (item.Signal f.0 f.1)

unfoldable pub variable_step : Mission → Record → Result Mission Cause
variable_step d r = do
  f ← declared_fields r
  once ← new_name d.items f.0
  added d (item.Variable f.0 f.1)

unfoldable pub beacon_step : Mission → Record → Result Mission Cause
beacon_step d r = do
  f ← beacon_fields r
  once ← new_name d.items f.0
  added d (item.Beacon f.0 f.1 f.2)

-- ---- deriv,x,v

unfoldable pub deriv_step : Mission → Record → Result Mission Cause
deriv_step d r = do
  f ← deriv_fields r
  first ← declaration_in d.items f.0
  second ← declaration_in d.items f.1
  x ← signal_in first
  rate ← signal_in second
  room ← room_for d (item.Deriv x rate)
  same ← unless (not (x.0 == rate.0)) cause.Same
  Ok (with_item (item.Deriv x rate) d)

-- ---- bound,x,t1,t2,lo,hi and at,x,t,lo,hi

unfoldable pub bound_step : Mission → Record → Result Mission Cause
bound_step d r = do
  f ← bound_fields r
  name ← declaration_in d.items f.0
  x ← signal_in name
  first ← tick_of d.ticks f.1
  last ← tick_of d.ticks f.2
  order ← unless (nat_le first last) cause.Tick
  added d (item.Bound x first last f.3)

unfoldable pub at_step : Mission → Record → Result Mission Cause
at_step d r = do
  f ← at_fields r
  name ← declaration_in d.items f.0
  x ← signal_in name
  tick ← tick_of d.ticks f.1
  added d (item.At x tick f.2)

-- ---- eval,x,t,z

unfoldable pub eval_step : Mission → Record → Result Mission Cause
eval_step d r = do
  f ← eval_fields r
  first ← declaration_in d.items f.0
  second ← declaration_in d.items f.1.0
  third ← declaration_in d.items f.2.0
  x ← signal_in first
  t ← variable_in second f.1.1
  z ← variable_in third f.2.1
  narrow ← unless (is_narrow d.ticks (variable_range d.items t.0)) cause.Wide
  room ← room_for d (item.Eval x t z)
  same ← unless (not (t.0 == z.0)) cause.Same
  Ok (with_item (item.Eval x t z) d)

-- ---- delay,x,y,tau

unfoldable pub delay_step : Mission → Record → Result Mission Cause
delay_step d r = do
  f ← delay_fields r
  first ← declaration_in d.items f.0
  second ← declaration_in d.items f.1
  third ← declaration_in d.items f.2.0
  x ← signal_in first
  y ← signal_in second
  tau ← variable_in third f.2.1
  narrow ← unless (is_narrow d.ticks (variable_range d.items tau.0)) cause.Wide
  room ← room_for d (item.Delay x y tau)
  same ← unless (not (x.0 == y.0)) cause.Same
  Ok (with_item (item.Delay x y tau) d)

-- ---- range,r1,r2,px,py,bx,by and range3,r1,r2,px,py,pz,bx,by,bz

unfoldable pub range_step : Mission → Record → Result Mission Cause
range_step d r = do
  f ← range_fields r
  names ← declarations_in d.items f.2
  vs ← variables_for names
  room ← room_for d (item.Dist2 f.0 f.1 (take 2 vs) (drop 2 vs))
  same ← unless (are_distinct vs) cause.Same
  Ok (with_item (item.Dist2 f.0 f.1 (take 2 vs) (drop 2 vs)) d)

unfoldable pub range3_step : Mission → Record → Result Mission Cause
range3_step d r = do
  f ← range3_fields r
  names ← declarations_in d.items f.2
  vs ← variables_for names
  room ← room_for d (item.Dist3 f.0 f.1 (take 3 vs) (drop 3 vs))
  same ← unless (are_distinct vs) cause.Same
  Ok (with_item (item.Dist3 f.0 f.1 (take 3 vs) (drop 3 vs)) d)

-- ---- constell,px,py

unfoldable pub constell_step : Mission → Record → Result Mission Cause
constell_step d r = do
  f ← constell_fields r
  names ← declarations_in d.items (f.0 ∷ f.1 ∷ [])
  vs ← variables_for names
  room ← room_for d (item.Constell vs)
  mark ← unless (has_mark d.items None) cause.NoBeacon
  same ← unless (are_distinct vs) cause.Same
  Ok (with_item (item.Constell vs) d)

-- ---- ping,x,y,t1,t2,beacon,r1,r2

-- the signals, the first and the last tick, the place of the beacon, and the distances
unfoldable pub ping_said : Mission → Record → Result (SignalId × SignalId × ℕ × ℕ × Option ℕ × ℤ × ℤ) Cause
ping_said d r = do
  f ← ping_fields r
  first ← declaration_in d.items f.0
  second ← declaration_in d.items f.1
  third ← mark_declared d.items f.4
  x ← signal_in first
  y ← signal_in second
  beacon ← mark_in third
  start ← tick_of d.ticks f.2
  end ← tick_of d.ticks f.3
  order ← unless (nat_le start end) cause.Tick
  narrow ← unless (nat_le (end - start) 2000) cause.Wide
  Ok (x, y, start, end, beacon, f.5, f.6)

unfoldable pub ping_step : Mission → Record → Result Mission Cause
ping_step d r = do
  p ← ping_said d r
  let ping = item.Ping p.0 p.1 p.2 p.3 p.4 p.5 p.6
  room ← room_for d ping
  mark ← unless (has_mark d.items p.4) cause.NoBeacon
  same ← unless (not (p.0.0 == p.1.0)) cause.Same
  Ok (with_item ping d)

-- ---- expr,text and exprv,text

unfoldable pub each_step : Mission → Record → Result Mission Cause
each_step d r = do
  text ← text_fields r
  formula ← formula_in text
  names ← declarations_in d.items (references_of formula)
  ls ← leaves_for names
  bounded ← unless (has_values d.items formula ls) cause.Big
  added d (item.Each formula ls)

-- of variables alone
unfoldable pub single_step : Mission → Record → Result Mission Cause
single_step d r = do
  text ← text_fields r
  formula ← formula_in text
  names ← declarations_in d.items (references_of formula)
  ls ← leaves_for names
  variables ← unless (list_all is_variable ls) cause.WrongKind
  bounded ← unless (has_values d.items formula ls) cause.Big
  added d (item.Single formula ls)

-- ---- revisit,x,y,R,G and settle

unfoldable pub revisit_step : Mission → Record → Result Mission Cause
revisit_step d r = do
  f ← revisit_fields r
  first ← declaration_in d.items f.0
  second ← declaration_in d.items f.1
  x ← signal_in first
  y ← signal_in second
  let question = item.Revisit (record { x = x; y = y; radius = f.2; gap = f.3; norm = norm_in d.version })
  room ← room_for d question
  same ← unless (not (x.0 == y.0)) cause.Same
  few ← unless (nat_lt (revisits_in d.items) 16) cause.Queries
  plane ← unless (nat_le d.ticks 20000) cause.Plane
  Ok (with_item question d)

unfoldable pub settle_step : Mission → Record → Result Mission Cause
settle_step d r = do
  f ← settle_fields r
  added d item.Settle

-- ---- one record

-- the step, where a mission record stands before
abbrev pub in_mission : Mission → Result Mission Cause → Result Mission Cause
in_mission d step = if has_head d.items then step else Err cause.NoMission

-- one line for each kind that speaks of what is declared before; no other first field is a kind
unfoldable pub kind_step : Mission → Record → Option Kind → Result Mission Cause
kind_step d r None = Err cause.Kind
kind_step d r (Some kind.Mission) = mission_step d r
kind_step d r (Some kind.Cut) = cut_step d r
kind_step d r (Some kind.Signal) = signal_step d r
kind_step d r (Some kind.Variable) = variable_step d r
kind_step d r (Some kind.Beacon) = beacon_step d r
kind_step d r (Some kind.Deriv) = deriv_step d r
kind_step d r (Some kind.Bound) = bound_step d r
kind_step d r (Some kind.At) = at_step d r
kind_step d r (Some kind.Eval) = eval_step d r
kind_step d r (Some kind.Delay) = delay_step d r
kind_step d r (Some kind.Range) = range_step d r
kind_step d r (Some kind.Range3) = range3_step d r
kind_step d r (Some kind.Constell) = constell_step d r
kind_step d r (Some kind.Ping) = ping_step d r
kind_step d r (Some kind.Expr) = each_step d r
kind_step d r (Some kind.Exprv) = single_step d r
kind_step d r (Some kind.Revisit) = revisit_step d r
kind_step d r (Some kind.Settle) = settle_step d r

-- the first record that is no note is `mission`
abbrev pub record_step : Mission → Record → Option Kind → Result Mission Cause
record_step d r (Some kind.Mission) = kind_step d r (Some kind.Mission)
record_step d r other = in_mission d (kind_step d r other)

-- a record whose first field begins with `#` is a note
abbrev pub is_note_record : Record → Bool
is_note_record r = is_note (field r 0)

-- what a record makes of the mission so far
unfoldable pub step : Mission → Record → Result Mission Cause
step d r = if is_note_record r then added d item.Note else record_step d r (kind_of (field r 0))

-- ---- the log

abbrev pub after : Mission → Result Mission Cause → (Mission → Result Mission (ℕ × Cause)) → Result Mission (ℕ × Cause)
after d (Ok e) more = more e
after d (Err c) more = Err (length d.items + 1, c)

-- the earliest record wins, since the first that has a cause ends the reading
unfoldable pub log_from : Mission → List Record → Result Mission (ℕ × Cause)
log_from d [] = Ok d
log_from d (r ∷ rs) = after d (step d r) (λ e. log_from e rs)

-- the log of these records, of which one at least has to be no note
abbrev pub log_by : List Record → Result Mission (ℕ × Cause)
log_by rs = if list_all is_note_record rs then Err (0, cause.NoMission) else log_from nothing_yet rs

-- the log of these bytes
abbrev pub log_of : List ℕ → Result Mission (ℕ × Cause)
log_of bytes = if nat_lt most_bytes (length bytes) then Err (0, cause.LogTooLong) else log_by (records_of bytes)

-- what a reader of logs answers is the log, unless memory was refused
abbrev pub IsLog : Result Mission LogFault → Result Mission (ℕ × Cause) → Type 0
IsLog (Ok mission) log = log ≡ Ok mission
IsLog (Err (fault.Bad number cause)) log = log ≡ Err (number, cause)
IsLog (Err fault.NoMemory) log = Unit {0}
