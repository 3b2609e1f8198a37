-- What a draft keeps, with one more record and at the start of its clock.
use Rattle.std.proofs.Common.{◌≡◌, ℕ, ◌+◌, ◌<◌, ◌≤◌, Bool, true, false, ◌||◌, ◌&&◌, List, [], ◌∷◌, ◌++◌, Result, Ok, length, length-append, refl, sym, ap, ◌∙◌, subst, arith, nat_le, append-nil, ◌⊎◌}
use Rattle.std.specs.Prelude.{is_some, slice_index_or}
use Rattle.std.specs.List.{list_all}
use Rattle.std.proofs.lemmas.Bool.Decides.{nat_tests}
use Rattle.tube_spec.specs.Grid.{IsGrid, last_tick}
use Rattle.slice_gates.specs.Cuts.{uniform_cuts}
use Rattle.log_fields.specs.Steps.{◌>>=◌, unless}
use Rattle.log_fields.specs.declared.fault.Cause.{Cause}
use Rattle.log_fields.specs.declared.fault.Cause.TheVariants as cause
use Rattle.mission_items.specs.Cuts.{with_cut, with_tick}
use Rattle.mission_items.specs.Made.{has_head, is_head, rate_in, signals_in, signals_made, variables_in, variables_made}
use Rattle.mission_items.specs.Names.{declared}
use Rattle.mission_items.specs.Room.{are_few, cells_of, feet_of, foot_of}
use Rattle.mission_items.specs.Valid.{AreFew, IsClock, IsInPlace, IsRight, may_precede_cut}
use Rattle.mission_items.specs.declared.decl.Decl.{Decl}
use Rattle.mission_items.specs.declared.item.Item.{Item}
use Rattle.mission_items.specs.declared.item.Item.TheVariants as item
use Rattle.mission_items.specs.declared.mission.Mission.{Mission}
use Rattle.mission_items.proofs.Making.{beacons-last, declared-last, feet-last, signals-last, variables-last}
use Rattle.log_draft.specs.Kept.{AreCounts, IsKept, MayFollow, is_note_item}
use Rattle.log_draft.specs.Room.{room_for}
use Rattle.log_draft.specs.declared.counts.Counts.{Counts}
use Rattle.log_draft.proofs.Records.{all-last, and_parts, boundaries-last, head-last, note-open, notes_boundaries, notes_right, open-feet, open-makes, or_false, or_true, rated-last, revisits-last, right-last}

-- ---- steps that found no cause

pub unless_then : {Y : Type 0} (b : Bool) (c : Cause) (f : Unit {0} → Result Y Cause) (y : Y) → (unless b c >>= f) ≡ Ok y → (b ≡ true) × (f tt ≡ Ok y)
unless_then true c f y e = (refl, e)
unless_then false c f y e = cc e

unless_last : (b : Bool) (c : Cause) → unless b c ≡ Ok tt → b ≡ true
unless_last true c e = refl
unless_last false c e = cc e

at_most : (a b : ℕ) → nat_le a b ≡ true → a ≤ b
at_most a b h = grind (arith, nat_tests)

-- what room says of a record that has it
pub record HasRoom (m : Mission) (i : Item) : Type 0 where
  pub signals : signals_in m.items + signals_made i ≤ 64
  pub variables : variables_in m.items + variables_made i ≤ 200000
  pub cells : cells_of m.cuts (signals_in m.items + signals_made i) (variables_in m.items + variables_made i) ≤ 2000000
  pub feet : feet_of m.cuts m.items + foot_of m.cuts m.items i ≤ 20000000
  pub records : length m.items + 1 ≤ 1000000

pub has_room : (m : Mission) (i : Item) → room_for m i ≡ Ok tt → HasRoom m i
unfolding room_for
has_room m i h =
    let cells = unless_then (are_few m.cuts (signals_in m.items + signals_made i) (variables_in m.items + variables_made i)) cause.Cells
    (λ (u : Unit {0}). unless (nat_le (feet_of m.cuts m.items + foot_of m.cuts m.items i) 20000000) cause.Foot >>= (λ (v : Unit {0}). unless (nat_le (length m.items + 1) 1000000) cause.Records)) tt h in
    let feet = unless_then (nat_le (feet_of m.cuts m.items + foot_of m.cuts m.items i) 20000000) cause.Foot
    (λ (v : Unit {0}). unless (nat_le (length m.items + 1) 1000000) cause.Records) tt cells.1 in
    let records = unless_last (nat_le (length m.items + 1) 1000000) cause.Records feet.1 in
    let few = and_parts (nat_le (signals_in m.items + signals_made i) 64) _ cells.0 in
    let more = and_parts (nat_le (variables_in m.items + variables_made i) 200000) _ few.1 in
    record {
      signals = at_most _ _ few.0;
      variables = at_most _ _ more.0;
      cells = at_most _ _ more.1;
      feet = at_most _ _ feet.0;
      records = at_most _ _ records;
    }

-- a record that has room and is no cut fits
pub room_few : (m : Mission) (i : Item) → room_for m i ≡ Ok tt → AreFew (record m { items = m.items ++ i ∷ [] })
room_few m i h =
    let room = has_room m i h in
    let signals = signals-last m.items i in
    let variables = variables-last m.items i in
    record {
      records = omega (arith, room.records, length-append m.items (i ∷ []));
      signals = omega (arith, room.signals, signals);
      variables = omega (arith, room.variables, variables);
      cells = subst (λ (n : ℕ). cells_of m.cuts n (variables_in (m.items ++ i ∷ [])) ≤ 2000000) (sym signals)
          (subst (λ (n : ℕ). cells_of m.cuts (signals_in m.items + signals_made i) n ≤ 2000000) (sym variables) room.cells);
      feet = omega (arith, room.feet, feet-last m.cuts m.items i);
    }

-- ---- the clock and the notes before it

-- a clock with a record more that cuts nothing
pub clock-last : (version ticks width : ℕ) (cuts : List ℕ) (items : List Item) (i : Item) → IsClock version ticks width cuts items → with_cut cuts i ≡ cuts → IsClock version ticks width cuts (items ++ i ∷ [])
clock-last version ticks width cuts items i k uncut = record {
  known_version = k.known_version;
  some_tick = k.some_tick;
  few_ticks = k.few_ticks;
  some_width = k.some_width;
  small_width = k.small_width;
  boundaries = sym (boundaries-last ticks width items i ∙ (ap (λ (c : List ℕ). with_cut c i) (sym k.boundaries) ∙ uncut));
  grid = k.grid;
  ends = k.ends;
}

-- a record is in its place
in_place : (m : Mission) (i : Item) → MayFollow m i → IsInPlace m.items i
in_place m item.Head f = f.0
in_place m item.Note f = tt
in_place m i f = f

clock_before : (m : Mission) (i : Item) (flag : Bool) → MayFollow m i → (flag ≡ true → IsClock m.version m.ticks m.width m.cuts m.items) → flag ≡ has_head m.items → (flag || is_head i) ≡ true
    → IsClock m.version m.ticks m.width m.cuts m.items
clock_before m item.Head flag f k h e = f.1
clock_before m item.Note flag f k h e = k (sym (or_false flag) ∙ e)
clock_before m i flag f k h e = k (h ∙ f)

no_head : {A : Type 0} (flag : Bool) (b : Bool) (items : List Item) → flag ≡ has_head items → has_head items ≡ true → (flag || b) ≡ false → A
no_head true b items h k e = cc e
no_head false b items h k e = absurd (let same : false ≡ true = h ∙ k in cc same)

notes_more : (m : Mission) (i : Item) (flag : Bool) → MayFollow m i → flag ≡ has_head m.items → (flag ≡ false → list_all is_note_item m.items ≡ true) → (flag || is_head i) ≡ false
    → list_all is_note_item (m.items ++ i ∷ []) ≡ true
notes_more m item.Head flag f h k e = absurd (let same : true ≡ false = sym (or_true flag) ∙ e in cc same)
notes_more m item.Note flag f h k e = all-last is_note_item m.items item.Note ∙ ap (λ (b : Bool). b && true) (k (sym (or_false flag) ∙ e))
notes_more m i flag f h k e = no_head flag (is_head i) m.items h f e

-- ---- one more record

pub kept_with : (table table2 : List (List ℕ × Decl)) (flag open_ : Bool) (rated rated2 : List Bool) (c c2 : Counts) (m : Mission) (i : Item)
    → IsKept table flag open_ rated c m → IsRight m.version m.ticks m.items i → MayFollow m i → room_for m i ≡ Ok tt → with_cut m.cuts i ≡ m.cuts
    → AreCounts c2 m.cuts (m.items ++ i ∷ []) → table2 ≡ declared (m.items ++ i ∷ [])
    → ((x : ℕ) → x < 64 → slice_index_or rated2 x false ≡ (slice_index_or rated x false || is_some (rate_in (i ∷ []) x)))
    → IsKept table2 (flag || is_head i) (open_ && may_precede_cut i) rated2 c2 (record m { items = m.items ++ i ∷ [] })
kept_with table table2 flag open_ rated rated2 c c2 m i k right follows room uncut counts names rates = record {
  names = names;
  headed = ap (λ (b : Bool). b || is_head i) k.headed ∙ sym (head-last m.items i);
  opened = ap (λ (b : Bool). b && may_precede_cut i) k.opened ∙ sym (all-last may_precede_cut m.items i);
  rates = λ x h. rates x h ∙ (ap (λ (b : Bool). b || is_some (rate_in (i ∷ []) x)) (k.rates x h) ∙ sym (rated-last x m.items i));
  counts = counts;
  few = room_few m i room;
  right = right-last m.version m.ticks m.items i k.right (in_place m i follows) right;
  clock = λ e. clock-last m.version m.ticks m.width m.cuts m.items i (clock_before m i flag follows k.clock k.headed e) uncut;
  notes = notes_more m i flag follows k.headed k.notes;
}

-- ---- one more cut

pub kept_cut : (table : List (List ℕ × Decl)) (flag open_ : Bool) (rated : List Bool) (c : Counts) (m : Mission) (tick : ℕ) (cuts : List ℕ)
    → IsKept table flag open_ rated c m → m.version ≡ 2 → has_head m.items ≡ true → tick ≤ m.ticks → list_all may_precede_cut m.items ≡ true → room_for m (item.Cut tick) ≡ Ok tt
    → cuts ≡ with_tick m.cuts tick → IsGrid cuts → last_tick cuts ≡ last_tick m.cuts
    → IsKept table flag open_ rated c (record { version = m.version; ticks = m.ticks; width = m.width; cuts = cuts; items = m.items ++ item.Cut tick ∷ [] })
kept_cut table flag open_ rated c m tick cuts k second head within early room value grid ends =
    let i = item.Cut tick in
    let more = m.items ++ i ∷ [] in
    let open_more : list_all may_precede_cut more ≡ true = all-last may_precede_cut m.items i ∙ ap (λ (b : Bool). b && true) early in
    let none = open-makes more open_more in
    let before = open-makes m.items early in
    let clock = k.clock (k.headed ∙ head) in
    record {
      names = k.names ∙ (sym (append-nil (declared m.items)) ∙ sym (declared-last m.items i));
      headed = k.headed ∙ (sym (or_false (has_head m.items)) ∙ sym (head-last m.items i));
      opened = k.opened ∙ (early ∙ sym open_more);
      rates = λ x h. k.rates x h ∙ (sym (or_false (is_some (rate_in m.items x))) ∙ sym (rated-last x m.items i));
      counts = record {
        signal_count = omega (arith, k.counts.signal_count, none.0, before.0);
        variable_count = omega (arith, k.counts.variable_count, none.1, before.1);
        beacon_count = omega (arith, k.counts.beacon_count, beacons-last m.items i);
        revisit_count = omega (arith, k.counts.revisit_count, revisits-last m.items i);
        foot_count = k.counts.foot_count ∙ (open-feet m.cuts [] m.items early ∙ sym (open-feet cuts [] more open_more));
      };
      few = record {
        records = omega (arith, (has_room m i room).records, length-append m.items (i ∷ []));
        signals = omega (arith, none.0);
        variables = omega (arith, none.1);
        cells = rw (none.0, none.1) (let zero_cells : cells_of cuts 0 0 ≡ 0 = omega arith in omega (arith, zero_cells));
        feet = omega (arith, open-feet cuts [] more open_more);
      };
      right = right-last m.version m.ticks m.items i k.right head (second, within, early);
      clock = λ e. record {
        known_version = clock.known_version;
        some_tick = clock.some_tick;
        few_ticks = clock.few_ticks;
        some_width = clock.some_width;
        small_width = clock.small_width;
        boundaries = value ∙ (ap (λ (b : List ℕ). with_tick b tick) clock.boundaries ∙ sym (boundaries-last m.ticks m.width m.items i));
        grid = grid;
        ends = ends ∙ clock.ends;
      };
      notes = λ e. no_head flag false m.items k.headed head (or_false flag ∙ e);
    }

-- ---- the start of the clock

pub kept_started : (table : List (List ℕ × Decl)) (flag open_ : Bool) (rated : List Bool) (c : Counts) (m : Mission) (version ticks width : ℕ) (cuts : List ℕ)
    → IsKept table flag open_ rated c m → flag ≡ false
    → IsKept table flag open_ rated c (record { version = version; ticks = ticks; width = width; cuts = cuts; items = m.items })
kept_started table flag open_ rated c m version ticks width cuts k off =
    let notes = k.notes off in
    let early = note-open m.items notes in
    let none = open-makes m.items early in
    let cells : cells_of cuts 0 0 ≡ 0 = omega arith in
    record {
      names = k.names;
      headed = k.headed;
      opened = k.opened;
      rates = k.rates;
      counts = record {
        signal_count = k.counts.signal_count;
        variable_count = k.counts.variable_count;
        beacon_count = k.counts.beacon_count;
        revisit_count = k.counts.revisit_count;
        foot_count = k.counts.foot_count ∙ (open-feet m.cuts [] m.items early ∙ sym (open-feet cuts [] m.items early));
      };
      few = record {
        records = k.few.records;
        signals = k.few.signals;
        variables = k.few.variables;
        cells = rw (none.0, none.1) (omega (arith, cells));
        feet = omega (arith, open-feet cuts [] m.items early);
      };
      right = notes_right version ticks [] m.items notes;
      clock = λ e. absurd (let same : true ≡ false = sym e ∙ off in cc same);
      notes = k.notes;
    }

-- the clock of a log that has only notes yet
pub clock_started : (version ticks width : ℕ) (items : List Item) → list_all is_note_item items ≡ true → 1 ≤ version → version ≤ 2 → 1 ≤ ticks → ticks ≤ 100000 → 1 ≤ width → width ≤ 100000
    → IsGrid (uniform_cuts ticks width) → last_tick (uniform_cuts ticks width) ≡ ticks → IsClock version ticks width (uniform_cuts ticks width) items
clock_started version ticks width items notes first last some few wide small grid ends = record {
  known_version = one_or_two version first last;
  some_tick = some;
  few_ticks = few;
  some_width = wide;
  small_width = small;
  boundaries = sym (notes_boundaries ticks width items notes);
  grid = grid;
  ends = ends;
}
  where
    one_or_two : (version : ℕ) → 1 ≤ version → version ≤ 2 → (version ≡ 1) ⊎ (version ≡ 2)
    one_or_two version first last = grind arith
