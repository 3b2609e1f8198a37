-- Each kind of record keeps a mission sound.
use Rattle.std.proofs.Common.{◌≡◌, ℕ, ◌-◌, ◌<◌, ◌≤◌, Bool, true, false, cond, List, [], ◌∷◌, Option, Some, None, Result, Ok, ℤ, arith, refl, ◌∙◌, length}
use Rattle.std.specs.Prelude.{IfOk, IfSome, not, nat_le, nat_lt, ◌==◌, take, drop}
use Rattle.std.specs.List.{list_all}
use Rattle.std.proofs.lemmas.Bool.Decides.{nat_tests}
use Rattle.std.proofs.lemmas.Int.{ints}
use Rattle.csv_rows.specs.Records.{Record}
use Rattle.tube_store.specs.declared.SignalId.{SignalId}
use Rattle.expr_tree.specs.Trees.{Relation}
use Rattle.expr_text.specs.Spellable.{IsPrintable}
use Rattle.formula_text.specs.Readings.{reading_of}
use Rattle.log_spelling.specs.Kinds.{kind_of}
use Rattle.log_spelling.specs.declared.kind.Kind.{Kind}
use Rattle.log_spelling.specs.declared.kind.Kind.TheVariants as kind
use Rattle.log_fields.specs.Fields.{field, tick_of}
use Rattle.log_fields.specs.Fields as fields
use Rattle.log_fields.specs.Kinds.{at_fields, beacon_fields, bound_fields, constell_fields, cut_fields, declared_fields, delay_fields, deriv_fields, eval_fields, mission_fields, ping_fields, range3_fields, range_fields, revisit_fields, settle_fields, text_fields}
use Rattle.log_fields.specs.Steps.{◌>>=◌, unless}
use Rattle.log_fields.specs.declared.fault.Cause.{Cause}
use Rattle.log_fields.specs.declared.fault.Cause.TheVariants as cause
use Rattle.mission_items.specs.Cuts.{with_cut}
use Rattle.mission_items.specs.Made.{beacons_in, has_head, signals_in, variable_range}
use Rattle.mission_items.specs.Names.{are_distinct}
use Rattle.mission_items.specs.Valid.{IsInPlace, IsRight, is_variable, may_precede_cut, norm_in, revisits_in}
use Rattle.mission_items.specs.declared.item.Item.{Item}
use Rattle.mission_items.specs.declared.item.Item.TheVariants as item
use Rattle.mission_items.specs.declared.mission.Mission.{Mission}
use Rattle.log_draft.specs.Growing.{added, started}
use Rattle.log_draft.specs.Room.{is_narrow, room_for}
use Rattle.mission_log.specs.Found.{declaration_in, declarations_in, formula_in, has_values, leaves_for, mark_declared, mark_in, new_name, references_of, signal_in, variable_in, variables_for}
use Rattle.mission_log.specs.Log.{at_step, beacon_step, bound_step, constell_step, cut_step, delay_step, deriv_step, each_step, eval_step, is_note_record, kind_step, mission_step, ping_said, ping_step, range3_step, range_step, record_step, revisit_step, settle_step, signal_step, single_step, step, variable_step}
use Rattle.mission_log.specs.Room.{has_mark}
use Rattle.mission_log.proofs.Adding.{inside, record_by}
use Rattle.mission_log.proofs.LeavesStand.{formula-read, formula-right}
use Rattle.mission_log.proofs.Right.{at_least_one, at_most, not_same, ping-right, range-right, range3-right}
use Rattle.mission_law.proofs.Fields.{IsAsked, IsDeclared, IsPlace, IsRing, IsStart, at-fields, beacon-fields, bound-fields, declared-fields, goes, knows, mission-fields, ping-fields, range-fields, range3-fields, revisit-fields, tested, tick-right}
use Rattle.mission_law.proofs.Keeping.{IsSound, sound_cut, sound_head, sound_more, sound_note}
use Rattle.mission_law.proofs.Standing.{AreFound, is_fresh, mark_stands, signal_stands, two_differ, two_stand, variable_stands, variables_stand}

-- where a step finds no cause, the mission is sound
abbrev pub Keeps : Result Mission Cause → Type 0
Keeps s = IfOk s IsSound

then : {A : Type 0} (s : Result A Cause) (f : A → Result Mission Cause) → ((x : A) → s ≡ Ok x → Keeps (f x)) → Keeps (s >>= f)
then s f h = goes IsSound s f h

known : {A : Type 0} (Q : A → Type 0) (s : Result A Cause) (f : A → Result Mission Cause) → IfOk s Q → ((x : A) → Q x → Keeps (f x)) → Keeps (s >>= f)
known Q s f q h = knows Q IsSound s f q h

-- behind a test that was passed
pass : (b : Bool) (c : Cause) (f : Unit {0} → Result Mission Cause) → (b ≡ true → Keeps (f tt)) → Keeps (unless b c >>= f)
pass true c f h = h refl
pass false c f h = tt

not_one : (b : Bool) → not b ≡ true → b ≡ false
not_one true e = cc e
not_one false e = refl

is_two : (n : ℕ) → (n == 2) ≡ true → n ≡ 2
is_two n h = grind (arith, nat_tests, h)

below : (m n : ℕ) → nat_lt m n ≡ true → m < n
below m n h = grind (arith, nat_tests, h)

-- ---- the mission record and notes

mission_keeps : (d : Mission) → IsSound d → (r : Record) → Keeps (mission_step d r)
unfolding mission_step
mission_keeps d k r =
    known IsStart (mission_fields r) _ (mission-fields r) (λ f start. pass (not (has_head d.items)) cause.Twice _ (λ once.
    then (room_for (started f d) item.Head) _ (λ room fits. sound_head d f k (not_one (has_head d.items) once) start fits)))

note_keeps : (d : Mission) → IsSound d → Keeps (added d item.Note)
note_keeps d k = then (room_for d item.Note) _ (λ room fits. sound_note d k fits)

-- ---- the kinds behind it

module _ (d : Mission) (k : IsSound d) (r : Record) (head : has_head d.items ≡ true) where
  -- a record that has room and is right
  add : (i : Item) → with_cut d.cuts i ≡ d.cuts → IsInPlace d.items i → IsRight d.version d.ticks d.items i → Keeps (added d i)
  add i uncut place right = then (room_for d i) _ (λ room fits. sound_more d i k head uncut place right fits)

  cut_keeps : Keeps (cut_step d r)
  unfolding cut_step
  cut_keeps =
      pass (d.version == 2) cause.Kind _ (λ second. then (cut_fields r) _ (λ f e. known (λ tick. tick ≤ d.ticks) (tick_of d.ticks f) _ (tick-right d.ticks f) (λ tick within.
      then (room_for d (item.Cut tick)) _ (λ room fits. pass (list_all may_precede_cut d.items) cause.LateCut _ (λ early.
      sound_cut d tick k head (is_two d.version second) within early fits)))))

  signal_keeps : Keeps (signal_step d r)
  unfolding signal_step
  signal_keeps =
      known IsDeclared (declared_fields r) _ (declared-fields r) (λ f said. known _ (new_name d.items f.0) _ (is_fresh d.items f.0) (λ once fresh.
      add (item.Signal f.0 f.1) refl head ((said.0, fresh), said.1)))

  variable_keeps : Keeps (variable_step d r)
  unfolding variable_step
  variable_keeps =
      known IsDeclared (declared_fields r) _ (declared-fields r) (λ f said. known _ (new_name d.items f.0) _ (is_fresh d.items f.0) (λ once fresh.
      add (item.Variable f.0 f.1) refl head ((said.0, fresh), said.1)))

  beacon_keeps : Keeps (beacon_step d r)
  unfolding beacon_step
  beacon_keeps =
      known IsPlace (beacon_fields r) _ (beacon-fields r) (λ f said. known _ (new_name d.items f.0) _ (is_fresh d.items f.0) (λ once fresh.
      add (item.Beacon f.0 f.1 f.2) refl head ((said.0, fresh), said.1, said.2)))

  deriv_keeps : Keeps (deriv_step d r)
  unfolding deriv_step
  deriv_keeps =
      then (deriv_fields r) _ (λ f e. then (declaration_in d.items f.0) _ (λ first a. then (declaration_in d.items f.1) _ (λ second b.
      then (signal_in first) _ (λ x hx. then (signal_in second) _ (λ rate hr. then (room_for d (item.Deriv x rate)) _ (λ room fits. pass (not (x.0 == rate.0)) cause.Same _ (λ same.
      sound_more d (item.Deriv x rate) k head refl head (signal_stands d.items f.0 first x a hx, signal_stands d.items f.1 second rate b hr, not_same x.0 rate.0 same) fits)))))))

  bound_keeps : Keeps (bound_step d r)
  unfolding bound_step
  bound_keeps =
      known (λ f. fields.IsRange f.3) (bound_fields r) _ (bound-fields r) (λ f range. then (declaration_in d.items f.0) _ (λ name a. then (signal_in name) _ (λ x hx.
      known (λ tick. tick ≤ d.ticks) (tick_of d.ticks f.1) _ (tick-right d.ticks f.1) (λ first early. known (λ tick. tick ≤ d.ticks) (tick_of d.ticks f.2) _ (tick-right d.ticks f.2) (λ last within.
      pass (nat_le first last) cause.Tick _ (λ order.
      add (item.Bound x first last f.3) refl head (signal_stands d.items f.0 name x a hx, (at_most first last order, within), range)))))))

  at_keeps : Keeps (at_step d r)
  unfolding at_step
  at_keeps =
      known (λ f. fields.IsRange f.2) (at_fields r) _ (at-fields r) (λ f range. then (declaration_in d.items f.0) _ (λ name a. then (signal_in name) _ (λ x hx.
      known (λ tick. tick ≤ d.ticks) (tick_of d.ticks f.1) _ (tick-right d.ticks f.1) (λ tick within.
      add (item.At x tick f.2) refl head (signal_stands d.items f.0 name x a hx, within, range)))))

  eval_keeps : Keeps (eval_step d r)
  unfolding eval_step
  eval_keeps =
      then (eval_fields r) _ (λ f e. then (declaration_in d.items f.0) _ (λ first a. then (declaration_in d.items f.1.0) _ (λ second b. then (declaration_in d.items f.2.0) _ (λ third c.
      then (signal_in first) _ (λ x hx. then (variable_in second f.1.1) _ (λ t ht. then (variable_in third f.2.1) _ (λ z hz.
      pass (is_narrow d.ticks (variable_range d.items t.0)) cause.Wide _ (λ narrow. then (room_for d (item.Eval x t z)) _ (λ room fits. pass (not (t.0 == z.0)) cause.Same _ (λ same.
      sound_more d (item.Eval x t z) k head refl head (
        signal_stands d.items f.0 first x a hx,
        (two_stand d.items t z (variable_stands d.items f.1.0 second f.1.1 t b ht) (variable_stands d.items f.2.0 third f.2.1 z c hz), two_differ t z same),
        at_most _ 2000 narrow,
      ) fits))))))))))

  delay_keeps : Keeps (delay_step d r)
  unfolding delay_step
  delay_keeps =
      then (delay_fields r) _ (λ f e. then (declaration_in d.items f.0) _ (λ first a. then (declaration_in d.items f.1) _ (λ second b. then (declaration_in d.items f.2.0) _ (λ third c.
      then (signal_in first) _ (λ x hx. then (signal_in second) _ (λ y hy. then (variable_in third f.2.1) _ (λ tau ht.
      pass (is_narrow d.ticks (variable_range d.items tau.0)) cause.Wide _ (λ narrow. then (room_for d (item.Delay x y tau)) _ (λ room fits. pass (not (x.0 == y.0)) cause.Same _ (λ same.
      sound_more d (item.Delay x y tau) k head refl head (
        (signal_stands d.items f.0 first x a hx, signal_stands d.items f.1 second y b hy, not_same x.0 y.0 same),
        variable_stands d.items f.2.0 third f.2.1 tau c ht,
        at_most _ 2000 narrow,
      ) fits))))))))))

  range_keeps : Keeps (range_step d r)
  unfolding range_step
  range_keeps =
      known (IsRing 4) (range_fields r) _ (range-fields r) (λ f ring. then (declarations_in d.items f.2) _ (λ names e. known (AreFound d.items (length f.2)) (variables_for names) _ (variables_stand d.items f.2 names e) (λ vs found.
      then (room_for d (item.Dist2 f.0 f.1 (take 2 vs) (drop 2 vs))) _ (λ room fits. pass (are_distinct vs) cause.Same _ (λ same.
      sound_more d (item.Dist2 f.0 f.1 (take 2 vs) (drop 2 vs)) k head refl head (range-right d.version d.ticks d.items f.0 f.1 vs ring.0 found.named same (found.count ∙ ring.1)) fits)))))

  range3_keeps : Keeps (range3_step d r)
  unfolding range3_step
  range3_keeps =
      known (IsRing 6) (range3_fields r) _ (range3-fields r) (λ f ring. then (declarations_in d.items f.2) _ (λ names e. known (AreFound d.items (length f.2)) (variables_for names) _ (variables_stand d.items f.2 names e) (λ vs found.
      then (room_for d (item.Dist3 f.0 f.1 (take 3 vs) (drop 3 vs))) _ (λ room fits. pass (are_distinct vs) cause.Same _ (λ same.
      sound_more d (item.Dist3 f.0 f.1 (take 3 vs) (drop 3 vs)) k head refl head (range3-right d.version d.ticks d.items f.0 f.1 vs ring.0 found.named same (found.count ∙ ring.1)) fits)))))

  constell_keeps : Keeps (constell_step d r)
  unfolding constell_step
  constell_keeps =
      then (constell_fields r) _ (λ f e. then (declarations_in d.items (f.0 ∷ f.1 ∷ [])) _ (λ names g. known (AreFound d.items 2) (variables_for names) _ (variables_stand d.items (f.0 ∷ f.1 ∷ []) names g) (λ vs found.
      then (room_for d (item.Constell vs)) _ (λ room fits. pass (has_mark d.items None) cause.NoBeacon _ (λ mark. pass (are_distinct vs) cause.Same _ (λ same.
      sound_more d (item.Constell vs) k head refl head ((found.named, same), at_least_one (beacons_in d.items) mark, found.count) fits))))))

  -- what a ping says, but for its mark and two signals that are the same
  abbrev IsSaid : SignalId × SignalId × ℕ × ℕ × Option ℕ × ℤ × ℤ → Type 0
  IsSaid p =
      (p.0.0 < signals_in d.items) × (p.1.0 < signals_in d.items) × (p.2 ≤ p.3) × (p.3 ≤ d.ticks) × (p.3 - p.2 ≤ 2000) × IfSome p.4 (λ place. place < beacons_in d.items) × fields.AreRadii p.5 p.6

  ping-said : IfOk (ping_said d r) IsSaid
  unfolding ping_said
  ping-said =
      knows (λ f. fields.AreRadii f.5 f.6) IsSaid (ping_fields r) _ (ping-fields r) (λ f radii. goes IsSaid (declaration_in d.items f.0) _ (λ first a. goes IsSaid (declaration_in d.items f.1) _ (λ second b.
      goes IsSaid (mark_declared d.items f.4) _ (λ third c. goes IsSaid (signal_in first) _ (λ x hx. goes IsSaid (signal_in second) _ (λ y hy.
      knows (λ beacon. IfSome beacon (λ place. place < beacons_in d.items)) IsSaid (mark_in third) _ (mark_stands d.items f.4 third c) (λ beacon marked.
      knows (λ tick. tick ≤ d.ticks) IsSaid (tick_of d.ticks f.2) _ (tick-right d.ticks f.2) (λ start early. knows (λ tick. tick ≤ d.ticks) IsSaid (tick_of d.ticks f.3) _ (tick-right d.ticks f.3) (λ end within.
      knows (λ u. nat_le start end ≡ true) IsSaid (unless (nat_le start end) cause.Tick) _ (tested (nat_le start end) cause.Tick) (λ u order.
      knows (λ u. nat_le (end - start) 2000 ≡ true) IsSaid (unless (nat_le (end - start) 2000) cause.Wide) _ (tested (nat_le (end - start) 2000) cause.Wide) (λ v narrow.
      (signal_stands d.items f.0 first x a hx, signal_stands d.items f.1 second y b hy, at_most start end order, within, at_most (end - start) 2000 narrow, marked, radii))))))))))))

  ping_keeps : Keeps (ping_step d r)
  unfolding ping_step
  ping_keeps =
      known IsSaid (ping_said d r) _ ping-said (λ p s. then (room_for d (item.Ping p.0 p.1 p.2 p.3 p.4 p.5 p.6)) _ (λ room fits. pass (has_mark d.items p.4) cause.NoBeacon _ (λ mark. pass (not (p.0.0 == p.1.0)) cause.Same _ (λ same.
      sound_more d (item.Ping p.0 p.1 p.2 p.3 p.4 p.5 p.6) k head refl head
      (ping-right d.version d.ticks d.items p.0 p.1 p.2 p.3 p.4 p.5 p.6 s.0 s.1 (not_same p.0.0 p.1.0 same) s.2 s.3 s.4 s.5 mark s.6) fits))))

  revisit_keeps : Keeps (revisit_step d r)
  unfolding revisit_step
  revisit_keeps =
      known IsAsked (revisit_fields r) _ (revisit-fields r) (λ f asked. then (declaration_in d.items f.0) _ (λ first a. then (declaration_in d.items f.1) _ (λ second b.
      then (signal_in first) _ (λ x hx. then (signal_in second) _ (λ y hy. then (room_for d (item.Revisit (record { x = x; y = y; radius = f.2; gap = f.3; norm = norm_in d.version }))) _ (λ room fits.
      pass (not (x.0 == y.0)) cause.Same _ (λ same. pass (nat_lt (revisits_in d.items) 16) cause.Queries _ (λ few. pass (nat_le d.ticks 20000) cause.Plane _ (λ plane.
      sound_more d (item.Revisit (record { x = x; y = y; radius = f.2; gap = f.3; norm = norm_in d.version })) k head refl head (record {
        signals = (signal_stands d.items f.0 first x a hx, signal_stands d.items f.1 second y b hy, not_same x.0 y.0 same);
        radius = (omega (arith, ints), asked.0, asked.1);
        some_gap = asked.2.0;
        small_gap = asked.2.1;
        norm = refl;
        few = below (revisits_in d.items) 16 few;
        plane = at_most d.ticks 20000 plane;
      }) fits)))))))))

  settle_keeps : Keeps (settle_step d r)
  unfolding settle_step
  settle_keeps = then (settle_fields r) _ (λ f e. add item.Settle refl head tt)

  -- what is read as a formula can be printed
  module _ (printable : (text : List ℕ) (f : Relation) → reading_of text ≡ Ok f → IsPrintable f) where
    each_keeps : Keeps (each_step d r)
    unfolding each_step
    each_keeps =
        then (text_fields r) _ (λ text e. then (formula_in text) _ (λ formula read. then (declarations_in d.items (references_of formula)) _ (λ names a. then (leaves_for names) _ (λ ls b.
        pass (has_values d.items formula ls) cause.Big _ (λ bounded.
        add (item.Each formula ls) refl head (formula-right d.items formula names ls (printable text formula (formula-read text formula read)) a b bounded))))))

    single_keeps : Keeps (single_step d r)
    unfolding single_step
    single_keeps =
        then (text_fields r) _ (λ text e. then (formula_in text) _ (λ formula read. then (declarations_in d.items (references_of formula)) _ (λ names a. then (leaves_for names) _ (λ ls b.
        pass (list_all is_variable ls) cause.WrongKind _ (λ variables. pass (has_values d.items formula ls) cause.Big _ (λ bounded.
        add (item.Single formula ls) refl head (formula-right d.items formula names ls (printable text formula (formula-read text formula read)) a b bounded, variables)))))))

    kind_keeps : (w : Option Kind) → Keeps (kind_step d r w)
    unfolding kind_step
    kind_keeps None = tt
    kind_keeps (Some kind.Mission) = mission_keeps d k r
    kind_keeps (Some kind.Cut) = cut_keeps
    kind_keeps (Some kind.Signal) = signal_keeps
    kind_keeps (Some kind.Variable) = variable_keeps
    kind_keeps (Some kind.Beacon) = beacon_keeps
    kind_keeps (Some kind.Deriv) = deriv_keeps
    kind_keeps (Some kind.Bound) = bound_keeps
    kind_keeps (Some kind.At) = at_keeps
    kind_keeps (Some kind.Eval) = eval_keeps
    kind_keeps (Some kind.Delay) = delay_keeps
    kind_keeps (Some kind.Range) = range_keeps
    kind_keeps (Some kind.Range3) = range3_keeps
    kind_keeps (Some kind.Constell) = constell_keeps
    kind_keeps (Some kind.Ping) = ping_keeps
    kind_keeps (Some kind.Expr) = each_keeps
    kind_keeps (Some kind.Exprv) = single_keeps
    kind_keeps (Some kind.Revisit) = revisit_keeps
    kind_keeps (Some kind.Settle) = settle_keeps

-- ---- any record

module _ (printable : (text : List ℕ) (f : Relation) → reading_of text ≡ Ok f → IsPrintable f) (d : Mission) (k : IsSound d) (r : Record) where
  record_keeps : (w : Option Kind) → Keeps (record_step d r w)
  record_keeps w = record_by Keeps d r w (mission_keeps d k r) (inside Keeps d (kind_step d r w) tt (λ head. kind_keeps d k r head printable w))

  pub step_keeps : Keeps (step d r)
  unfolding step
  step_keeps = choose (is_note_record r)
    where
      choose : (b : Bool) → Keeps (cond b (added d item.Note) (record_step d r (kind_of (field r 0))))
      choose true = note_keeps d k
      choose false = record_keeps (kind_of (field r 0))
