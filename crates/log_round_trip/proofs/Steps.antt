-- The fields of each record of an accepted mission make that record.
use Rattle.std.proofs.Common.{◌≡◌, ℕ, ◌+◌, ◌-◌, ◌<◌, ◌≤◌, ◌==◌, true, List, [], ◌∷◌, ◌++◌, Option, Some, None, Ok, refl, sym, ap, subst, arith, ℤ, pos}
use Rattle.std.specs.Prelude.{codes, not, nat_lt}
use Rattle.std.specs.List.{list_all}
use Rattle.std.proofs.lemmas.Bool.Decides.{nat_tests}
use Rattle.std.proofs.lemmas.List.Elements.{All-head, All-tail}
use Rattle.tube_spec.specs.Span.{Span}
use Rattle.tube_store.specs.declared.SignalId.{SignalId}
use Rattle.tube_store.specs.declared.VarId.{VarId}
use Rattle.tube_names.specs.declared.queries.Query.{Query}
use Rattle.expr_tree.specs.Trees.{Relation}
use Rattle.expr_tree.specs.Measures.{relation_names}
use Rattle.expr_text.specs.Canonical.{relation_text}
use Rattle.expr_text.specs.Spellable.{IsPrintable}
use Rattle.tube_names.specs.declared.leaves.Leaf.{Leaf}
use Rattle.formula_text.specs.Laws.{IsFieldText}
use Rattle.formula_text.specs.Readings.{reading_of}
use Rattle.mission_items.specs.Made.{beacons_in}
use Rattle.mission_items.specs.Names.{IsNamed, are_distinct}
use Rattle.mission_items.specs.Valid.{AreRadii, AreRight, AreSignals, AreTicks, AreVariables, IsClock, IsFormula, IsMark, IsNew, IsPoint, IsQuery, IsRange, IsSignal, IsTime, is_variable, may_precede_cut, norm_in, revisits_in}
use Rattle.mission_items.specs.declared.item.Item.{Item}
use Rattle.mission_items.specs.declared.item.Item.TheVariants as item
use Rattle.mission_items.specs.declared.mission.Mission.{Mission}
use Rattle.mission_log.specs.Found.{formula_in, relation_in}
use Rattle.mission_log.specs.Log.{at_step, beacon_step, bound_step, constell_step, cut_step, delay_step, deriv_step, each_step, eval_step, ping_said, ping_step, range3_step, range_step, revisit_step, settle_step, signal_step, single_step, variable_step, with_item}
use Rattle.mission_log.specs.Room.{has_mark, room_for}
use Rattle.log_text.specs.NameTexts.{beacon_name, signal_name, texts_of, variable_name}
use Rattle.log_text.specs.Records.{at_record, beacon_record, bound_record, constell_record, cut_record, delay_record, deriv_record, eval_record, ping_record, range3_record, range_record, revisit_record, signal_record, variable_record}
use Rattle.log_text.proofs.Known.{names-beacon, names-signal, names-variable}
use Rattle.log_text.proofs.KindFields.{at_read, beacon_read, bound_read, constell_read, cut_read, declared_read, delay_read, deriv_read, eval_read, ping_read, range3_read, range_read, revisit_read, settle_read, text_read}
use Rattle.log_text.proofs.ReadFields.{tick-is}
use Rattle.log_round_trip.proofs.Finding.{at_most, declared-as, different, is-new, leaves-are, values-are, variable-is}
use Rattle.log_round_trip.proofs.SoFar.{begun}

module _ (m : Mission) (clock : IsClock m.version m.ticks m.width m.cuts m.items) (before rest : List Item) (right : AreRight m.version m.ticks before) where
  tick-few : (n : ℕ) → n ≤ m.ticks → n ≤ 100000
  tick-few n h = omega (arith, clock.few_ticks)

  -- ---- the clock and declarations

  pub cut-step : (tick : ℕ) → m.version ≡ 2 → tick ≤ m.ticks → list_all may_precede_cut before ≡ true → room_for (begun m before) (item.Cut tick) ≡ Ok tt
      → cut_step (begun m before) (cut_record tick) ≡ Ok (with_item (item.Cut tick) (begun m before))
  unfolding cut_step
  cut-step tick two within open_ room =
      let version : (m.version == 2) ≡ true = grind (arith, nat_tests) in
      rw (version, cut_read (codes "cut") tick (tick-few tick within), tick-is m.ticks tick within, room, open_) refl

  pub signal-step : (name : List ℕ) (range : Span) → IsNew before name → IsRange range → room_for (begun m before) (item.Signal name range) ≡ Ok tt
      → signal_step (begun m before) (signal_record name range) ≡ Ok (with_item (item.Signal name range) (begun m before))
  unfolding signal_step
  signal-step name range new is room = rw (declared_read (codes "signal") name range new.0 is, is-new before name new.1, room) refl

  pub variable-step : (name : List ℕ) (range : Span) → IsNew before name → IsRange range → room_for (begun m before) (item.Variable name range) ≡ Ok tt
      → variable_step (begun m before) (variable_record name range) ≡ Ok (with_item (item.Variable name range) (begun m before))
  unfolding variable_step
  variable-step name range new is room = rw (declared_read (codes "var") name range new.0 is, is-new before name new.1, room) refl

  pub beacon-step : (name : List ℕ) (x y : Span) → IsNew before name → IsRange x → IsRange y → room_for (begun m before) (item.Beacon name x y) ≡ Ok tt
      → beacon_step (begun m before) (beacon_record name x y) ≡ Ok (with_item (item.Beacon name x y) (begun m before))
  unfolding beacon_step
  beacon-step name x y new isx isy room = rw (beacon_read (codes "beacon") name x y new.0 isx isy, is-new before name new.1, room) refl

  -- ---- signals

  pub deriv-step : (x rate : SignalId) → AreSignals before x rate → room_for (begun m before) (item.Deriv x rate) ≡ Ok tt
      → deriv_step (begun m before) (deriv_record (texts_of (before ++ rest)) x rate) ≡ Ok (with_item (item.Deriv x rate) (begun m before))
  unfolding deriv_step
  deriv-step x rate h room =
      let n = texts_of (before ++ rest) in
      let a = names-signal m.version m.ticks before rest right x h.0 in
      let b = names-signal m.version m.ticks before rest right rate h.1 in
      rw (
        deriv_read (codes "deriv") (signal_name n x) (signal_name n rate) a.spelled b.spelled,
        declared-as before (signal_name n x) _ a.found,
        declared-as before (signal_name n rate) _ b.found,
        room,
        different x.0 rate.0 h.2,
      ) refl

  pub bound-step : (x : SignalId) (first last : ℕ) (range : Span) → IsSignal before x → AreTicks m.ticks first last → IsRange range → room_for (begun m before) (item.Bound x first last range) ≡ Ok tt
      → bound_step (begun m before) (bound_record (texts_of (before ++ rest)) x first last range) ≡ Ok (with_item (item.Bound x first last range) (begun m before))
  unfolding bound_step
  bound-step x first last range h ticks is room =
      let n = texts_of (before ++ rest) in
      let a = names-signal m.version m.ticks before rest right x h in
      let start : first ≤ m.ticks = omega (arith, ticks.0, ticks.1) in
      rw (
        bound_read (codes "bound") (signal_name n x) first last range a.spelled (tick-few first start) (tick-few last ticks.1) is,
        declared-as before (signal_name n x) _ a.found,
        tick-is m.ticks first start,
        tick-is m.ticks last ticks.1,
        at_most first last ticks.0,
        room,
      ) refl

  pub at-step : (x : SignalId) (tick : ℕ) (range : Span) → IsSignal before x → tick ≤ m.ticks → IsRange range → room_for (begun m before) (item.At x tick range) ≡ Ok tt
      → at_step (begun m before) (at_record (texts_of (before ++ rest)) x tick range) ≡ Ok (with_item (item.At x tick range) (begun m before))
  unfolding at_step
  at-step x tick range h within is room =
      let n = texts_of (before ++ rest) in
      let a = names-signal m.version m.ticks before rest right x h in
      rw (at_read (codes "at") (signal_name n x) tick range a.spelled (tick-few tick within) is, declared-as before (signal_name n x) _ a.found, tick-is m.ticks tick within, room) refl

  pub eval-step : (x : SignalId) (t z : VarId) → IsSignal before x → AreVariables before (t ∷ z ∷ []) → IsTime m.ticks before t → room_for (begun m before) (item.Eval x t z) ≡ Ok tt
      → eval_step (begun m before) (eval_record (texts_of (before ++ rest)) x t z) ≡ Ok (with_item (item.Eval x t z) (begun m before))
  unfolding eval_step
  eval-step x t z h variables time room =
      let n = texts_of (before ++ rest) in
      let a = names-signal m.version m.ticks before rest right x h in
      let first = All-head (IsNamed before) t (z ∷ []) variables.0 in
      let second = All-head (IsNamed before) z [] (All-tail (IsNamed before) t (z ∷ []) variables.0) in
      let b = names-variable m.version m.ticks before rest right t first in
      let c = names-variable m.version m.ticks before rest right z second in
      let apart : not (t.0 == z.0) ≡ true = apart_of t.0 z.0 variables.1 in
      rw (
        eval_read before (codes "eval") (signal_name n x) (variable_name n t) (variable_name n z) t z a.spelled b c,
        declared-as before (signal_name n x) _ a.found,
        declared-as before b.name b.declared_as b.found,
        declared-as before c.name c.declared_as c.found,
        variable-is b.declared_as b.part t b.stands,
        variable-is c.declared_as c.part z c.stands,
        at_most _ _ time,
        room,
        apart,
      ) refl
    where
      apart_of : (t z : ℕ) → are_distinct (record { 0 = t } ∷ record { 0 = z } ∷ []) ≡ true → not (t == z) ≡ true
      apart_of t z h = grind (arith, nat_tests)

  pub delay-step : (x y : SignalId) (tau : VarId) → AreSignals before x y → IsNamed before tau → IsTime m.ticks before tau → room_for (begun m before) (item.Delay x y tau) ≡ Ok tt
      → delay_step (begun m before) (delay_record (texts_of (before ++ rest)) x y tau) ≡ Ok (with_item (item.Delay x y tau) (begun m before))
  unfolding delay_step
  delay-step x y tau h named time room =
      let n = texts_of (before ++ rest) in
      let a = names-signal m.version m.ticks before rest right x h.0 in
      let b = names-signal m.version m.ticks before rest right y h.1 in
      let c = names-variable m.version m.ticks before rest right tau named in
      rw (
        delay_read before (codes "delay") (signal_name n x) (signal_name n y) (variable_name n tau) tau a.spelled b.spelled c,
        declared-as before (signal_name n x) _ a.found,
        declared-as before (signal_name n y) _ b.found,
        declared-as before c.name c.declared_as c.found,
        variable-is c.declared_as c.part tau c.stands,
        at_most _ _ time,
        room,
        different x.0 y.0 h.2,
      ) refl

  -- ---- points

  range-four : (near far : ℤ) (x y z w : VarId) → AreRadii near far → AreVariables before (x ∷ y ∷ z ∷ w ∷ []) → room_for (begun m before) (item.Dist2 near far (x ∷ y ∷ []) (z ∷ w ∷ [])) ≡ Ok tt
      → range_step (begun m before) (range_record (texts_of (before ++ rest)) near far (x ∷ y ∷ []) (z ∷ w ∷ [])) ≡ Ok (with_item (item.Dist2 near far (x ∷ y ∷ []) (z ∷ w ∷ [])) (begun m before))
  unfolding range_step
  range-four near far x y z w radii variables room =
      let n = texts_of (before ++ rest) in
      let one = All-tail (IsNamed before) x (y ∷ z ∷ w ∷ []) variables.0 in
      let two = All-tail (IsNamed before) y (z ∷ w ∷ []) one in
      let three = All-tail (IsNamed before) z (w ∷ []) two in
      let a = names-variable m.version m.ticks before rest right x (All-head (IsNamed before) x (y ∷ z ∷ w ∷ []) variables.0) in
      let b = names-variable m.version m.ticks before rest right y (All-head (IsNamed before) y (z ∷ w ∷ []) one) in
      let c = names-variable m.version m.ticks before rest right z (All-head (IsNamed before) z (w ∷ []) two) in
      let e = names-variable m.version m.ticks before rest right w (All-head (IsNamed before) w [] three) in
      rw (
        range_read before (codes "range") near far (variable_name n x) (variable_name n y) (variable_name n z) (variable_name n w) x y z w radii a b c e,
        declared-as before a.name a.declared_as a.found,
        declared-as before b.name b.declared_as b.found,
        declared-as before c.name c.declared_as c.found,
        declared-as before e.name e.declared_as e.found,
        variable-is a.declared_as a.part x a.stands,
        variable-is b.declared_as b.part y b.stands,
        variable-is c.declared_as c.part z c.stands,
        variable-is e.declared_as e.part w e.stands,
        room,
        variables.1,
      ) refl

  pub range-step : (near far : ℤ) (p b : List VarId) → AreRadii near far → AreVariables before (p ++ b) → IsPoint 2 p → IsPoint 2 b → room_for (begun m before) (item.Dist2 near far p b) ≡ Ok tt
      → range_step (begun m before) (range_record (texts_of (before ++ rest)) near far p b) ≡ Ok (with_item (item.Dist2 near far p b) (begun m before))
  range-step near far (x ∷ y ∷ []) (z ∷ w ∷ []) radii variables one two room = range-four near far x y z w radii variables room
  range-step near far [] b radii variables one two room = absurd (omega (arith, one))
  range-step near far (x ∷ []) b radii variables one two room = absurd (omega (arith, one))
  range-step near far (x ∷ y ∷ u ∷ p) b radii variables one two room = absurd (omega (arith, one))
  range-step near far (x ∷ y ∷ []) [] radii variables one two room = absurd (omega (arith, two))
  range-step near far (x ∷ y ∷ []) (z ∷ []) radii variables one two room = absurd (omega (arith, two))
  range-step near far (x ∷ y ∷ []) (z ∷ w ∷ u ∷ b) radii variables one two room = absurd (omega (arith, two))

  range3-six : (near far : ℤ) (x y z u v w : VarId) → AreRadii near far → AreVariables before (x ∷ y ∷ z ∷ u ∷ v ∷ w ∷ []) → room_for (begun m before) (item.Dist3 near far (x ∷ y ∷ z ∷ []) (u ∷ v ∷ w ∷ [])) ≡ Ok tt
      → range3_step (begun m before) (range3_record (texts_of (before ++ rest)) near far (x ∷ y ∷ z ∷ []) (u ∷ v ∷ w ∷ [])) ≡ Ok (with_item (item.Dist3 near far (x ∷ y ∷ z ∷ []) (u ∷ v ∷ w ∷ [])) (begun m before))
  unfolding range3_step
  range3-six near far x y z u v w radii variables room =
      let n = texts_of (before ++ rest) in
      let one = All-tail (IsNamed before) x (y ∷ z ∷ u ∷ v ∷ w ∷ []) variables.0 in
      let two = All-tail (IsNamed before) y (z ∷ u ∷ v ∷ w ∷ []) one in
      let three = All-tail (IsNamed before) z (u ∷ v ∷ w ∷ []) two in
      let four = All-tail (IsNamed before) u (v ∷ w ∷ []) three in
      let five = All-tail (IsNamed before) v (w ∷ []) four in
      let a = names-variable m.version m.ticks before rest right x (All-head (IsNamed before) x (y ∷ z ∷ u ∷ v ∷ w ∷ []) variables.0) in
      let b = names-variable m.version m.ticks before rest right y (All-head (IsNamed before) y (z ∷ u ∷ v ∷ w ∷ []) one) in
      let c = names-variable m.version m.ticks before rest right z (All-head (IsNamed before) z (u ∷ v ∷ w ∷ []) two) in
      let e = names-variable m.version m.ticks before rest right u (All-head (IsNamed before) u (v ∷ w ∷ []) three) in
      let f = names-variable m.version m.ticks before rest right v (All-head (IsNamed before) v (w ∷ []) four) in
      let g = names-variable m.version m.ticks before rest right w (All-head (IsNamed before) w [] five) in
      rw (
        range3_read before (codes "range3") near far (variable_name n x) (variable_name n y) (variable_name n z) (variable_name n u) (variable_name n v) (variable_name n w) x y z u v w radii a b c e f g,
        declared-as before a.name a.declared_as a.found,
        declared-as before b.name b.declared_as b.found,
        declared-as before c.name c.declared_as c.found,
        declared-as before e.name e.declared_as e.found,
        declared-as before f.name f.declared_as f.found,
        declared-as before g.name g.declared_as g.found,
        variable-is a.declared_as a.part x a.stands,
        variable-is b.declared_as b.part y b.stands,
        variable-is c.declared_as c.part z c.stands,
        variable-is e.declared_as e.part u e.stands,
        variable-is f.declared_as f.part v f.stands,
        variable-is g.declared_as g.part w g.stands,
        room,
        variables.1,
      ) refl

  pub range3-step : (near far : ℤ) (p b : List VarId) → AreRadii near far → AreVariables before (p ++ b) → IsPoint 3 p → IsPoint 3 b → room_for (begun m before) (item.Dist3 near far p b) ≡ Ok tt
      → range3_step (begun m before) (range3_record (texts_of (before ++ rest)) near far p b) ≡ Ok (with_item (item.Dist3 near far p b) (begun m before))
  range3-step near far (x ∷ y ∷ z ∷ []) (u ∷ v ∷ w ∷ []) radii variables one two room = range3-six near far x y z u v w radii variables room
  range3-step near far [] b radii variables one two room = absurd (omega (arith, one))
  range3-step near far (x ∷ []) b radii variables one two room = absurd (omega (arith, one))
  range3-step near far (x ∷ y ∷ []) b radii variables one two room = absurd (omega (arith, one))
  range3-step near far (x ∷ y ∷ z ∷ q ∷ p) b radii variables one two room = absurd (omega (arith, one))
  range3-step near far (x ∷ y ∷ z ∷ []) [] radii variables one two room = absurd (omega (arith, two))
  range3-step near far (x ∷ y ∷ z ∷ []) (u ∷ []) radii variables one two room = absurd (omega (arith, two))
  range3-step near far (x ∷ y ∷ z ∷ []) (u ∷ v ∷ []) radii variables one two room = absurd (omega (arith, two))
  range3-step near far (x ∷ y ∷ z ∷ []) (u ∷ v ∷ w ∷ q ∷ b) radii variables one two room = absurd (omega (arith, two))

  constell-two : (x y : VarId) → AreVariables before (x ∷ y ∷ []) → 1 ≤ beacons_in before → room_for (begun m before) (item.Constell (x ∷ y ∷ [])) ≡ Ok tt
      → constell_step (begun m before) (constell_record (texts_of (before ++ rest)) (x ∷ y ∷ [])) ≡ Ok (with_item (item.Constell (x ∷ y ∷ [])) (begun m before))
  unfolding constell_step
  constell-two x y variables some room =
      let n = texts_of (before ++ rest) in
      let one = All-tail (IsNamed before) x (y ∷ []) variables.0 in
      let a = names-variable m.version m.ticks before rest right x (All-head (IsNamed before) x (y ∷ []) variables.0) in
      let b = names-variable m.version m.ticks before rest right y (All-head (IsNamed before) y [] one) in
      rw (
        constell_read before (codes "constell") (variable_name n x) (variable_name n y) x y a b,
        declared-as before a.name a.declared_as a.found,
        declared-as before b.name b.declared_as b.found,
        variable-is a.declared_as a.part x a.stands,
        variable-is b.declared_as b.part y b.stands,
        room,
        at_most 1 (beacons_in before) some,
        variables.1,
      ) refl

  pub constell-step : (p : List VarId) → AreVariables before p → 1 ≤ beacons_in before → IsPoint 2 p → room_for (begun m before) (item.Constell p) ≡ Ok tt
      → constell_step (begun m before) (constell_record (texts_of (before ++ rest)) p) ≡ Ok (with_item (item.Constell p) (begun m before))
  constell-step (x ∷ y ∷ []) variables some one room = constell-two x y variables some room
  constell-step [] variables some one room = absurd (omega (arith, one))
  constell-step (x ∷ []) variables some one room = absurd (omega (arith, one))
  constell-step (x ∷ y ∷ z ∷ p) variables some one room = absurd (omega (arith, one))

  -- ---- pings

  ping-said : (x y : SignalId) (first last : ℕ) (beacon : Option ℕ) (near far : ℤ) → AreSignals before x y → AreTicks m.ticks first last → last ≤ first + 2000 → IsMark before beacon → AreRadii near far
      → ping_said (begun m before) (ping_record (texts_of (before ++ rest)) x y first last beacon near far) ≡ Ok (x, y, first, last, beacon, near, far)
  unfolding ping_said
  ping-said x y first last None near far h ticks short mark radii =
      let n = texts_of (before ++ rest) in
      let a = names-signal m.version m.ticks before rest right x h.0 in
      let b = names-signal m.version m.ticks before rest right y h.1 in
      let start : first ≤ m.ticks = omega (arith, ticks.0, ticks.1) in
      let near_enough : last - first ≤ 2000 = omega (arith, short) in
      rw (
        ping_read (codes "ping") (signal_name n x) (signal_name n y) first last None near far a.spelled b.spelled (tick-few first start) (tick-few last ticks.1) tt radii,
        declared-as before (signal_name n x) _ a.found,
        declared-as before (signal_name n y) _ b.found,
        tick-is m.ticks first start,
        tick-is m.ticks last ticks.1,
        at_most first last ticks.0,
        at_most (last - first) 2000 near_enough,
      ) refl
  ping-said x y first last (Some place) near far h ticks short mark radii =
      let n = texts_of (before ++ rest) in
      let a = names-signal m.version m.ticks before rest right x h.0 in
      let b = names-signal m.version m.ticks before rest right y h.1 in
      let c = names-beacon m.version m.ticks before rest right place mark in
      let start : first ≤ m.ticks = omega (arith, ticks.0, ticks.1) in
      let near_enough : last - first ≤ 2000 = omega (arith, short) in
      rw (
        ping_read (codes "ping") (signal_name n x) (signal_name n y) first last (Some (beacon_name n (Some place))) near far a.spelled b.spelled (tick-few first start) (tick-few last ticks.1) c.spelled radii,
        declared-as before (signal_name n x) _ a.found,
        declared-as before (signal_name n y) _ b.found,
        declared-as before (beacon_name n (Some place)) c.declared_as c.found,
        c.stands,
        tick-is m.ticks first start,
        tick-is m.ticks last ticks.1,
        at_most first last ticks.0,
        at_most (last - first) 2000 near_enough,
      ) refl

  mark-known : (beacon : Option ℕ) → IsMark before beacon → has_mark before beacon ≡ true
  mark-known None h = at_most 1 (beacons_in before) h
  mark-known (Some place) h = refl

  pub ping-step : (x y : SignalId) (first last : ℕ) (beacon : Option ℕ) (near far : ℤ) → AreSignals before x y → AreTicks m.ticks first last → last ≤ first + 2000 → IsMark before beacon → AreRadii near far
      → room_for (begun m before) (item.Ping x y first last beacon near far) ≡ Ok tt
      → ping_step (begun m before) (ping_record (texts_of (before ++ rest)) x y first last beacon near far) ≡ Ok (with_item (item.Ping x y first last beacon near far) (begun m before))
  unfolding ping_step
  ping-step x y first last beacon near far h ticks short mark radii room =
      rw (ping-said x y first last beacon near far h ticks short mark radii, room, mark-known beacon mark, different x.0 y.0 h.2) refl

  -- ---- questions and sections

  revisit-said : (x y : SignalId) (radius : ℤ) (gap : ℕ) → AreSignals before x y → AreRadii (pos 0) radius → 1 ≤ gap → gap ≤ 100000 → revisits_in before < 16 → m.ticks ≤ 20000
      → room_for (begun m before) (item.Revisit (record { x = x; y = y; radius = radius; gap = gap; norm = norm_in m.version })) ≡ Ok tt
      → revisit_step (begun m before) (revisit_record (texts_of (before ++ rest)) (record { x = x; y = y; radius = radius; gap = gap; norm = norm_in m.version }))
      ≡ Ok (with_item (item.Revisit (record { x = x; y = y; radius = radius; gap = gap; norm = norm_in m.version })) (begun m before))
  unfolding revisit_step
  revisit-said x y radius gap h radii some small few plane room =
      let n = texts_of (before ++ rest) in
      let a = names-signal m.version m.ticks before rest right x h.0 in
      let b = names-signal m.version m.ticks before rest right y h.1 in
      let fewer : nat_lt (revisits_in before) 16 ≡ true = below (revisits_in before) 16 few in
      rw (
        revisit_read (codes "revisit") (signal_name n x) (signal_name n y) radius gap a.spelled b.spelled radii.1 radii.2 some small,
        declared-as before (signal_name n x) _ a.found,
        declared-as before (signal_name n y) _ b.found,
        room,
        different x.0 y.0 h.2,
        fewer,
        at_most m.ticks 20000 plane,
      ) refl
    where
      below : (i j : ℕ) → i < j → nat_lt i j ≡ true
      below i j h = grind (arith, nat_tests)

  pub revisit-step : (q : Query) → IsQuery m.version m.ticks before q → room_for (begun m before) (item.Revisit q) ≡ Ok tt
      → revisit_step (begun m before) (revisit_record (texts_of (before ++ rest)) q) ≡ Ok (with_item (item.Revisit q) (begun m before))
  revisit-step q h room =
      let Says : Query → Type 0 = λ q. room_for (begun m before) (item.Revisit q) ≡ Ok tt → revisit_step (begun m before) (revisit_record (texts_of (before ++ rest)) q) ≡ Ok (with_item (item.Revisit q) (begun m before)) in
      let same : record { x = q.x; y = q.y; radius = q.radius; gap = q.gap; norm = norm_in m.version } ≡ q = λ j. record { x = q.x; y = q.y; radius = q.radius; gap = q.gap; norm = back j } in
      subst Says same (revisit-said q.x q.y q.radius q.gap h.signals h.radius h.some_gap h.small_gap h.few h.plane) room
    where
      back : norm_in m.version ≡ q.norm
      back = sym h.norm

  pub settle-step : room_for (begun m before) item.Settle ≡ Ok tt → settle_step (begun m before) (codes "settle" ∷ []) ≡ Ok (with_item item.Settle (begun m before))
  unfolding settle_step
  settle-step room = rw (settle_read (codes "settle"), room) refl

  -- ---- formulas

  module _ (again : (r : Relation) → IsPrintable r → reading_of (relation_text r) ≡ Ok r) (texts : (r : Relation) → IsPrintable r → IsFieldText (relation_text r)) where
    formula-is : (r : Relation) → IsPrintable r → formula_in (relation_text r) ≡ Ok r
    formula-is r printable = ap relation_in (again r printable)

    pub each-step : (r : Relation) (ls : List Leaf) → IsFormula before r ls → room_for (begun m before) (item.Each r ls) ≡ Ok tt → each_step (begun m before) (codes "expr" ∷ relation_text r ∷ []) ≡ Ok (with_item (item.Each r ls) (begun m before))
    unfolding each_step
    each-step r ls h room =
        let found = leaves-are before (relation_names r) ls h.stands in
        rw (
          text_read (codes "expr") (relation_text r) (texts r h.printable).trimmed,
          formula-is r h.printable,
          found.declared,
          found.stand,
          values-are before r ls h.values,
          room,
        ) refl

    pub single-step : (r : Relation) (ls : List Leaf) → IsFormula before r ls → list_all is_variable ls ≡ true → room_for (begun m before) (item.Single r ls) ≡ Ok tt
        → single_step (begun m before) (codes "exprv" ∷ relation_text r ∷ []) ≡ Ok (with_item (item.Single r ls) (begun m before))
    unfolding single_step
    single-step r ls h variables room =
        let found = leaves-are before (relation_names r) ls h.stands in
        rw (
          text_read (codes "exprv") (relation_text r) (texts r h.printable).trimmed,
          formula-is r h.printable,
          found.declared,
          found.stand,
          variables,
          values-are before r ls h.values,
          room,
        ) refl
