-- A demo mission is one that a reader accepts.
use Rattle.std.proofs.Common.{◌≡◌, ◌≢◌, ℕ, zero, suc, ◌+◌, ◌-◌, ◌*◌, ◌%◌, ◌==◌, ◌<◌, ◌≤◌, Bool, true, false, if◌then◌else◌, List, [], ◌∷◌, ◌++◌, Some, inl, refl, sym, ap, ap₂, subst, ◌∙◌, arith, length, length-append, append_assoc, lit≤, bytes_eq, ℤ, pos, neg_ℤ, fold}
use Rattle.std.specs.List.{list_any}
use Rattle.std.specs.Prelude.{is_some}
use Rattle.std.proofs.lemmas.Int.{ints}
use Rattle.std.proofs.lemmas.Bool.Decides.{nat_tests}
use Rattle.tube_spec.specs.Span.{Holds}
use Rattle.slice_gates.specs.Cuts.{uniform_cuts}
use Rattle.log_spelling.specs.Names.{is_name}
use Rattle.mission_items.specs.Cuts.{boundaries, with_cut}
use Rattle.mission_items.specs.Made.{has_head, rate_in, signals_in, ticks_from, variables_in}
use Rattle.mission_items.specs.Room.{cells_of, feet_of, foot_of, touching}
use Rattle.mission_items.specs.Valid.{AreRadii, AreRight, AreSignals, IsMission, IsQuery, IsRange}
use Rattle.mission_items.specs.declared.item.Item.{Item}
use Rattle.mission_items.proofs.Making.{feet-last}
use Rattle.demo_course.specs.Course.{distance_of}
use Rattle.demo_course.specs.Draws.{place_of, rate_of}
use Rattle.demo_course.specs.Laws.{within}
use Rattle.demo_course.specs.declared.Axis.{Axis}
use Rattle.demo_course.specs.declared.Axis.TheVariants.{X, Y}
use Rattle.demo_course.proofs.Reaching.{place-within, rate-within}
use Rattle.demo_course.proofs.Squares.{distance-small}
use Rattle.demo_spec.specs.Mission.{around, beacon_name, beacon_of, bound_of, bounds_of, demo_cuts, demo_items, each_until, heard_at, heard_from, last_of, mission_of, opening, ping_of, question, rate_signal}
use Rattle.demo_spec.proofs.Lists.{each-step}
use Rattle.demo_spec.proofs.Opening.{cuts-end, cuts-grid, length-cuts, opening-told, signal_names}
use Rattle.demo_spec.proofs.Telling.{evaluation-few, IsNext, IsTold, new-name, right-last, told-last, touching-few}

-- ---- ranges, ticks and signals

around-range : (reach n : ℕ) (z : ℤ) → Holds (within n) z → n + reach ≤ 500000000 → IsRange (around reach z)
around-range reach n z h small = (omega (arith, ints), record { low = omega (arith, ints, h.low, small); high = omega (arith, ints, h.high, small) })

rate-below : (axis : Axis) → (rate_signal axis).0 < 4
rate-below X = omega arith
rate-below Y = omega arith

last-chosen : (t : Bool) (j : ℕ) → (t ≡ false → j < 19) → j < 20 → (100 * j ≤ (if t then 2000 else 100 * j + 99)) × ((if t then 2000 else 100 * j + 99) ≤ 2000)
last-chosen true j other few = (omega (arith, few), omega arith)
last-chosen false j other few = (omega arith, omega (arith, other refl))

pub last-ticks : (j : ℕ) → j < 20 → (100 * j ≤ last_of j) × (last_of j ≤ 2000)
last-ticks j few = last-chosen (j == 19) j (λ e. grind (arith, nat_tests)) few

-- the names that are declared before beacon k
abbrev pub names_until : ℕ → List (List ℕ)
names_until zero = signal_names
names_until (suc k) = names_until k ++ beacon_name k ∷ []

new-at : (k : ℕ) → k < 5 → (is_name (beacon_name k) ≡ true) × (list_any (bytes_eq (beacon_name k)) (names_until k) ≡ false)
new-at zero few = (refl, refl)
new-at (suc zero) few = (refl, refl)
new-at (suc (suc zero)) few = (refl, refl)
new-at (suc (suc (suc zero))) few = (refl, refl)
new-at (suc (suc (suc (suc zero)))) few = (refl, refl)
new-at (suc (suc (suc (suc (suc k))))) few = absurd (omega (arith, few))

two-signals : (items : List Item) → signals_in items ≡ 4 → AreSignals items (record { 0 = 0 }) (record { 0 = 1 })
two-signals items four = (omega (arith, four), omega (arith, four), λ e. cc e)

module _ (words : List ℕ) where
  -- ---- piece by piece

  bound-next : (items : List Item) (j : ℕ) (axis : Axis) → j < 20 → IsTold items 4 0 signal_names → IsNext items (bound_of words j axis)
  bound-next items j axis few told =
      let ticks = last-ticks j few in
      record {
        place = told.headed;
        right = (omega (arith, rate-below axis, told.signals_are), (ticks.0, ticks.1), around-range 1 20 (rate_of words axis j) (rate-within words axis j) (lit≤ tt));
        foot = omega arith;
        no_signal = refl;
        no_question = refl;
      }

  bound-told : (items : List Item) (j : ℕ) (axis : Axis) → j < 20 → IsTold items 4 0 signal_names → IsTold (items ++ bound_of words j axis ∷ []) 4 0 signal_names
  bound-told items j axis few told = told-last items (bound_of words j axis) 4 0 4 0 signal_names signal_names told (bound-next items j axis few told) refl refl refl

  bounds-told : (j : ℕ) (items : List Item) → j < 20 → IsTold items 4 0 signal_names → IsTold (items ++ bounds_of words j) 4 0 signal_names
  bounds-told j items few told =
      subst (λ (l : List Item). IsTold l 4 0 signal_names) (append_assoc items (bound_of words j X ∷ []) (bound_of words j Y ∷ []))
      (bound-told (items ++ bound_of words j X ∷ []) j Y few (bound-told items j X few told))

  beacon-told : (k : ℕ) (items : List Item) → k < 5 → IsTold items (4 + 2 * k) k (names_until k) → IsTold (items ++ beacon_of words k ∷ []) (4 + 2 * suc k) (suc k) (names_until (suc k))
  beacon-told k items few told =
      let new = new-at k few in
      told-last items (beacon_of words k) (4 + 2 * k) k (4 + 2 * suc k) (suc k) (names_until k) (names_until (suc k)) told
      (record {
        place = told.headed;
        right = (
          (new.0, new-name items (beacon_name k) (names_until k) told.names_are new.1),
          around-range 2 20000 (place_of words X k) (place-within words X k) (lit≤ tt),
          around-range 2 20000 (place_of words Y k) (place-within words Y k) (lit≤ tt),
        );
        foot = omega arith;
        no_signal = refl;
        no_question = refl;
      }) (omega arith) (omega arith) refl

  radii : (k i : ℕ) → k ≤ 2000 → AreRadii (pos (distance_of words k i - 3)) (pos (distance_of words k i + 4))
  radii k i early = let small = distance-small words k i early in (omega (arith, ints), omega (arith, ints), omega (arith, ints, small))

  ping-foot : (items : List Item) (i : ℕ) → foot_of demo_cuts items (ping_of words i) ≤ 2000
  ping-foot items i =
      let range = ticks_from (heard_at i - 2) (heard_at i + 2) in
      let few = touching-few demo_cuts range length-cuts in
      omega (arith, evaluation-few (is_some (rate_in items 0)) (touching demo_cuts range) few, evaluation-few (is_some (rate_in items 1)) (touching demo_cuts range) few)

  ping-told : (i : ℕ) (items : List Item) → i < 40 → IsTold items (14 + 3 * i) 5 (names_until 5) → IsTold (items ++ ping_of words i ∷ []) (14 + 3 * suc i) 5 (names_until 5)
  ping-told i items few told =
      told-last items (ping_of words i) (14 + 3 * i) 5 (14 + 3 * suc i) 5 (names_until 5) (names_until 5) told
      (record {
        place = told.headed;
        right = (
          two-signals items told.signals_are,
          (omega arith, omega (arith, few)),
          omega arith,
          omega (arith, told.beacons_are),
          radii (heard_at i) (heard_from i) (omega (arith, few)),
        );
        foot = ping-foot items i;
        no_signal = refl;
        no_question = refl;
      }) (omega arith) (omega arith) refl

  -- ---- all of them

  -- the records but the question
  abbrev pub reports : List Item
  reports = opening ++ each_until (bounds_of words) 20 ++ each_until (λ i. beacon_of words i ∷ []) 5 ++ each_until (λ i. ping_of words i ∷ []) 40

  pub reports-told : IsTold reports 134 5 (names_until 5)
  reports-told =
      let bounds = each-step (bounds_of words) (λ j items. IsTold items 4 0 signal_names) opening 20 opening-told bounds-told in
      let beacons = each-step (λ i. beacon_of words i ∷ []) (λ k items. IsTold items (4 + 2 * k) k (names_until k)) (opening ++ each_until (bounds_of words) 20) 5 bounds beacon-told in
      each-step (λ i. ping_of words i ∷ []) (λ i items. IsTold items (14 + 3 * i) 5 (names_until 5)) (opening ++ each_until (bounds_of words) 20 ++ each_until (λ i. beacon_of words i ∷ []) 5) 40 beacons ping-told

  asked : IsQuery 1 2000 reports (record { x = record { 0 = 0 }; y = record { 0 = 1 }; radius = pos 200; gap = 200; norm = Rattle.tube_names.specs.declared.queries.Norm.TheVariants.Maximum })
  asked = record {
    signals = two-signals reports reports-told.signals_are;
    radius = (omega (arith, ints), omega (arith, ints), omega (arith, ints));
    some_gap = omega arith;
    small_gap = lit≤ tt;
    norm = refl;
    few = omega (arith, reports-told.revisits_are);
    plane = lit≤ tt;
  }

  items-right : AreRight 1 2000 (demo_items words)
  unfolding demo_items
  items-right = right-last 1 2000 reports question reports-told.right reports-told.headed asked

  items-size : length (demo_items words) ≡ 95
  unfolding demo_items opening each_until
  items-size = refl

  items-head : has_head (demo_items words) ≡ true
  unfolding demo_items opening each_until
  items-head = refl

  items-signals : signals_in (demo_items words) ≡ 4
  unfolding demo_items opening each_until
  items-signals = refl

  items-variables : variables_in (demo_items words) ≡ 134
  unfolding demo_items opening each_until
  items-variables = refl

  items-feet : feet_of demo_cuts (demo_items words) ≤ 190000
  unfolding demo_items
  items-feet = omega (arith, feet-last demo_cuts reports question, reports-told.feet, length-append reports (question ∷ []), items-size)

  -- no record is a cut
  uncut : (cuts : List ℕ) → fold with_cut cuts (demo_items words) ≡ cuts
  unfolding demo_items opening each_until
  uncut cuts = refl

  uncut-boundaries : demo_cuts ≡ boundaries 2000 10 (demo_items words)
  unfolding demo_cuts
  uncut-boundaries = sym (uncut (uniform_cuts 2000 10))

  pub is-mission : IsMission (mission_of words)
  is-mission = record {
    head = items-head;
    clock = record {
      known_version = inl refl;
      some_tick = lit≤ tt;
      few_ticks = lit≤ tt;
      some_width = lit≤ tt;
      small_width = lit≤ tt;
      boundaries = uncut-boundaries;
      grid = cuts-grid;
      ends = cuts-end;
    };
    few = record {
      records = omega (arith, items-size);
      signals = omega (arith, items-signals);
      variables = omega (arith, items-variables);
      cells = subst (λ (n : ℕ). cells_of demo_cuts n (variables_in (demo_items words)) ≤ 2000000) (sym items-signals) (omega (arith, items-variables, length-cuts));
      feet = omega (arith, items-feet);
    };
    right = items-right;
  }
