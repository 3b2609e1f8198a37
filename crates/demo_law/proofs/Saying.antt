-- What each record of a demo mission says of the true assignment.
use Rattle.std.proofs.Common.{◌≡◌, ℕ, zero, suc, ◌+◌, ◌-◌, ◌*◌, ◌/◌, ◌%◌, ◌==◌, ◌<◌, ◌≤◌, min, Bool, true, false, if◌then◌else◌, List, [], ◌∷◌, ◌++◌, Some, refl, sym, ap, ap₂, subst, ◌∙◌, arith, length, ℤ, pos, neg_ℤ, ◌+ℤ◌, ◌-ℤ◌, ◌*ℤ◌}
use Rattle.std.specs.Prelude.{slice_index_or}
use Rattle.std.proofs.lemmas.Int.{ints}
use Rattle.std.proofs.lemmas.Bool.Decides.{nat_tests}
use Rattle.std.proofs.lemmas.Nat.{mul-le}
use Rattle.tube_spec.specs.Span.{Holds, Span, natural, point}
use Rattle.tube_spec.specs.Assignment.{number_of, value_at}
use Rattle.ctc_dist.specs.Distances.{IsAtDistance, squares_from}
use Rattle.mission_items.specs.Made.{signal_range, signal_ranges, ticks_from, variables_in}
use Rattle.mission_items.specs.declared.item.Item.{Item}
use Rattle.mission_items.specs.declared.item.Item.TheVariants as item
use Rattle.mission_net.specs.Records.{IsValueAt, marks_in, point_at, Says, target_of}
use Rattle.demo_course.specs.Course.{difference, distance_of, position_at, rate_at, squared_distance, stretch_of}
use Rattle.demo_course.specs.Draws.{place_of, rate_of}
use Rattle.demo_course.specs.Laws.{within}
use Rattle.demo_course.specs.declared.Axis.{Axis}
use Rattle.demo_course.specs.declared.Axis.TheVariants.{X, Y}
use Rattle.demo_course.proofs.Reaching.{moved, place-within, position-within, rate-within}
use Rattle.demo_course.proofs.Squares.{distances}
use Rattle.demo_spec.specs.Mission.{around, beacon_of, bound_of, each_until, heard_at, heard_from, last_of, ping_of, position_signal, rate_signal, start_of}
use Rattle.demo_law.specs.Truth.{truth}
use Rattle.demo_law.proofs.Lookups.{first-number, ping-time, ping-x, ping-y, position-value, rate-value, x-place, y-place}

-- ---- numbers in ranges

pub holds-same : (s : Span) (p q : ℤ) → p ≡ q → Holds s q → Holds s p
holds-same s p q e h = subst (Holds s) (sym e) h

holds-around : (reach : ℕ) (z : ℤ) → Holds (around reach z) z
holds-around reach z = record { low = omega (arith, ints); high = omega (arith, ints) }

holds-wider : (m n : ℕ) (z : ℤ) → m ≤ n → Holds (within m) z → Holds (within n) z
holds-wider m n z order h = record { low = omega (arith, ints, h.low, order); high = omega (arith, ints, h.high, order) }

pub holds-point : (z : ℤ) → Holds (point z) z
holds-point z = record { low = omega (arith, ints); high = omega (arith, ints) }

-- the ticks of a stretch
stretch-chosen : (t : Bool) (j k : ℕ) → (t ≡ true → j ≡ 19) → j < 20 → 100 * j ≤ k → k ≤ (if t then 2000 else 100 * j + 99) → stretch_of k ≡ j
stretch-chosen true j k last few low high = omega (arith, last refl, low, high)
stretch-chosen false j k last few low high = omega (arith, few, low, high)

stretch-is : (j k : ℕ) → j < 20 → 100 * j ≤ k → k ≤ last_of j → stretch_of k ≡ j
stretch-is j k few low high = stretch-chosen (j == 19) j k (λ e. grind (arith, nat_tests)) few low high

-- the points of the first n beacons
abbrev pub points : ℕ → List (List ℕ)
points n = each_until (λ i. point_at (4 + 2 * i) ∷ []) n

point-chosen : (b : ℕ) → b < 5 → slice_index_or (points 5) b [] ≡ point_at (4 + 2 * b)
unfolding each_until
point-chosen zero few = refl
point-chosen (suc zero) few = refl
point-chosen (suc (suc zero)) few = refl
point-chosen (suc (suc (suc zero))) few = refl
point-chosen (suc (suc (suc (suc zero)))) few = refl
point-chosen (suc (suc (suc (suc (suc b))))) few = absurd (omega (arith, few))

module _ (words : List ℕ) where
  -- ---- signals, rates, beginnings

  pub position-near : (axis : Axis) (k : ℕ) → k ≤ 2000 → Holds (within 50000) (value_at (truth words) (position_signal axis).0 k)
  position-near axis k early =
      holds-same (within 50000) _ _ (position-value words axis k early) (holds-wider (20 * k) 50000 (position_at words axis k) (omega (arith, early)) (position-within words axis k))

  pub rate-near : (axis : Axis) (k : ℕ) → k ≤ 2000 → Holds (within 25) (value_at (truth words) (rate_signal axis).0 k)
  rate-near axis k early = holds-same (within 25) _ _ (rate-value words axis k early) (holds-wider 20 25 (rate_at words axis k) (omega arith) (rate-within words axis (stretch_of k)))

  pub position-moves : (axis : Axis) (k : ℕ) → k < 2000
      → value_at (truth words) (position_signal axis).0 (k + 1) ≡ value_at (truth words) (position_signal axis).0 k +ℤ value_at (truth words) (rate_signal axis).0 k
  position-moves axis k early =
      position-value words axis (k + 1) (omega (arith, early)) ∙ (moved words).moves axis k
      ∙ sym (ap₂ ◌+ℤ◌ (position-value words axis k (omega (arith, early))) (rate-value words axis k (omega (arith, early))))

  pub begins-at : (axis : Axis) → value_at (truth words) (position_signal axis).0 0 ≡ pos 0
  begins-at axis = position-value words axis 0 (omega arith) ∙ (moved words).begins axis

  -- ---- measurements

  pub bound-says : (before : List Item) (j : ℕ) (axis : Axis) → j < 20 → Says 2000 (truth words) before (bound_of words j axis)
  bound-says before j axis few = record {
    made = tt;
    means = λ k low high.
        let early : k ≤ 2000 = omega (arith, few, high, last-early j few) in
        holds-same (around 1 (rate_of words axis j)) _ _ (rate-value words axis k early ∙ ap (rate_of words axis) (stretch-is j k few low high)) (holds-around 1 (rate_of words axis j));
  }
    where
      last-early : (j : ℕ) → j < 20 → last_of j ≤ 2000
      last-early j few = last-chosen (j == 19) j (λ e. grind (arith, nat_tests)) few
        where
          last-chosen : (t : Bool) (j : ℕ) → (t ≡ false → j < 19) → j < 20 → (if t then 2000 else 100 * j + 99) ≤ 2000
          last-chosen true j other few = omega arith
          last-chosen false j other few = omega (arith, other refl)

  pub beacon-says : (before : List Item) (i : ℕ) → i < 5 → variables_in before ≡ 4 + 2 * i → Says 2000 (truth words) before (beacon_of words i)
  beacon-says before i few v = record {
    made = (
      holds-same (around 2 (place_of words X i)) _ _ (x-place words i (variables_in before) few v) (holds-around 2 (place_of words X i)),
      (holds-same (around 2 (place_of words Y i)) _ _ (y-place words i (variables_in before + 1) few (omega (arith, v))) (holds-around 2 (place_of words Y i)), tt),
    );
    means = tt;
  }

  -- the distance of a ping, with the numbers that the variables have
  squares-is : (k i : ℕ) (px py bx by : ℤ) → px ≡ position_at words X k → py ≡ position_at words Y k → bx ≡ place_of words X i → by ≡ place_of words Y i
      → pos 0 +ℤ ((px -ℤ bx) *ℤ (px -ℤ bx)) +ℤ ((py -ℤ by) *ℤ (py -ℤ by)) ≡ squared_distance words k i
  squares-is k i px py bx by e f g h =
      let across : px -ℤ bx ≡ difference words X k i = ap₂ ◌-ℤ◌ e g in
      let along : py -ℤ by ≡ difference words Y k i = ap₂ ◌-ℤ◌ f h in
      ap₂ (λ (a b : ℤ). pos 0 +ℤ (a *ℤ a) +ℤ (b *ℤ b)) across along ∙ from-zero (difference words X k i *ℤ difference words X k i) (difference words Y k i *ℤ difference words Y k i)
    where
      from-zero : (a b : ℤ) → pos 0 +ℤ a +ℤ b ≡ a +ℤ b
      from-zero a b = omega (arith, ints)

  ring : (r : ℕ) (d : ℤ) → Holds (record { lo = pos (r * r); hi = pos ((r + 1) * (r + 1)) }) d → Holds (squares_from (pos (r - 3)) (pos (r + 4))) d
  ring r d h =
      let low = mul-le (r - 3) (r - 3) r r (omega arith) (omega arith) in
      let high = mul-le (r + 1) (r + 1) (r + 4) (r + 4) (omega arith) (omega arith) in
      record { low = omega (arith, ints, h.low, low); high = omega (arith, ints, h.high, high) }

  -- what is known of the records before ping i
  pub record IsBeforePing (before : List Item) (i : ℕ) : Type 0 where
    pub number : i < 40
    pub variables_are : variables_in before ≡ 14 + 3 * i
    pub ranges_are : signal_ranges before ≡ within 50000 ∷ within 50000 ∷ within 25 ∷ within 25 ∷ []
    pub marks_are : marks_in before ≡ points 5

  module _ (before : List Item) (i : ℕ) (known : IsBeforePing before i) where
    tick-early : heard_at i ≤ 2000
    tick-early = omega (arith, known.number)

    time : number_of (truth words) (variables_in before) ≡ pos (heard_at i)
    time = ping-time words i (variables_in before) known.number known.variables_are

    across : number_of (truth words) (variables_in before + 1) ≡ position_at words X (heard_at i)
    across = ping-x words i (variables_in before + 1) known.number (omega (arith, known.variables_are))

    along : number_of (truth words) (variables_in before + 2) ≡ position_at words Y (heard_at i)
    along = ping-y words i (variables_in before + 2) known.number (omega (arith, known.variables_are))

    along-next : number_of (truth words) (variables_in before + 1 + 1) ≡ position_at words Y (heard_at i)
    along-next = ping-y words i (variables_in before + 1 + 1) known.number (omega (arith, known.variables_are))

    beacon-few : heard_from i < 5
    beacon-few = omega arith

    target-is : target_of before (Some (heard_from i)) ≡ point_at (4 + 2 * heard_from i)
    target-is = ap (λ (l : List (List ℕ)). slice_index_or l (heard_from i) []) known.marks_are ∙ point-chosen (heard_from i) beacon-few

    at-distance : IsAtDistance (truth words) (point_at (variables_in before + 1)) (target_of before (Some (heard_from i))) (pos (distance_of words (heard_at i) (heard_from i) - 3)) (pos (distance_of words (heard_at i) (heard_from i) + 4))
    at-distance =
        subst (λ (t : List ℕ). IsAtDistance (truth words) (point_at (variables_in before + 1)) t (pos (distance_of words (heard_at i) (heard_from i) - 3)) (pos (distance_of words (heard_at i) (heard_from i) + 4))) (sym target-is)
        (holds-same (squares_from (pos (distance_of words (heard_at i) (heard_from i) - 3)) (pos (distance_of words (heard_at i) (heard_from i) + 4))) _ _
        (squares-is (heard_at i) (heard_from i) _ _ _ _ across along-next (x-place words (heard_from i) (4 + 2 * heard_from i) beacon-few refl) (y-place words (heard_from i) (4 + 2 * heard_from i + 1) beacon-few refl))
        (ring (distance_of words (heard_at i) (heard_from i)) (squared_distance words (heard_at i) (heard_from i)) (distances words (heard_at i) (heard_from i))))

    in-range : (axis : Axis) (v : ℕ) → number_of (truth words) v ≡ position_at words axis (heard_at i) → Holds (within 50000) (number_of (truth words) v)
    in-range axis v e = holds-same (within 50000) _ _ e (holds-wider (20 * heard_at i) 50000 (position_at words axis (heard_at i)) (omega (arith, known.number)) (position-within words axis (heard_at i)))

    ticks-hold : Holds (ticks_from (heard_at i - 2) (heard_at i + 2)) (number_of (truth words) (variables_in before))
    ticks-hold = holds-same (ticks_from (heard_at i - 2) (heard_at i + 2)) _ _ time (record { low = omega (arith, ints); high = omega (arith, ints) })

    range-is : (x : ℕ) → x < 2 → signal_range before x ≡ within 50000
    range-is zero few = ap (λ (l : List Span). slice_index_or l 0 (point (pos 0))) known.ranges_are
    range-is (suc zero) few = ap (λ (l : List Span). slice_index_or l 1 (point (pos 0))) known.ranges_are
    range-is (suc (suc x)) few = absurd (omega (arith, few))

    valued : (axis : Axis) (z : ℕ) → number_of (truth words) z ≡ position_at words axis (heard_at i) → IsValueAt 2000 (truth words) (position_signal axis).0 (variables_in before) z
    valued axis z e = record { tick = heard_at i; time = time; on_clock = tick-early; value = e ∙ sym (position-value words axis (heard_at i) tick-early) }

    pub ping-says : Says 2000 (truth words) before (ping_of words i)
    ping-says = record {
      made = (
        ticks-hold,
        (
          subst (λ (s : Span). Holds s (number_of (truth words) (variables_in before + 1))) (sym (range-is 0 (omega arith))) (in-range X (variables_in before + 1) across),
          (subst (λ (s : Span). Holds s (number_of (truth words) (variables_in before + 1 + 1))) (sym (range-is 1 (omega arith))) (in-range Y (variables_in before + 1 + 1) along-next), tt),
        ),
      );
      means = (valued X (variables_in before + 1) across, valued Y (variables_in before + 2) along, at-distance, tt);
    }
