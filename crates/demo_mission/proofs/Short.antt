-- Lines of a demo mission have at most 200 bytes.
use Rattle.std.proofs.Common.{◌≡◌, ℕ, zero, suc, ◌+◌, ◌-◌, ◌*◌, ◌^◌, ◌<◌, ◌≤◌, ◌==◌, Bool, true, false, if◌then◌else◌, List, [], ◌∷◌, ◌++◌, Some, refl, sym, ap, subst, ◌∙◌, arith, length, length-append, flat_map, append_assoc, lit≤, ℤ, pos, negsuc}
use Rattle.std.specs.Prelude.{slice_index_or}
use Rattle.std.specs.Fmt.{signed_decimal}
use Rattle.std.proofs.lemmas.Int.{ints}
use Rattle.std.proofs.lemmas.Fmt.{length_signed_le}
use Rattle.std.proofs.lemmas.List.Concat.{flat_map-append}
use Rattle.tube_spec.specs.Span.{Holds, Span}
use Rattle.csv_rows.specs.Lines.{line, others}
use Rattle.mission_items.specs.declared.item.Item.{Item}
use Rattle.mission_items.specs.declared.item.Item.TheVariants as item
use Rattle.mission_items.specs.declared.mission.Mission.{Mission}
use Rattle.log_text.specs.NameTexts.{NameTexts, texts_of}
use Rattle.log_text.specs.Records.{record_with}
use Rattle.log_text.specs.Written.{quoted}
use Rattle.log_text.specs.Texts.{item_line, log_text}
use Rattle.demo_course.specs.Course.{distance_of}
use Rattle.demo_course.specs.Draws.{place_of, rate_of}
use Rattle.demo_course.specs.Laws.{within}
use Rattle.demo_course.specs.declared.Axis.{Axis}
use Rattle.demo_course.specs.declared.Axis.TheVariants.{X, Y}
use Rattle.demo_course.proofs.Reaching.{place-within, rate-within}
use Rattle.demo_course.proofs.Squares.{distance-small}
use Rattle.demo_spec.specs.Mission.{around, beacon_of, bound_of, bounds_of, demo_items, each_until, heard_at, heard_from, last_of, mission_of, motions, opening, ping_of, position_signal, question, rate_signal, signals, start_of}
use Rattle.demo_spec.proofs.Lists.{each-step}
use Rattle.demo_spec.proofs.Told.{last-ticks}

-- ---- lines of short fields

abbrev AllShort : List (List ℕ) → Type 0
AllShort [] = Unit {0}
AllShort (f ∷ fs) = (length f ≤ 20) × AllShort fs

others-short : (fs : List (List ℕ)) → AllShort fs → length (others fs) ≤ 21 * length fs
others-short [] h = omega arith
others-short (f ∷ fs) h = omega (arith, length-append f (others fs), h.0, others-short fs h.1)

line-short : (r : List (List ℕ)) → AllShort r → length (line r) ≤ 21 + 21 * length r
line-short [] h = omega arith
line-short (f ∷ fs) h = omega (arith, length-append f (others fs ++ 10 ∷ []), length-append (others fs) (10 ∷ []), h.0, others-short fs h.1)

-- ---- numbers

number-short : (z : ℤ) → Holds (within 1000000) z → length (signed_decimal z) ≤ 20
number-short (pos n) h = length_signed_le 19 (pos n) (omega (arith, ints, h.low, h.high)) (omega (arith, ints, h.low, h.high))
number-short (negsuc n) h = length_signed_le 19 (negsuc n) (omega (arith, ints, h.low, h.high)) (omega (arith, ints, h.low, h.high))

count-short : (n : ℕ) → n ≤ 1000000 → length (signed_decimal (pos n)) ≤ 20
count-short n small = number-short (pos n) (record { low = omega (arith, ints); high = omega (arith, ints, small) })

low-short : (reach n : ℕ) (z : ℤ) → Holds (within n) z → n + reach ≤ 1000000 → length (signed_decimal (around reach z).lo) ≤ 20
low-short reach n z h small = number-short (around reach z).lo (record { low = omega (arith, ints, h.low, small); high = omega (arith, ints, h.high, small) })

high-short : (reach n : ℕ) (z : ℤ) → Holds (within n) z → n + reach ≤ 1000000 → length (signed_decimal (around reach z).hi) ≤ 20
high-short reach n z h small = number-short (around reach z).hi (record { low = omega (arith, ints, h.low, small); high = omega (arith, ints, h.high, small) })

abbrev four_names : List (List ℕ)
four_names = (120 ∷ []) ∷ (121 ∷ []) ∷ (117 ∷ []) ∷ (118 ∷ []) ∷ []

abbrev five_names : List (List ℕ)
five_names = (98 ∷ 48 ∷ []) ∷ (98 ∷ 49 ∷ []) ∷ (98 ∷ 50 ∷ []) ∷ (98 ∷ 51 ∷ []) ∷ (98 ∷ 52 ∷ []) ∷ []

module _ (words : List ℕ) where
  abbrev m : Mission
  m = mission_of words

  abbrev names : NameTexts
  names = texts_of (demo_items words)

  signals-are : names.signals ≡ four_names
  unfolding demo_items opening each_until
  signals-are = refl

  beacons-are : names.beacons ≡ five_names
  unfolding demo_items opening each_until
  beacons-are = refl

  four-short : (n : ℕ) → length (slice_index_or four_names n []) ≤ 20
  four-short zero = omega arith
  four-short (suc zero) = omega arith
  four-short (suc (suc zero)) = omega arith
  four-short (suc (suc (suc zero))) = omega arith
  four-short (suc (suc (suc (suc n)))) = omega arith

  five-short : (n : ℕ) → length (slice_index_or five_names n []) ≤ 20
  five-short zero = omega arith
  five-short (suc zero) = omega arith
  five-short (suc (suc zero)) = omega arith
  five-short (suc (suc (suc zero))) = omega arith
  five-short (suc (suc (suc (suc zero)))) = omega arith
  five-short (suc (suc (suc (suc (suc n))))) = omega arith

  signal-short : (n : ℕ) → length (slice_index_or names.signals n []) ≤ 20
  signal-short n = subst (λ (l : List (List ℕ)). length (slice_index_or l n []) ≤ 20) (sym signals-are) (four-short n)

  beacon-short : (n : ℕ) → length (slice_index_or names.beacons n []) ≤ 20
  beacon-short n = subst (λ (l : List (List ℕ)). length (slice_index_or l n []) ≤ 20) (sym beacons-are) (five-short n)

  -- ---- records

  item-short : (i : Item) → AllShort (record_with quoted names m i) → length (record_with quoted names m i) ≤ 8 → length (item_line names m i) ≤ 200
  item-short i h few = omega (arith, line-short (record_with quoted names m i) h, few)

  bound-short : (j : ℕ) (axis : Axis) → j < 20 → length (item_line names m (bound_of words j axis)) ≤ 200
  bound-short j axis few =
      let ticks = last-ticks j few in
      item-short (bound_of words j axis) (
        lit≤ tt,
        (
          signal-short (rate_signal axis).0,
          (
            count-short (100 * j) (omega (arith, few)),
            (
              count-short (last_of j) (omega (arith, ticks.1)),
              (low-short 1 20 (rate_of words axis j) (rate-within words axis j) (lit≤ tt), (high-short 1 20 (rate_of words axis j) (rate-within words axis j) (lit≤ tt), tt)),
            ),
          ),
        ),
      ) (omega arith)

  beacon_line-short : (i : ℕ) → length (item_line names m (beacon_of words i)) ≤ 200
  beacon_line-short i =
      item-short (beacon_of words i) (
        lit≤ tt,
        (
          lit≤ tt,
          (
            low-short 2 20000 (place_of words X i) (place-within words X i) (lit≤ tt),
            (
              high-short 2 20000 (place_of words X i) (place-within words X i) (lit≤ tt),
              (low-short 2 20000 (place_of words Y i) (place-within words Y i) (lit≤ tt), (high-short 2 20000 (place_of words Y i) (place-within words Y i) (lit≤ tt), tt)),
            ),
          ),
        ),
      ) (omega arith)

  ping-short : (i : ℕ) → i < 40 → length (item_line names m (ping_of words i)) ≤ 200
  ping-short i few =
      let r = distance-small words (heard_at i) (heard_from i) (omega (arith, few)) in
      item-short (ping_of words i) (
        lit≤ tt,
        (
          signal-short 0,
          (
            signal-short 1,
            (
              count-short (heard_at i - 2) (omega (arith, few)),
              (
                count-short (heard_at i + 2) (omega (arith, few)),
                (beacon-short (heard_from i), (count-short (distance_of words (heard_at i) (heard_from i) - 3) (omega (arith, r)), (count-short (distance_of words (heard_at i) (heard_from i) + 4) (omega (arith, r)), tt))),
              ),
            ),
          ),
        ),
      ) (omega arith)

  -- ---- all of them

  short-more : (items more : List Item) → length (flat_map (item_line names m) items) ≤ 200 * length items → length (flat_map (item_line names m) more) ≤ 200 * length more
      → length (flat_map (item_line names m) (items ++ more)) ≤ 200 * length (items ++ more)
  short-more items more h k =
      omega (arith, ap length (flat_map-append (item_line names m) items more), length-append (flat_map (item_line names m) items) (flat_map (item_line names m) more), length-append items more, h, k)

  one-short : (i : Item) → length (item_line names m i) ≤ 200 → length (flat_map (item_line names m) (i ∷ [])) ≤ 200 * length (i ∷ [])
  one-short i h = omega (arith, h, length-append (item_line names m i) [])

  two-short : (i j : Item) → length (item_line names m i) ≤ 200 → length (item_line names m j) ≤ 200 → length (flat_map (item_line names m) (i ∷ j ∷ [])) ≤ 200 * length (i ∷ j ∷ [])
  two-short i j h k = short-more (i ∷ []) (j ∷ []) (one-short i h) (one-short j k)

  declared-short : (name : List ℕ) (n : ℕ) → length name ≤ 20 → n ≤ 1000000 → length (item_line names m (item.Signal name (within n))) ≤ 200
  declared-short name n h small =
      item-short (item.Signal name (within n)) (lit≤ tt, (h, (number-short (within n).lo (record { low = omega (arith, ints, small); high = omega (arith, ints) }), (count-short n small, tt)))) (omega arith)

  start-short : (axis : Axis) → length (item_line names m (start_of axis)) ≤ 200
  start-short axis = item-short (start_of axis) (lit≤ tt, (signal-short (position_signal axis).0, (count-short 0 (lit≤ tt), (count-short 0 (lit≤ tt), (count-short 0 (lit≤ tt), tt))))) (omega arith)

  abbrev motion_of : Axis → Item
  motion_of axis = item.Deriv (position_signal axis) (rate_signal axis)

  motion-short : (axis : Axis) → length (item_line names m (motion_of axis)) ≤ 200
  motion-short axis = item-short (motion_of axis) (lit≤ tt, (signal-short (position_signal axis).0, (signal-short (rate_signal axis).0, tt))) (omega arith)

  head-short : length (item_line names m item.Head) ≤ 200
  head-short = item-short item.Head (lit≤ tt, (count-short 1 (lit≤ tt), (count-short 2000 (lit≤ tt), (count-short 10 (lit≤ tt), tt)))) (omega arith)

  question-short : length (item_line names m question) ≤ 200
  question-short = item-short question (lit≤ tt, (signal-short 0, (signal-short 1, (count-short 200 (lit≤ tt), (count-short 200 (lit≤ tt), tt))))) (omega arith)

  abbrev signal_of : ℕ → ℕ → Item
  signal_of c n = item.Signal (c ∷ []) (within n)

  signals-short : length (flat_map (item_line names m) signals) ≤ 200 * length signals
  signals-short =
      short-more (signal_of 120 50000 ∷ signal_of 121 50000 ∷ []) (signal_of 117 25 ∷ signal_of 118 25 ∷ [])
      (two-short (signal_of 120 50000) (signal_of 121 50000) (declared-short (120 ∷ []) 50000 (lit≤ tt) (lit≤ tt)) (declared-short (121 ∷ []) 50000 (lit≤ tt) (lit≤ tt)))
      (two-short (signal_of 117 25) (signal_of 118 25) (declared-short (117 ∷ []) 25 (lit≤ tt) (lit≤ tt)) (declared-short (118 ∷ []) 25 (lit≤ tt) (lit≤ tt)))

  motions-short : length (flat_map (item_line names m) motions) ≤ 200 * length motions
  motions-short =
      short-more (motion_of X ∷ motion_of Y ∷ []) (start_of X ∷ start_of Y ∷ [])
      (two-short (motion_of X) (motion_of Y) (motion-short X) (motion-short Y))
      (two-short (start_of X) (start_of Y) (start-short X) (start-short Y))

  opening-short : length (flat_map (item_line names m) opening) ≤ 200 * length opening
  unfolding opening
  opening-short = short-more (item.Head ∷ []) (signals ++ motions) (one-short item.Head head-short) (short-more signals motions signals-short motions-short)

  pub all-short : length (flat_map (item_line names m) (demo_items words)) ≤ 200 * length (demo_items words)
  unfolding demo_items
  all-short =
      let bounds = each-step (bounds_of words) (λ j items. length (flat_map (item_line names m) items) ≤ 200 * length items) opening 20 opening-short
      (λ j items few h. short-more items (bounds_of words j) h (two-short (bound_of words j X) (bound_of words j Y) (bound-short j X few) (bound-short j Y few))) in
      let beacons = each-step (λ i. beacon_of words i ∷ []) (λ i items. length (flat_map (item_line names m) items) ≤ 200 * length items) (opening ++ each_until (bounds_of words) 20) 5 bounds
      (λ i items few h. short-more items (beacon_of words i ∷ []) h (one-short (beacon_of words i) (beacon_line-short i))) in
      let pings = each-step (λ i. ping_of words i ∷ []) (λ i items. length (flat_map (item_line names m) items) ≤ 200 * length items) (opening ++ each_until (bounds_of words) 20 ++ each_until (λ i. beacon_of words i ∷ []) 5) 40 beacons
      (λ i items few h. short-more items (ping_of words i ∷ []) h (one-short (ping_of words i) (ping-short i few))) in
      short-more (opening ++ each_until (bounds_of words) 20 ++ each_until (λ i. beacon_of words i ∷ []) 5 ++ each_until (λ i. ping_of words i ∷ []) 40) (question ∷ []) pings (one-short question question-short)

  items-size : length (demo_items words) ≡ 95
  unfolding demo_items opening each_until
  items-size = refl

  pub log-short : length (log_text (mission_of words)) ≤ 20000
  log-short = omega (arith, all-short, items-size)
