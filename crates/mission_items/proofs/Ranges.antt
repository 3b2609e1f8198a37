-- Each declared range of right records is one, those of made variables included.
use Rattle.std.proofs.Common.{◌≡◌, ℕ, suc, ◌+◌, ◌<◌, ◌≤◌, List, [], ◌∷◌, ◌++◌, Option, Some, None, All, refl, sym, ap, subst, ◌∙◌, arith, length, map, pos, append_assoc, append-nil}
use Rattle.std.proofs.lemmas.Int.{ints, clamps}
use Rattle.std.proofs.lemmas.List.Elements.{All-append, All-from_recursion, All-get_or, All-nil}
use Rattle.tube_spec.specs.Span.{Span, point, join_of}
use Rattle.tube_store.specs.declared.SignalId.{SignalId}
use Rattle.mission_items.specs.Made.{beacon_made, beacon_ranges, beacons_in, hull_of, mark_made, mark_x, mark_y, ranges_from, ranges_made, signal_made, signal_range, signal_ranges, signals_in, ticks_from, variable_range, variable_ranges, variables_in}
use Rattle.mission_items.specs.Valid.{AreRight, AreRightFrom, IsMark, IsMission, IsRange, IsRight}
use Rattle.mission_items.specs.declared.item.Item.{Item}
use Rattle.mission_items.specs.declared.item.Item.TheVariants as item
use Rattle.mission_items.specs.declared.mission.Mission.{Mission}
use Rattle.mission_items.proofs.Making.{beacon_ranges-last, length-beacon_ranges, length-signal_ranges, length-variable_ranges, signal_ranges-last}

one : {X : Type 0} (P : X → Type 0) (x : X) → P x → All P (x ∷ [])
one P x h = All-from_recursion P (x ∷ []) (h, tt)

two : {X : Type 0} (P : X → Type 0) (x y : X) → P x → P y → All P (x ∷ y ∷ [])
two P x y h k = All-from_recursion P (x ∷ y ∷ []) (h, (k, tt))

-- ---- ranges of ticks and of marks

IsRange-tick : (tick : ℕ) → tick ≤ 100000 → IsRange (point (pos tick))
IsRange-tick tick small = (omega (arith, ints), record { low = omega (arith, ints, small); high = omega (arith, ints, small) })

IsRange-ticks : (first last : ℕ) → first ≤ last → last ≤ 100000 → IsRange (ticks_from first last)
IsRange-ticks first last order small = (omega (arith, ints, order), record { low = omega (arith, ints); high = omega (arith, ints, small) })

IsRange-join : (s t : Span) → IsRange s → IsRange t → IsRange (join_of s t)
IsRange-join s t p q = (
  omega (arith, ints, clamps, p.0, q.0),
  record { low = omega (arith, ints, clamps, p.1.low, q.1.low); high = omega (arith, ints, clamps, p.1.high, q.1.high) },
)

hull-range : (s : Span) (more : List Span) → All IsRange (s ∷ more) → IsRange (hull_of (s ∷ more))
hull-range s [] all = all 0 s (omega arith)
hull-range s (t ∷ more) all = IsRange-join s (hull_of (t ∷ more)) (all 0 s (omega arith)) (hull-range t more (λ k d l. all (suc k) d (omega (arith, l))))

-- both ranges of a beacon
abbrev pub AreRanges : (Span × Span) → Type 0
AreRanges b = IsRange b.0 × IsRange b.1

mark-range : (f : (Span × Span) → Span) (bs : List (Span × Span)) → ((b : Span × Span) → AreRanges b → IsRange (f b)) → 1 ≤ length bs → All AreRanges bs → IsRange (hull_of (map f bs))
mark-range f [] part some all = absurd (omega (arith, some))
mark-range f (b ∷ bs) part some all = hull-range (f b) (map f bs) (mapped f (b ∷ bs) part all) where
  mapped : (f : (Span × Span) → Span) (bs : List (Span × Span)) → ((b : Span × Span) → AreRanges b → IsRange (f b)) → All AreRanges bs → All IsRange (map f bs)
  mapped f [] part all = All-nil IsRange
  mapped f (b ∷ bs) part all = All-append IsRange (f b ∷ []) (map f bs) (one IsRange (f b) (part b (all 0 b (omega arith)))) (mapped f bs part (λ k d l. all (suc k) d (omega (arith, l))))

-- ---- what one record makes

module _ (version end : ℕ) (small : end ≤ 100000) where
  pub signal-range : (before : List Item) (r : Item) → IsRight version end before r → All IsRange (signal_made r)
  signal-range before (item.Signal name range) right = one IsRange range right.1
  signal-range before r right = All-nil IsRange

  beacon-range : (before : List Item) (r : Item) → IsRight version end before r → All AreRanges (beacon_made r)
  beacon-range before (item.Beacon name x y) right = one AreRanges (x, y) (right.1, right.2)
  beacon-range before r right = All-nil AreRanges

  at-signal : (before : List Item) (x : SignalId) → x.0 < signals_in before → All IsRange (signal_ranges before) → IsRange (signal_range before x.0)
  at-signal before x inside signals = All-get_or IsRange (signal_ranges before) x.0 (point (pos 0)) (omega (arith, inside, length-signal_ranges before)) signals

  marks-range : (before : List Item) (beacon : Option ℕ) → IsMark before beacon → All AreRanges (beacon_ranges before) → All IsRange (mark_made before beacon)
  marks-range before (Some beacon) mark beacons = All-nil IsRange
  marks-range before None mark beacons =
      let some : 1 ≤ length (beacon_ranges before) = omega (arith, mark, length-beacon_ranges before) in
      two IsRange (mark_x before) (mark_y before) (mark-range (λ b. b.0) (beacon_ranges before) (λ b h. h.0) some beacons) (mark-range (λ b. b.1) (beacon_ranges before) (λ b h. h.1) some beacons)

  pub made-ranges : (before : List Item) (r : Item) → All IsRange (signal_ranges before) → All AreRanges (beacon_ranges before) → IsRight version end before r → All IsRange (ranges_made before r)
  made-ranges before (item.Variable name range) signals beacons right = one IsRange range right.1
  made-ranges before (item.Beacon name x y) signals beacons right = two IsRange x y right.1 right.2
  made-ranges before (item.At x tick range) signals beacons right = two IsRange (point (pos tick)) range (IsRange-tick tick (omega (arith, right.1, small))) right.2
  made-ranges before (item.Ping x y first last beacon near far) signals beacons right =
      let both = right.0 in
      let ticks = right.1 in
      All-append IsRange (ticks_from first last ∷ signal_range before x.0 ∷ signal_range before y.0 ∷ []) (mark_made before beacon)
      (All-from_recursion IsRange (ticks_from first last ∷ signal_range before x.0 ∷ signal_range before y.0 ∷ [])
      (IsRange-ticks first last ticks.0 (omega (arith, ticks.1, small)), (at-signal before x both.0 signals, (at-signal before y both.1 signals, tt))))
      (marks-range before beacon right.3 beacons)
  made-ranges before r signals beacons right = All-nil IsRange

  -- what the records before have, one more has
  signals-more : (before : List Item) (r : Item) → All IsRange (signal_ranges before) → IsRight version end before r → All IsRange (signal_ranges (before ++ r ∷ []))
  signals-more before r signals right = subst (All IsRange) (sym (signal_ranges-last before r)) (All-append IsRange (signal_ranges before) (signal_made r) signals (signal-range before r right))

  beacons-more : (before : List Item) (r : Item) → All AreRanges (beacon_ranges before) → IsRight version end before r → All AreRanges (beacon_ranges (before ++ r ∷ []))
  beacons-more before r beacons right = subst (All AreRanges) (sym (beacon_ranges-last before r)) (All-append AreRanges (beacon_ranges before) (beacon_made r) beacons (beacon-range before r right))

  signals-from : (before items : List Item) → All IsRange (signal_ranges before) → AreRightFrom version end before items → All IsRange (signal_ranges (before ++ items))
  signals-from before [] signals right = subst (λ (l : List Item). All IsRange (signal_ranges l)) (sym (append-nil before)) signals
  signals-from before (r ∷ items) signals right =
      subst (λ (l : List Item). All IsRange (signal_ranges l)) (append_assoc before (r ∷ []) items) (signals-from (before ++ r ∷ []) items (signals-more before r signals right.1) right.2)

  beacons-from : (before items : List Item) → All AreRanges (beacon_ranges before) → AreRightFrom version end before items → All AreRanges (beacon_ranges (before ++ items))
  beacons-from before [] beacons right = subst (λ (l : List Item). All AreRanges (beacon_ranges l)) (sym (append-nil before)) beacons
  beacons-from before (r ∷ items) beacons right =
      subst (λ (l : List Item). All AreRanges (beacon_ranges l)) (append_assoc before (r ∷ []) items) (beacons-from (before ++ r ∷ []) items (beacons-more before r beacons right.1) right.2)

  variables-from : (before items : List Item) → All IsRange (signal_ranges before) → All AreRanges (beacon_ranges before) → AreRightFrom version end before items → All IsRange (ranges_from before items)
  variables-from before [] signals beacons right = All-nil IsRange
  variables-from before (r ∷ items) signals beacons right =
      All-append IsRange (ranges_made before r) (ranges_from (before ++ r ∷ []) items) (made-ranges before r signals beacons right.1)
      (variables-from (before ++ r ∷ []) items (signals-more before r signals right.1) (beacons-more before r beacons right.1) right.2)

  -- the declared ranges of right records
  pub signals-right : (items : List Item) → AreRight version end items → All IsRange (signal_ranges items)
  signals-right items right = signals-from [] items (All-nil IsRange) right

  pub beacons-right : (items : List Item) → AreRight version end items → All AreRanges (beacon_ranges items)
  beacons-right items right = beacons-from [] items (All-nil AreRanges) right

  pub variables-right : (items : List Item) → AreRight version end items → All IsRange (variable_ranges items)
  variables-right items right = variables-from [] items (All-nil IsRange) (All-nil AreRanges) right

-- each declared range of an accepted mission is one
pub mission-signals : (m : Mission) → IsMission m → All IsRange (signal_ranges m.items)
mission-signals m is = signals-right m.version m.ticks is.clock.few_ticks m.items is.right

pub mission-variables : (m : Mission) → IsMission m → All IsRange (variable_ranges m.items)
mission-variables m is = variables-right m.version m.ticks is.clock.few_ticks m.items is.right
