-- How many signals, variables and beacons records make, and what one more record adds.
use Rattle.std.proofs.Common.{◌≡◌, ℕ, ◌+◌, ◌<◌, ◌≤◌, ◌==◌, true, false, cond, List, [], ◌∷◌, ◌++◌, Option, Some, None, refl, sym, ap, ap₂, ◌∙◌, arith, length, flat_map, length-append, append-nil, append_assoc}
use Rattle.std.proofs.lemmas.List.Sums.{sum_by-append, sum_by-cons, sum_by_push}
use Rattle.std.proofs.lemmas.List.Concat.{flat_map-append, flat_map-cons}
use Rattle.tube_spec.specs.Span.{Span}
use Rattle.mission_items.specs.Made.{beacon_made, beacon_ranges, beacons_in, beacons_made, ranges_from, ranges_made, rate_in, signal_made, signal_ranges, signals_in, signals_made, variable_ranges, variables_in, variables_made}
use Rattle.mission_items.specs.Names.{declared, declared_from, names_of}
use Rattle.mission_items.specs.Room.{feet_from, feet_of, foot_of}
use Rattle.mission_items.specs.declared.decl.Decl.{Decl}
use Rattle.mission_items.specs.declared.item.Item.{Item}
use Rattle.mission_items.specs.declared.item.Item.TheVariants as item

-- ---- counts of one more record

pub signals-last : (items : List Item) (r : Item) → signals_in (items ++ r ∷ []) ≡ signals_in items + signals_made r
signals-last items r = sum_by_push signals_made items r

pub variables-last : (items : List Item) (r : Item) → variables_in (items ++ r ∷ []) ≡ variables_in items + variables_made r
variables-last items r = sum_by_push variables_made items r

pub beacons-last : (items : List Item) (r : Item) → beacons_in (items ++ r ∷ []) ≡ beacons_in items + beacons_made r
beacons-last items r = sum_by_push beacons_made items r

-- counts of further records
pub signals-append : (xs ys : List Item) → signals_in (xs ++ ys) ≡ signals_in xs + signals_in ys
signals-append xs ys = sum_by-append signals_made xs ys

pub variables-append : (xs ys : List Item) → variables_in (xs ++ ys) ≡ variables_in xs + variables_in ys
variables-append xs ys = sum_by-append variables_made xs ys

pub beacons-append : (xs ys : List Item) → beacons_in (xs ++ ys) ≡ beacons_in xs + beacons_in ys
beacons-append xs ys = sum_by-append beacons_made xs ys

-- ---- as many ranges as signals, variables and beacons

pub length-signal_made : (r : Item) → length (signal_made r) ≡ signals_made r
length-signal_made (item.Signal name range) = refl
length-signal_made r = refl

pub length-signal_ranges : (items : List Item) → length (signal_ranges items) ≡ signals_in items
length-signal_ranges [] = refl
length-signal_ranges (r ∷ items) =
    length-append (signal_made r) (signal_ranges items) ∙ ap₂ (λ (a b : ℕ). a + b) (length-signal_made r) (length-signal_ranges items) ∙ sym (sum_by-cons signals_made r items)

length-beacon_made : (r : Item) → length (beacon_made r) ≡ beacons_made r
length-beacon_made (item.Beacon name x y) = refl
length-beacon_made r = refl

pub length-beacon_ranges : (items : List Item) → length (beacon_ranges items) ≡ beacons_in items
length-beacon_ranges [] = refl
length-beacon_ranges (r ∷ items) =
    length-append (beacon_made r) (beacon_ranges items) ∙ ap₂ (λ (a b : ℕ). a + b) (length-beacon_made r) (length-beacon_ranges items) ∙ sym (sum_by-cons beacons_made r items)

pub length-ranges_made : (before : List Item) (r : Item) → length (ranges_made before r) ≡ variables_made r
length-ranges_made before (item.Variable name range) = refl
length-ranges_made before (item.Beacon name x y) = refl
length-ranges_made before (item.At x tick range) = refl
length-ranges_made before (item.Ping x y first last (Some beacon) near far) = refl
length-ranges_made before (item.Ping x y first last None near far) = refl
length-ranges_made before r = refl

pub length-ranges_from : (before items : List Item) → length (ranges_from before items) ≡ variables_in items
length-ranges_from before [] = refl
length-ranges_from before (r ∷ items) =
    length-append (ranges_made before r) (ranges_from (before ++ r ∷ []) items)
    ∙ ap₂ (λ (a b : ℕ). a + b) (length-ranges_made before r) (length-ranges_from (before ++ r ∷ []) items) ∙ sym (sum_by-cons variables_made r items)

pub length-variable_ranges : (items : List Item) → length (variable_ranges items) ≡ variables_in items
length-variable_ranges items = length-ranges_from [] items

-- ---- ranges and names of further records

pub signal_ranges-append : (xs ys : List Item) → signal_ranges (xs ++ ys) ≡ signal_ranges xs ++ signal_ranges ys
signal_ranges-append xs ys = flat_map-append signal_made xs ys

pub beacon_ranges-append : (xs ys : List Item) → beacon_ranges (xs ++ ys) ≡ beacon_ranges xs ++ beacon_ranges ys
beacon_ranges-append xs ys = flat_map-append beacon_made xs ys

pub ranges_from-append : (before xs ys : List Item) → ranges_from before (xs ++ ys) ≡ ranges_from before xs ++ ranges_from (before ++ xs) ys
ranges_from-append before [] ys = ap (λ (b : List Item). ranges_from b ys) (sym (append-nil before))
ranges_from-append before (r ∷ xs) ys =
    ap (λ (l : List Span). ranges_made before r ++ l) (ranges_from-append (before ++ r ∷ []) xs ys ∙ ap (λ (b : List Item). ranges_from (before ++ r ∷ []) xs ++ ranges_from b ys) (append_assoc before (r ∷ []) xs))
    ∙ sym (append_assoc (ranges_made before r) (ranges_from (before ++ r ∷ []) xs) (ranges_from (before ++ r ∷ xs) ys))

pub variable_ranges-append : (xs ys : List Item) → variable_ranges (xs ++ ys) ≡ variable_ranges xs ++ ranges_from xs ys
variable_ranges-append xs ys = ranges_from-append [] xs ys

pub declared_from-append : (before xs ys : List Item) → declared_from before (xs ++ ys) ≡ declared_from before xs ++ declared_from (before ++ xs) ys
declared_from-append before [] ys = ap (λ (b : List Item). declared_from b ys) (sym (append-nil before))
declared_from-append before (r ∷ xs) ys =
    ap (λ (l : List (List ℕ × Decl)). names_of before r ++ l) (declared_from-append (before ++ r ∷ []) xs ys ∙ ap (λ (b : List Item). declared_from (before ++ r ∷ []) xs ++ declared_from b ys) (append_assoc before (r ∷ []) xs))
    ∙ sym (append_assoc (names_of before r) (declared_from (before ++ r ∷ []) xs) (declared_from (before ++ r ∷ xs) ys))

-- one more record

pub signal_ranges-last : (items : List Item) (r : Item) → signal_ranges (items ++ r ∷ []) ≡ signal_ranges items ++ signal_made r
signal_ranges-last items r = signal_ranges-append items (r ∷ []) ∙ ap (λ (l : List Span). signal_ranges items ++ l) (append-nil (signal_made r))

pub beacon_ranges-last : (items : List Item) (r : Item) → beacon_ranges (items ++ r ∷ []) ≡ beacon_ranges items ++ beacon_made r
beacon_ranges-last items r = beacon_ranges-append items (r ∷ []) ∙ ap (λ (l : List (Span × Span)). beacon_ranges items ++ l) (append-nil (beacon_made r))

pub variable_ranges-last : (items : List Item) (r : Item) → variable_ranges (items ++ r ∷ []) ≡ variable_ranges items ++ ranges_made items r
variable_ranges-last items r = variable_ranges-append items (r ∷ []) ∙ ap (λ (l : List Span). variable_ranges items ++ l) (append-nil (ranges_made items r))

pub declared-last : (items : List Item) (r : Item) → declared (items ++ r ∷ []) ≡ declared items ++ names_of items r
declared-last items r = declared_from-append [] items (r ∷ []) ∙ ap (λ (l : List (List ℕ × Decl)). declared items ++ l) (append-nil (names_of items r))

-- ---- the feet of one more record

feet_from-append : (cuts : List ℕ) (before xs ys : List Item) → feet_from cuts before (xs ++ ys) ≡ feet_from cuts before xs + feet_from cuts (before ++ xs) ys
feet_from-append cuts before [] ys = ap (λ (b : List Item). feet_from cuts b ys) (sym (append-nil before)) ∙ omega arith
feet_from-append cuts before (r ∷ xs) ys =
    let more = feet_from-append cuts (before ++ r ∷ []) xs ys in
    let same = ap (λ (b : List Item). feet_from cuts b ys) (append_assoc before (r ∷ []) xs) in
    omega (arith, more, same)

pub feet-last : (cuts : List ℕ) (items : List Item) (r : Item) → feet_of cuts (items ++ r ∷ []) ≡ feet_of cuts items + foot_of cuts items r
feet-last cuts items r = feet_from-append cuts [] items (r ∷ []) ∙ omega arith

-- ---- the rate of a signal

-- the rate among some records, or else among further ones
abbrev pub rate_or : Option ℕ → List Item → ℕ → Option ℕ
rate_or (Some rate) items x = Some rate
rate_or None items x = rate_in items x

rate_or-deriv : (b : List Item) (x y rate : ℕ) (items : List Item) → cond (x == y) (Some rate) (rate_or (rate_in items x) b x) ≡ rate_or (cond (x == y) (Some rate) (rate_in items x)) b x
rate_or-deriv b x y rate items = elim (x == y) as (λ t. cond t (Some rate) (rate_or (rate_in items x) b x) ≡ rate_or (cond t (Some rate) (rate_in items x)) b x) [ true ↦ refl | false ↦ refl ]

pub rate_in-append : (xs ys : List Item) (x : ℕ) → rate_in (xs ++ ys) x ≡ rate_or (rate_in xs x) ys x
rate_in-append [] ys x = refl
rate_in-append (item.Deriv y rate ∷ xs) ys x = ap (λ (o : Option ℕ). cond (x == y.0) (Some rate.0) o) (rate_in-append xs ys x) ∙ rate_or-deriv ys x y.0 rate.0 xs
rate_in-append (r ∷ xs) ys x = rate_in-append xs ys x

-- a record that gives no rate leaves the rates as they were
pub rate_in-kept : (items : List Item) (r : Item) (x : ℕ) → rate_in (r ∷ []) x ≡ None → rate_in (items ++ r ∷ []) x ≡ rate_in items x
rate_in-kept items r x none =
    let same : (o : Option ℕ) → rate_or o (r ∷ []) x ≡ o = λ (o : Option ℕ). elim o as (λ o. rate_or o (r ∷ []) x ≡ o) [ None ↦ none | Some rate ↦ refl ] in
    rate_in-append items (r ∷ []) x ∙ same (rate_in items x)
