-- The signals, variables and beacons that records make, with their declared ranges.
use Rattle.std.specs.Prelude.{ℕ, ◌==◌, Bool, true, false, List, [], ◌∷◌, ◌++◌, Option, Some, None, flat_map, map, slice_index_or, sum_by, pos, if◌then◌else◌}
use Rattle.std.specs.List.{list_any}
use Rattle.tube_spec.specs.Span.{Span, point, join_of}
use Rattle.mission_items.specs.declared.item.Item.{Item}
use Rattle.mission_items.specs.declared.item.Item.TheVariants as item

-- ---- how many

abbrev pub signals_made : Item → ℕ
signals_made (item.Signal name range) = 1
signals_made i = 0

-- a ping makes a time, a point and, without a beacon, a mark; an `at` makes a time and a value
abbrev pub variables_made : Item → ℕ
variables_made (item.Variable name range) = 1
variables_made (item.Beacon name x y) = 2
variables_made (item.At x tick range) = 2
variables_made (item.Ping x y first last (Some beacon) near far) = 3
variables_made (item.Ping x y first last None near far) = 5
variables_made i = 0

abbrev pub beacons_made : Item → ℕ
beacons_made (item.Beacon name x y) = 1
beacons_made i = 0

abbrev pub signals_in : List Item → ℕ
signals_in items = sum_by signals_made items

abbrev pub variables_in : List Item → ℕ
variables_in items = sum_by variables_made items

abbrev pub beacons_in : List Item → ℕ
beacons_in items = sum_by beacons_made items

-- ---- the declared ranges of signals

abbrev pub signal_made : Item → List Span
signal_made (item.Signal name range) = range ∷ []
signal_made i = []

-- in order of declaration
abbrev pub signal_ranges : List Item → List Span
signal_ranges items = flat_map signal_made items

abbrev pub signal_range : List Item → ℕ → Span
signal_range items x = slice_index_or (signal_ranges items) x (point (pos 0))

-- ---- the declared ranges of variables

-- the ticks of a time
abbrev pub ticks_from : ℕ → ℕ → Span
ticks_from first last = record { lo = pos first; hi = pos last }

-- the ranges of a beacon's coordinates
abbrev pub beacon_made : Item → List (Span × Span)
beacon_made (item.Beacon name x y) = (x, y) ∷ []
beacon_made i = []

abbrev pub beacon_ranges : List Item → List (Span × Span)
beacon_ranges items = flat_map beacon_made items

-- the least range that holds all of them
abbrev pub hull_of : List Span → Span
hull_of [] = point (pos 0)
hull_of (s ∷ []) = s
hull_of (s ∷ (t ∷ more)) = join_of s (hull_of (t ∷ more))

-- where one of the beacons is
abbrev pub mark_x : List Item → Span
mark_x items = hull_of (map (λ b. b.0) (beacon_ranges items))

abbrev pub mark_y : List Item → Span
mark_y items = hull_of (map (λ b. b.1) (beacon_ranges items))

-- A ping's point has the ranges of its signals, and its mark the hull of those of the beacons before.
abbrev pub mark_made : List Item → Option ℕ → List Span
mark_made before (Some beacon) = []
mark_made before None = mark_x before ∷ mark_y before ∷ []

-- the ranges of the variables that a record makes, after the records before it
abbrev pub ranges_made : List Item → Item → List Span
ranges_made before (item.Variable name range) = range ∷ []
ranges_made before (item.Beacon name x y) = x ∷ y ∷ []
ranges_made before (item.At x tick range) = point (pos tick) ∷ range ∷ []
ranges_made before (item.Ping x y first last beacon near far) =
    ticks_from first last ∷ signal_range before x.0 ∷ signal_range before y.0 ∷ mark_made before beacon
ranges_made before i = []

abbrev pub ranges_from : List Item → List Item → List Span
ranges_from before [] = []
ranges_from before (i ∷ items) = ranges_made before i ++ ranges_from (before ++ i ∷ []) items

-- in order of declaration, those without a name included
abbrev pub variable_ranges : List Item → List Span
variable_ranges items = ranges_from [] items

abbrev pub variable_range : List Item → ℕ → Span
variable_range items v = slice_index_or (variable_ranges items) v (point (pos 0))

-- ---- the mission record, and rates

abbrev pub is_head : Item → Bool
is_head item.Head = true
is_head i = false

-- whether a mission record stands among the records
abbrev pub has_head : List Item → Bool
has_head items = list_any is_head items

-- the rate of a signal: that of the first record that gives it one
abbrev pub rate_in : List Item → ℕ → Option ℕ
rate_in [] x = None
rate_in (item.Deriv y rate ∷ items) x = if x == y.0 then Some rate.0 else rate_in items x
rate_in (i ∷ items) x = rate_in items x
