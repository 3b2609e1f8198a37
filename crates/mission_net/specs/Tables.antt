-- The table of what the records so far make, as it is kept while records are built.
use Rattle.std.specs.Prelude.{◌≡◌, ℕ, ◌<◌, ◌≤◌, List, [], ◌∷◌, Option, Some, None, length, map, slice_index_or, slice_set, pos}
use Rattle.tube_spec.specs.Limits.{most_signals}
use Rattle.tube_spec.specs.Span.{Span, point, join_of}
use Rattle.mission_items.specs.declared.item.Item.{Item}
use Rattle.mission_items.specs.declared.item.Item.TheVariants as item
use Rattle.mission_items.specs.Made.{beacon_ranges, hull_of, rate_in, signal_ranges, signals_in, variable_ranges}
use Rattle.mission_items.specs.Valid.{IsMark}
use Rattle.mission_net.specs.Records.{marks_in, point_at}
use Rattle.any_ctc.specs.Constraints.{Constraint, ConstellOf, EvalOf}

-- The declared ranges of signals and of variables, the rates of as many signals as there may be, the variables of each beacon, and the hulls of the ranges
-- of the beacons' coordinates, if there is a beacon.
pub record Table : Type 0 where
  pub signals : List Span
  pub variables : List Span
  pub rates : List (Option ℕ)
  pub marks : List (List ℕ)
  pub hull : Option (Span × Span)

-- the hulls of both coordinates over some beacons
abbrev pub hulls_of : List (Span × Span) → Option (Span × Span)
hulls_of [] = None
hulls_of (b ∷ bs) = Some (hull_of (map (λ b. b.0) (b ∷ bs)), hull_of (map (λ b. b.1) (b ∷ bs)))

-- a table of these records
pub record IsTableOf (t : Table) (before : List Item) : Type 0 where
  pub signals : t.signals ≡ signal_ranges before
  pub variables : t.variables ≡ variable_ranges before
  pub many : length t.rates ≡ most_signals
  pub rates : (x : ℕ) → x < most_signals → slice_index_or t.rates x None ≡ rate_in before x
  pub marks : t.marks ≡ marks_in before
  pub hull : t.hull ≡ hulls_of (beacon_ranges before)

-- ---- what a table says of a number

abbrev pub rate_at : Table → ℕ → Option ℕ
rate_at t x = slice_index_or t.rates x None

abbrev pub range_at : Table → ℕ → Span
range_at t v = slice_index_or t.variables v (point (pos 0))

-- the evaluation of a signal at a time, with the rate and the declared range that the table has
abbrev pub evaluation_by : Table → ℕ → ℕ → ℕ → Constraint
evaluation_by t x u z = EvalOf x (rate_at t x) u z (range_at t u)

-- what a ping measures the distance of: a beacon, or the mark with these variables
abbrev pub target_by : Table → ℕ → Option ℕ → List ℕ
target_by t mark (Some beacon) = slice_index_or t.marks beacon []
target_by t mark None = point_at mark

abbrev pub mark_by : Table → ℕ → Option ℕ → List Constraint
mark_by t mark (Some beacon) = []
mark_by t mark None = ConstellOf (point_at mark) t.marks ∷ []

-- ---- one more entry

-- a rate counts where the signal has none
abbrev pub rates_with : List (Option ℕ) → ℕ → ℕ → Option ℕ → List (Option ℕ)
rates_with rates x rate None = slice_set rates x (Some rate)
rates_with rates x rate (Some first) = rates

abbrev pub hull_with : Option (Span × Span) → Span → Span → Option (Span × Span)
hull_with None x y = Some (x, y)
hull_with (Some h) x y = Some (join_of h.0 x, join_of h.1 y)

-- What a record takes from the table: a signal that has a rate is one of these, and a ping has its signals, its ticks in order and its mark.
abbrev pub IsTaken : List Item → Item → Type 0
IsTaken before (item.Deriv x rate) = x.0 < most_signals
IsTaken before (item.Ping x y first last beacon near far) = (x.0 < signals_in before) × (y.0 < signals_in before) × (first ≤ last) × IsMark before beacon
IsTaken before r = Unit {0}
