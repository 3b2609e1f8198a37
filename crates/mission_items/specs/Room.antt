-- The room that records take: cells, and read entries.
use Rattle.std.specs.Prelude.{ℕ, ◌+◌, ◌-◌, ◌*◌, ◌&&◌, nat_le, Bool, List, [], ◌∷◌, ◌++◌, Option, Some, None, is_some, length, max, pos, if◌then◌else◌}
use Rattle.tube_spec.specs.Limits.{most_cells, most_signals, most_variables}
use Rattle.tube_spec.specs.Span.{Span, point}
use Rattle.slice_gates.specs.Near.{near_of}
use Rattle.slice_gates.specs.declared.near.Near.{Near}
use Rattle.tube_names.specs.Leaves.{first_uses}
use Rattle.tube_names.specs.declared.leaves.Leaf.{Leaf}
use Rattle.mission_items.specs.Made.{beacons_in, rate_in, ticks_from, variable_range}
use Rattle.mission_items.specs.declared.item.Item.{Item}
use Rattle.mission_items.specs.declared.item.Item.TheVariants as item

-- ---- slices and cells

abbrev pub slices_in : List ℕ → ℕ
slices_in cuts = length cuts - 1

-- a signal has a gate at each boundary and an envelope over each slice
abbrev pub signal_cells : List ℕ → ℕ
signal_cells cuts = 2 * slices_in cuts + 1

-- the cells of so many signals and variables
abbrev pub cells_of : List ℕ → ℕ → ℕ → ℕ
cells_of cuts signals variables = signals * signal_cells cuts + variables

-- how many slices
abbrev pub slices_near : Option Near → ℕ
slices_near None = 0
slices_near (Some n) = n.last + 1 - n.first

-- how many slices share a tick with a range
abbrev pub touching : List ℕ → Span → ℕ
touching cuts range = slices_near (near_of cuts range)

-- ---- read entries

-- what an evaluation over s slices reads: its two variables, and the gates and envelopes of the signal and, if it has one, of its rate
abbrev pub evaluation_foot : Bool → ℕ → ℕ
evaluation_foot is_rated s = 2 + (if is_rated then 2 else 1) * (2 * s + 1)

-- an evaluation of a signal at a time with a declared range
abbrev pub evaluated : List ℕ → List Item → ℕ → Span → ℕ
evaluated cuts before x range = evaluation_foot (is_some (rate_in before x)) (touching cuts range)

-- a point and all beacons before
abbrev pub constellation_foot : List Item → ℕ
constellation_foot before = 2 + 2 * beacons_in before

abbrev pub mark_foot : List Item → Option ℕ → ℕ
mark_foot before (Some beacon) = 0
mark_foot before None = constellation_foot before

-- how many different names a formula has, and 1 where it has none
abbrev pub names_used : List Leaf → ℕ
names_used leaves = max 1 (length (first_uses leaves))

-- how many cells the contractors of a record read together, by the records before it
abbrev pub foot_of : List ℕ → List Item → Item → ℕ
foot_of cuts before (item.Signal name range) = 3 * slices_in cuts
foot_of cuts before (item.Deriv x rate) = 4 * slices_in cuts
foot_of cuts before (item.At x tick range) = evaluated cuts before x.0 (point (pos tick))
foot_of cuts before (item.Eval x t z) = evaluated cuts before x.0 (variable_range before t.0)
foot_of cuts before (item.Delay x y tau) = 3 * (2 * signal_cells cuts + 1)
foot_of cuts before (item.Dist2 near far p b) = 4
foot_of cuts before (item.Dist3 near far p b) = 6
foot_of cuts before (item.Constell p) = constellation_foot before
foot_of cuts before (item.Ping x y first last beacon near far) =
    evaluated cuts before x.0 (ticks_from first last) + evaluated cuts before y.0 (ticks_from first last) + 4 + mark_foot before beacon
foot_of cuts before (item.Each formula leaves) = signal_cells cuts * names_used leaves
foot_of cuts before (item.Single formula leaves) = names_used leaves
foot_of cuts before i = 0

abbrev pub feet_from : List ℕ → List Item → List Item → ℕ
feet_from cuts before [] = 0
feet_from cuts before (i ∷ items) = foot_of cuts before i + feet_from cuts (before ++ i ∷ []) items

-- the feet of all records, added up
abbrev pub feet_of : List ℕ → List Item → ℕ
feet_of cuts items = feet_from cuts [] items

-- at most 64 signals, 200,000 variables and 2,000,000 cells
abbrev pub are_few : List ℕ → ℕ → ℕ → Bool
are_few cuts signals variables = nat_le signals most_signals && (nat_le variables most_variables && nat_le (cells_of cuts signals variables) most_cells)
