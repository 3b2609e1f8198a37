-- What the records of a log make, ask of the cells, and say of an assignment.
use Rattle.std.specs.Prelude.{◌≡◌, ℕ, ◌+◌, ◌-◌, ◌<◌, ◌≤◌, List, [], ◌∷◌, ◌++◌, Option, Some, None, length, map, flat_map, slice_index_or, ℤ, ◌+ℤ◌, pos}
use Rattle.tube_spec.specs.Span.{Span, Holds, point}
use Rattle.tube_spec.specs.Grid.{last_tick}
use Rattle.tube_spec.specs.Shape.{Shape}
use Rattle.tube_spec.specs.Box.{IsBelowBox}
use Rattle.tube_spec.specs.Projection.{Projection}
use Rattle.tube_spec.specs.Fixpoint.{IsGreatest, KeepsFixpoints}
use Rattle.tube_spec.specs.Assignment.{Assignment, value_at, number_of}
use Rattle.tube_spec.specs.Owner.{Owner, SignalIn, VariableIn, shape_of, start_of, hull_box}
use Rattle.ctc_deriv.specs.Bounds.{each_below}
use Rattle.tube_names.specs.Points.{numbers}
use Rattle.ctc_dist.specs.Distances.{IsAtDistance}
use Rattle.ctc_constell.specs.Constellations.{IsOneOf}
use Rattle.expr_values.specs.Expressions.{Comparison, comparison_of}
use Rattle.expr_hc4.specs.Projections.{HoldsAtTick}
use Rattle.tube_names.specs.declared.leaves.Leaf.{Leaf}
use Rattle.expr_hc4.specs.declared.places.Place.TheVariants.{Gate, Envelope, Once}
use Rattle.mission_items.specs.declared.item.Item.{Item}
use Rattle.mission_items.specs.declared.item.Item.TheVariants as item
use Rattle.mission_items.specs.Made.{ranges_made, rate_in, signal_made, signals_in, ticks_from, variable_range, variables_in}
use Rattle.any_ctc.specs.Constraints.{Constraint, SliceOf, DerivOf, BoundOf, EvalOf, DelayToOf, DelayFromOf, DelayShiftOf, DistOf, ConstellOf, ExprOf, SlicesOf, DerivsOf, constraint_projections, written_of}

-- What a record makes, asks and says depends on the records before it alone.

-- ---- what records make

-- the signals and variables that a record makes, with their declared ranges
abbrev pub made : List Item → Item → List Owner
made before r = map SignalIn (signal_made r) ++ map VariableIn (ranges_made before r)

abbrev pub owners_from : List Item → List Item → List Owner
owners_from before [] = []
owners_from before (r ∷ rs) = made before r ++ owners_from (before ++ r ∷ []) rs

-- all signals and variables that records make, those of an earlier record first
abbrev pub owners : List Item → List Owner
owners items = owners_from [] items

-- the shape of what records make
abbrev pub shape_by : List ℕ → List Item → Shape
shape_by grid items = shape_of grid (owners items)

-- the box of declared ranges, at which settling starts
abbrev pub start : List ℕ → List Item → List Span
start grid items = start_of grid (owners items)

-- ---- beacons

-- a point of two variables, one after the other
abbrev pub point_at : ℕ → List ℕ
point_at first = first ∷ (first + 1) ∷ []

abbrev pub mark_of : List Item → Item → List (List ℕ)
mark_of before (item.Beacon name x y) = point_at (variables_in before) ∷ []
mark_of before r = []

abbrev pub marks_from : List Item → List Item → List (List ℕ)
marks_from before [] = []
marks_from before (r ∷ rs) = mark_of before r ++ marks_from (before ++ r ∷ []) rs

-- the variables of each beacon, in order of declaration
abbrev pub marks_in : List Item → List (List ℕ)
marks_in items = marks_from [] items

-- what a ping measures the distance of: a beacon, or the mark that it makes
abbrev pub target_of : List Item → Option ℕ → List ℕ
target_of before (Some beacon) = slice_index_or (marks_in before) beacon []
target_of before None = point_at (variables_in before + 3)

-- ---- what records ask

-- the evaluation of a signal at a time, with the rate that it has so far
abbrev pub evaluation : List Item → ℕ → ℕ → ℕ → Span → Constraint
evaluation before x t z declared = EvalOf x (rate_in before x) t z declared

-- the mark that a ping makes is one of the beacons
abbrev pub mark_constraints : List Item → Option ℕ → List Constraint
mark_constraints before (Some beacon) = []
mark_constraints before None = ConstellOf (point_at (variables_in before + 3)) (marks_in before) ∷ []

-- a ping: the value of both signals at its time, the distance, and whose the mark is
abbrev pub ping_constraints : List Item → ℕ → ℕ → ℕ → ℕ → ℤ → ℤ → Option ℕ → List Constraint
ping_constraints before x y first last near far beacon =
    evaluation before x (variables_in before) (variables_in before + 1) (ticks_from first last)
    ∷ evaluation before y (variables_in before) (variables_in before + 2) (ticks_from first last)
    ∷ DistOf (point_at (variables_in before + 1)) (target_of before beacon) near far
    ∷ mark_constraints before beacon

-- a formula at the gate and over the envelope with a number
abbrev pub formula_at : List Leaf → Comparison → ℕ → List Constraint
formula_at leaves c i = ExprOf (Gate i) leaves c ∷ ExprOf (Envelope i) leaves c ∷ []

-- a formula at each gate and envelope, in the order of the cells
abbrev pub formula_constraints : List ℕ → List Leaf → Comparison → List Constraint
formula_constraints grid leaves c = each_below (formula_at leaves c) (length grid - 1) ++ ExprOf (Gate (length grid - 1)) leaves c ∷ []

-- the constraints of a record: one for each contractor that it stands for, in order
abbrev pub constraints_of : List ℕ → List Item → Item → List Constraint
constraints_of grid before (item.Signal name range) = each_below (λ i. SliceOf (signals_in before) i ∷ []) (length grid - 1)
constraints_of grid before (item.Deriv x rate) = each_below (λ i. DerivOf x.0 rate.0 i ∷ []) (length grid - 1)
constraints_of grid before (item.Bound x first last range) = BoundOf x.0 first last range ∷ []
constraints_of grid before (item.At x tick range) = evaluation before x.0 (variables_in before) (variables_in before + 1) (point (pos tick)) ∷ []
constraints_of grid before (item.Eval x t z) = evaluation before x.0 t.0 z.0 (variable_range before t.0) ∷ []
constraints_of grid before (item.Delay x y tau) = DelayToOf x.0 y.0 tau.0 ∷ DelayFromOf x.0 y.0 tau.0 ∷ DelayShiftOf x.0 y.0 tau.0 ∷ []
constraints_of grid before (item.Dist2 near far p b) = DistOf (numbers p) (numbers b) near far ∷ []
constraints_of grid before (item.Dist3 near far p b) = DistOf (numbers p) (numbers b) near far ∷ []
constraints_of grid before (item.Constell p) = ConstellOf (numbers p) (marks_in before) ∷ []
constraints_of grid before (item.Ping x y first last beacon near far) = ping_constraints before x.0 y.0 first last near far beacon
constraints_of grid before (item.Each formula leaves) = formula_constraints grid leaves (comparison_of formula)
constraints_of grid before (item.Single formula leaves) = ExprOf Once leaves (comparison_of formula) ∷ []
constraints_of grid before r = []

abbrev pub constraints_from : List ℕ → List Item → List Item → List Constraint
constraints_from grid before [] = []
constraints_from grid before (r ∷ rs) = constraints_of grid before r ++ constraints_from grid (before ++ r ∷ []) rs

-- the constraints of all records, those of an earlier record first
abbrev pub constraints : List ℕ → List Item → List Constraint
constraints grid items = constraints_from grid [] items

-- what a net adds for a record: one contractor for all slices of a signal, one for those of a rate, and one for each other constraint
abbrev pub contracts_of : List ℕ → List Item → Item → List Constraint
contracts_of grid before (item.Signal name range) = SlicesOf (signals_in before) ∷ []
contracts_of grid before (item.Deriv x rate) = DerivsOf x.0 rate.0 ∷ []
contracts_of grid before r = constraints_of grid before r

abbrev pub contracts_from : List ℕ → List Item → List Item → List Constraint
contracts_from grid before [] = []
contracts_from grid before (r ∷ rs) = contracts_of grid before r ++ contracts_from grid (before ++ r ∷ []) rs

-- what a net adds for all records, those of an earlier record first
abbrev pub contracts : List ℕ → List Item → List Constraint
contracts grid items = contracts_from grid [] items

-- The contractors of all records by their numbers, from 0: each with the constraints of the records that it stands for.
abbrev pub contractors_of : List ℕ → List Item → List (List Constraint)
contractors_of grid items = map (written_of grid) (contracts grid items)

-- the projections of all records
abbrev pub projections : List ℕ → List Item → List Projection
projections grid items = flat_map (constraint_projections (shape_by grid items)) (constraints grid items)

-- The box of a section of these records: the greatest common fixpoint of their projections below the declared ranges.
abbrev pub IsSection : List ℕ → List Item → Option (List Span) → Type 0
IsSection grid items box = IsGreatest (projections grid items) (Some (start grid items)) box

-- a box that lost no common fixpoint of the records, as that of a spent section
pub record IsEnclosure (grid : List ℕ) (items : List Item) (box : Option (List Span)) : Type 0 where
  pub below : IsBelowBox box (Some (start grid items))
  pub keeps : KeepsFixpoints (projections grid items) (Some (start grid items)) box

-- ---- what records say

-- variables from a number on lie in these ranges
abbrev pub AreIn : Assignment → ℕ → List Span → Type 0
AreIn a first [] = Unit {0}
AreIn a first (range ∷ ranges) = Holds range (number_of a first) × AreIn a (first + 1) ranges

-- the variable t is a tick of the clock, and z is what the signal has there
pub record IsValueAt (end : ℕ) (a : Assignment) (x t z : ℕ) : Type 0 where
  pub tick : ℕ
  pub time : number_of a t ≡ pos tick
  pub on_clock : tick ≤ end
  pub value : number_of a z ≡ value_at a x tick

-- tau is a number of ticks, and from that tick on y is at each tick what x was so many ticks before
pub record IsDelayed (end : ℕ) (a : Assignment) (x y tau : ℕ) : Type 0 where
  pub ticks : ℕ
  pub delay : number_of a tau ≡ pos ticks
  pub on_clock : ticks ≤ end
  pub later : (k : ℕ) → ticks ≤ k → k ≤ end → value_at a y k ≡ value_at a x (k - ticks)

-- the mark that a ping makes is where one of the beacons is
abbrev pub IsAtMark : Assignment → List Item → Option ℕ → Type 0
IsAtMark a before (Some beacon) = Unit {0}
IsAtMark a before None = IsOneOf a (point_at (variables_in before + 3)) (marks_in before)

-- What a record says of an assignment besides its declared ranges of variables, for the ticks 0 to end.
abbrev pub Means : ℕ → Assignment → List Item → Item → Type 0
Means end a before (item.Signal name range) = (k : ℕ) → k ≤ end → Holds range (value_at a (signals_in before) k)
Means end a before (item.Deriv x rate) = (k : ℕ) → k < end → value_at a x.0 (k + 1) ≡ value_at a x.0 k +ℤ value_at a rate.0 k
Means end a before (item.Bound x first last range) = (k : ℕ) → first ≤ k → k ≤ last → Holds range (value_at a x.0 k)
Means end a before (item.At x tick range) = IsValueAt end a x.0 (variables_in before) (variables_in before + 1)
Means end a before (item.Eval x t z) = IsValueAt end a x.0 t.0 z.0
Means end a before (item.Delay x y tau) = IsDelayed end a x.0 y.0 tau.0
Means end a before (item.Dist2 near far p b) = IsAtDistance a (numbers p) (numbers b) near far
Means end a before (item.Dist3 near far p b) = IsAtDistance a (numbers p) (numbers b) near far
Means end a before (item.Constell p) = IsOneOf a (numbers p) (marks_in before)
Means end a before (item.Ping x y first last beacon near far) =
    IsValueAt end a x.0 (variables_in before) (variables_in before + 1)
    × IsValueAt end a y.0 (variables_in before) (variables_in before + 2)
    × IsAtDistance a (point_at (variables_in before + 1)) (target_of before beacon) near far
    × IsAtMark a before beacon
Means end a before (item.Each formula leaves) = (k : ℕ) → k ≤ end → HoldsAtTick a leaves (comparison_of formula) k
Means end a before (item.Single formula leaves) = HoldsAtTick a leaves (comparison_of formula) 0
Means end a before r = Unit {0}

-- What a record says of an assignment: each variable that it makes lies in its declared range, and what its kind says.
pub record Says (end : ℕ) (a : Assignment) (before : List Item) (r : Item) : Type 0 where
  pub made : AreIn a (variables_in before) (ranges_made before r)
  pub means : Means end a before r

abbrev pub SatisfiesFrom : ℕ → Assignment → List Item → List Item → Type 0
SatisfiesFrom end a before [] = Unit {0}
SatisfiesFrom end a before (r ∷ rs) = Says end a before r × SatisfiesFrom end a (before ++ r ∷ []) rs

-- an assignment satisfies the records where what each says holds of it
abbrev pub SatisfiesAll : List ℕ → Assignment → List Item → Type 0
SatisfiesAll grid a items = SatisfiesFrom (last_tick grid) a [] items

-- Every assignment that satisfies the records lies in the box, and where the box is empty none satisfies them.
abbrev pub Encloses : List ℕ → List Item → Option (List Span) → Type 0
Encloses grid items box = (a : Assignment) → SatisfiesAll grid a items → IsBelowBox (Some (hull_box grid (owners items) a)) box
