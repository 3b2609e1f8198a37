-- What an accepted mission promises.
use Rattle.std.specs.Prelude.{◌≡◌, ◌≢◌, ℕ, ◌+◌, ◌<◌, ◌≤◌, ◌⊎◌, ◌==◌, if◌then◌else◌, Bool, true, false, List, [], ◌∷◌, ◌++◌, Option, Some, None, IsSome, All, length, map, take, drop, count_by, ℤ, pos, ◌≤ℤ◌}
use Rattle.std.specs.List.{list_all}
use Rattle.tube_spec.specs.Grid.{IsGrid, last_tick}
use Rattle.tube_spec.specs.Limits.{greatest_bound, greatest_radius, most_cells, most_reads, most_records, most_signals, most_ticks, most_variables}
use Rattle.tube_spec.specs.Span.{Span, IsProper, IsBounded, meet_of, width_of}
use Rattle.tube_store.specs.declared.SignalId.{SignalId}
use Rattle.tube_store.specs.declared.VarId.{VarId}
use Rattle.log_spelling.specs.Names.{is_name}
use Rattle.expr_tree.specs.Trees.{Relation}
use Rattle.expr_tree.specs.Measures.{relation_names}
use Rattle.expr_text.specs.Spellable.{IsPrintable}
use Rattle.expr_values.specs.Expressions.{leaves, numbered}
use Rattle.expr_values.specs.Values.{range_value}
use Rattle.tube_names.specs.declared.leaves.Leaf.{Leaf}
use Rattle.tube_names.specs.declared.leaves.Leaf.TheVariants.{Sig, Var}
use Rattle.tube_names.specs.declared.queries.Norm.{Norm}
use Rattle.tube_names.specs.declared.queries.Norm.TheVariants.{Maximum, Disc}
use Rattle.tube_names.specs.declared.queries.Query.{Query}
use Rattle.mission_items.specs.Made.{beacons_in, has_head, signals_in, ticks_from, variable_range, variables_in}
use Rattle.mission_items.specs.Names.{are_distinct, declaration_of, leaf_at, leaf_range, IsNamed}
use Rattle.mission_items.specs.Cuts.{boundaries}
use Rattle.mission_items.specs.Room.{cells_of, feet_of}
use Rattle.mission_items.specs.declared.item.Item.{Item}
use Rattle.mission_items.specs.declared.item.Item.TheVariants as item
use Rattle.mission_items.specs.declared.mission.Mission.{Mission}

-- ---- parts of records

-- a range has a number and lies from -500,000,000 to 500,000,000
abbrev pub IsRange : Span → Type 0
IsRange range = IsProper range × IsBounded greatest_bound range

-- a name is spelled as one and is declared now
abbrev pub IsNew : List Item → List ℕ → Type 0
IsNew before name = (is_name name ≡ true) × (declaration_of name before ≡ None)

-- a signal that is declared before
abbrev pub IsSignal : List Item → SignalId → Type 0
IsSignal before x = x.0 < signals_in before

-- two different signals
abbrev pub AreSignals : List Item → SignalId → SignalId → Type 0
AreSignals before x y = IsSignal before x × IsSignal before y × (x.0 ≢ y.0)

-- different variables, each with a name that is declared before
abbrev pub AreVariables : List Item → List VarId → Type 0
AreVariables before vs = All (IsNamed before) vs × (are_distinct vs ≡ true)

-- the ticks of a range on a clock that ends at a tick: the last is at most 2,000 above the first
abbrev pub IsNarrow : ℕ → Span → Type 0
IsNarrow end range = width_of (meet_of range (ticks_from 0 end)) ≤ 2000

-- a time or a delay
abbrev pub IsTime : ℕ → List Item → VarId → Type 0
IsTime end before t = IsNarrow end (variable_range before t.0)

-- the radii of a ring are from 0 to 2,000,000,000, in order
abbrev pub AreRadii : ℤ → ℤ → Type 0
AreRadii near far = (pos 0 ≤ℤ near) × (near ≤ℤ far) × (far ≤ℤ pos greatest_radius)

-- ticks in order, on a clock that ends at a tick
abbrev pub AreTicks : ℕ → ℕ → ℕ → Type 0
AreTicks end first last = (first ≤ last) × (last ≤ end)

-- the beacon of a ping stands before it, or some beacon does
abbrev pub IsMark : List Item → Option ℕ → Type 0
IsMark before (Some beacon) = beacon < beacons_in before
IsMark before None = 1 ≤ beacons_in before

-- a point has so many coordinates
abbrev pub IsPoint : ℕ → List VarId → Type 0
IsPoint n p = length p ≡ n

-- ---- formulas

abbrev pub is_variable : Leaf → Bool
is_variable (Sig x) = false
is_variable (Var v) = true

-- both sides of a relation have values within the bound of intervals over the declared ranges of its leaves
abbrev pub HasValues : List Item → Relation → List Leaf → Type 0
HasValues before r ls =
    IsSome (range_value (map (leaf_range before) (take (leaves r.left) ls)) (numbered r.left 0))
    × IsSome (range_value (map (leaf_range before) (drop (leaves r.left) ls)) (numbered r.right 0))

-- a formula within the limits, whose names stand for these leaves
pub record IsFormula (before : List Item) (r : Relation) (ls : List Leaf) : Type 0 where
  pub printable : IsPrintable r
  pub stands : map (leaf_at before) (relation_names r) ≡ map Some ls
  pub values : HasValues before r ls

-- ---- questions for loops

abbrev pub is_revisit : Item → Bool
is_revisit (item.Revisit q) = true
is_revisit i = false

-- how many questions stand among the records
abbrev pub revisits_in : List Item → ℕ
revisits_in items = count_by is_revisit items

-- nearness is measured by the greater of both distances in version 1, and by the Euclidean distance in version 2
abbrev pub norm_in : ℕ → Norm
norm_in version = if version == 2 then Disc else Maximum

pub record IsQuery (version end : ℕ) (before : List Item) (q : Query) : Type 0 where
  pub signals : AreSignals before q.x q.y
  pub radius : AreRadii (pos 0) q.radius
  pub some_gap : 1 ≤ q.gap
  pub small_gap : q.gap ≤ most_ticks
  pub norm : q.norm ≡ norm_in version
  pub few : revisits_in before < 16
  pub plane : end ≤ 20000

-- ---- records

-- only notes, the mission record and cuts stand before a cut
abbrev pub may_precede_cut : Item → Bool
may_precede_cut item.Head = true
may_precede_cut item.Note = true
may_precede_cut (item.Cut tick) = true
may_precede_cut i = false

-- what a record says is right after the records before it, in a log of a version, on a clock that ends at a tick
abbrev pub IsRight : ℕ → ℕ → List Item → Item → Type 0
IsRight version end before item.Head = Unit {0}
IsRight version end before item.Note = Unit {0}
IsRight version end before (item.Cut tick) = (version ≡ 2) × (tick ≤ end) × (list_all may_precede_cut before ≡ true)
IsRight version end before (item.Signal name range) = IsNew before name × IsRange range
IsRight version end before (item.Variable name range) = IsNew before name × IsRange range
IsRight version end before (item.Beacon name x y) = IsNew before name × IsRange x × IsRange y
IsRight version end before (item.Deriv x rate) = AreSignals before x rate
IsRight version end before (item.Bound x first last range) = IsSignal before x × AreTicks end first last × IsRange range
IsRight version end before (item.At x tick range) = IsSignal before x × (tick ≤ end) × IsRange range
IsRight version end before (item.Eval x t z) = IsSignal before x × AreVariables before (t ∷ z ∷ []) × IsTime end before t
IsRight version end before (item.Delay x y tau) = AreSignals before x y × IsNamed before tau × IsTime end before tau
IsRight version end before (item.Dist2 near far p b) = AreRadii near far × AreVariables before (p ++ b) × IsPoint 2 p × IsPoint 2 b
IsRight version end before (item.Dist3 near far p b) = AreRadii near far × AreVariables before (p ++ b) × IsPoint 3 p × IsPoint 3 b
IsRight version end before (item.Constell p) = AreVariables before p × (1 ≤ beacons_in before) × IsPoint 2 p
IsRight version end before (item.Ping x y first last beacon near far) =
    AreSignals before x y × AreTicks end first last × (last ≤ first + 2000) × IsMark before beacon × AreRadii near far
IsRight version end before (item.Each formula ls) = IsFormula before formula ls
IsRight version end before (item.Single formula ls) = IsFormula before formula ls × (list_all is_variable ls ≡ true)
IsRight version end before (item.Revisit q) = IsQuery version end before q
IsRight version end before item.Settle = Unit {0}

-- only notes stand before the mission record, and it stands once
abbrev pub IsInPlace : List Item → Item → Type 0
IsInPlace before item.Head = has_head before ≡ false
IsInPlace before item.Note = Unit {0}
IsInPlace before i = has_head before ≡ true

abbrev pub AreRightFrom : ℕ → ℕ → List Item → List Item → Type 0
AreRightFrom version end before [] = Unit {0}
AreRightFrom version end before (i ∷ items) = IsInPlace before i × IsRight version end before i × AreRightFrom version end (before ++ i ∷ []) items

-- each record is in its place, and right after the ones before it
abbrev pub AreRight : ℕ → ℕ → List Item → Type 0
AreRight version end items = AreRightFrom version end [] items

-- version 1 or 2, and a clock of 1 to 100,000 ticks in slices of 1 to 100,000 ticks, parted by the cuts of the records
pub record IsClock (version ticks width : ℕ) (cuts : List ℕ) (items : List Item) : Type 0 where
  pub known_version : (version ≡ 1) ⊎ (version ≡ 2)
  pub some_tick : 1 ≤ ticks
  pub few_ticks : ticks ≤ most_ticks
  pub some_width : 1 ≤ width
  pub small_width : width ≤ most_ticks
  pub boundaries : cuts ≡ boundaries ticks width items
  pub grid : IsGrid cuts
  pub ends : last_tick cuts ≡ ticks

-- the records fit: their number, signals, variables, cells and read entries
pub record AreFew (m : Mission) : Type 0 where
  pub records : length m.items ≤ most_records
  pub signals : signals_in m.items ≤ most_signals
  pub variables : variables_in m.items ≤ most_variables
  pub cells : cells_of m.cuts (signals_in m.items) (variables_in m.items) ≤ most_cells
  pub feet : feet_of m.cuts m.items ≤ most_reads

-- an accepted mission
pub record IsMission (m : Mission) : Type 0 where
  pub head : has_head m.items ≡ true
  pub clock : IsClock m.version m.ticks m.width m.cuts m.items
  pub few : AreFew m
  pub right : AreRight m.version m.ticks m.items
