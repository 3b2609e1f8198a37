-- What a net holds of the records that were built, and what settling makes of it.
use Rattle.std.specs.Prelude.{◌≡◌, ◌<◌, ℕ, List, [], ◌∷◌, ◌++◌, Option, Some, None, true, map, flat_map, replicate, length, IsSome, IsNone, IsSomeAnd, All, ◌+◌, ◌≤◌, slice_get}
use Rattle.tube_spec.specs.Limits.{greatest_bound, most_cells, most_reads, most_signals, most_variables}
use Rattle.tube_spec.specs.Span.{Span, IsBounded}
use Rattle.tube_spec.specs.Box.{IsBelowBox, box_more, measure_of}
use Rattle.tube_spec.specs.Fixpoint.{IsFixpoint}
use Rattle.tube_spec.specs.Owner.{Owner, with_owners, start_of}
use Rattle.ctc_network.specs.Nets.{NetState}
use Rattle.ctc_network.specs.declared.answers.Settled.{Settled}
use Rattle.ctc_network.specs.declared.answers.Settled.TheVariants.{Fixpoint, Empty, Spent}
use Rattle.expr_tree.specs.Measures.{relation_nodes}
use Rattle.expr_values.specs.Expressions.{relation_leaves}
use Rattle.mission_items.specs.declared.item.Item.{Item}
use Rattle.mission_items.specs.declared.item.Item.TheVariants as item
use Rattle.mission_items.specs.Made.{ranges_made, signal_made, signals_in, signals_made, variables_in, variables_made}
use Rattle.mission_items.specs.Valid.{IsMark}
use Rattle.mission_net.specs.Tables.{IsTaken, Table}
use Rattle.any_ctc.specs.Constraints.{Constraint, constraint_projections, reads_in, IsOf}
use Rattle.mission_net.specs.Records.{contracts_of, contracts, made, shape_by, start, contractors_of, IsSection, IsEnclosure}
use Rattle.any_ctc.specs.declared.AnyCtc.{AnyCtc}
use Rattle.any_ctc.specs.Contractors.{constraint_of}

-- what stands under a number of a net, as a constraint: that of the contractor, if there is one
abbrev pub stands_for : Option AnyCtc → List Constraint
stands_for None = []
stands_for (Some c) = constraint_of c ∷ []

-- the constraints of a net's contractors, in the order of their numbers
abbrev pub constraints_in : NetState AnyCtc → List Constraint
constraints_in net = flat_map stands_for net.contractors

-- each of these by itself
abbrev pub each_alone : List Constraint → List (List Constraint)
each_alone cs = map (λ c. c ∷ []) cs

-- A net has exactly the cells and the contractors of the records, these under their numbers, and its box lies below their declared ranges.
pub record IsNetOf (grid : List ℕ) (items : List Item) (net : NetState AnyCtc) : Type 0 where
  pub shape : net.store.shape ≡ shape_by grid items
  pub contractors : map stands_for net.contractors ≡ each_alone (contracts grid items)
  pub below : IsBelowBox net.store.box (Some (start grid items))

-- What additions make of a net: further cells at their declared ranges, and further contractors, which wait; of the others those that waited.
pub record IsAdded (os : List Owner) (cs : List Constraint) (old new : NetState AnyCtc) : Type 0 where
  pub shape : new.store.shape ≡ with_owners old.store.shape os
  pub box : new.store.box ≡ box_more old.store.box (start_of old.store.shape.grid os)
  pub contractors : map stands_for new.contractors ≡ map stands_for old.contractors ++ each_alone cs
  pub waiting : new.waiting ≡ old.waiting ++ replicate (length cs) true

-- A net takes these contractors: each is of its shape, and neither their numbers nor their read entries run out.
pub record CanAdd (cs : List Constraint) (net : NetState AnyCtc) : Type 0 where
  pub of : All (IsOf net.store.shape) cs
  pub few : length net.contractors + length cs ≤ 4000000000
  pub reads : reads_in net.store.shape.grid (constraints_in net) + reads_in net.store.shape.grid cs ≤ most_reads

-- a table beside a net: it has the ranges of the same variables, and there are no more signals than there may be
pub record IsBeside (t : Table) (net : NetState AnyCtc) : Type 0 where
  pub signals : length net.store.shape.signals ≤ most_signals
  pub variables : length t.variables ≡ length net.store.shape.vars

-- a formula that can be bound: it is small, and has a leaf for each of its names
abbrev pub IsBindable : Item → Type 0
IsBindable (item.Each formula leaves) = (relation_nodes formula ≤ 256) × (length leaves ≡ relation_leaves formula)
IsBindable (item.Single formula leaves) = (relation_nodes formula ≤ 256) × (length leaves ≡ relation_leaves formula)
IsBindable r = Unit {0}

-- a ping's beacon stands before it
abbrev pub HasBeacon : List Item → Item → Type 0
HasBeacon before (item.Ping x y first last beacon near far) = IsMark before beacon
HasBeacon before r = Unit {0}

-- the time of an evaluation is a variable before it
abbrev pub IsTimed : List Item → Item → Type 0
IsTimed before (item.Eval x t z) = t.0 < variables_in before
IsTimed before r = Unit {0}

-- A net takes the next record: there is room for its cells, whose ranges are within the bound, and for its contractors, which are of the shape with these cells.
pub record CanBuild (before : List Item) (r : Item) (net : NetState AnyCtc) : Type 0 where
  pub signals : All (IsBounded greatest_bound) (signal_made r)
  pub variables : All (IsBounded greatest_bound) (ranges_made before r)
  pub cells : (with_owners net.store.shape (made before r)).cells ≤ most_cells
  pub of : All (IsOf (with_owners net.store.shape (made before r))) (contracts_of net.store.shape.grid before r)
  pub few : length net.contractors + length (contracts_of net.store.shape.grid before r) ≤ 4000000000
  pub reads : reads_in net.store.shape.grid (constraints_in net) + reads_in net.store.shape.grid (contracts_of net.store.shape.grid before r) ≤ most_reads
  pub taken : IsTaken before r
  pub bindable : IsBindable r
  pub beacon : HasBeacon before r
  pub timed : IsTimed before r
  pub signals_so_far : length net.store.shape.signals ≡ signals_in before
  pub variables_so_far : length net.store.shape.vars ≡ variables_in before
  pub few_signals : signals_in before + signals_made r ≤ most_signals
  pub few_variables : variables_in before + variables_made r ≤ most_variables

-- What the answer of settling says of the box: it is that of the section, or it was spent and lost no common fixpoint.
abbrev pub IsSectionAs : List ℕ → List Item → Option (List Span) → Settled → Type 0
IsSectionAs grid items box Fixpoint = IsSome box × IsSection grid items box
IsSectionAs grid items box Empty = IsNone box × IsSection grid items box
IsSectionAs grid items box (Spent id) = IsSome box × IsEnclosure grid items box

-- the contractor with a number, among those of the records, still narrows the box
abbrev pub StillNarrows : List ℕ → List Item → Option (List Span) → ℕ → Type 0
StillNarrows grid items box k =
    (cs : List Constraint) × (slice_get (contractors_of grid items) k ≡ Some cs) × IsSomeAnd box (λ xs. IsFixpoint (flat_map (constraint_projections (shape_by grid items)) cs) xs → ⊥)

-- Spent comes only where the measure fell by the budget at least, and the named contractor still narrows the box.
abbrev pub IsSpentAs : List ℕ → List Item → Option (List Span) → ℕ → ℕ → Settled → Type 0
IsSpentAs grid items box began budget (Spent id) = (measure_of box + budget ≤ began) × StillNarrows grid items box id.0
IsSpentAs grid items box began budget answer = Unit {0}
