-- Schedules: additions and firings in any order, over the definitions alone.
use Rattle.std.specs.Prelude.{◌≡◌, ℕ, ◌-◌, ◌*◌, Option, Some, List, [], ◌∷◌, ◌++◌, IfSome, length, map, replicate, flat_map, slice_get}
use Rattle.tube_spec.specs.Span.{Span, IsProper}
use Rattle.tube_spec.specs.Shape.{with_signal, with_var, no_shape, Shape, IsShape}
use Rattle.tube_spec.specs.Box.{IsBox, IsBelowBox, box_more}
use Rattle.tube_spec.specs.Projection.{Projection}
use Rattle.tube_spec.specs.Fixpoint.{IsFixpoint, IsGreatest, KeepsFixpoints}
use Rattle.ctc_network.specs.Nets.{NetState}

-- One step of a network: a signal, a variable or a contractor is added, or the contractor with a number is fired and leaves a box.
pub data Event (C : Type 0) : Type 0 where
  AddSignal : Span → Event C
  AddVar : Span → Event C
  AddContractor : C → Event C
  Fire : ℕ → Option (List Span) → Event C

-- the cells at their declared ranges, the box, and the contractors in order of addition
pub record Network (C : Type 0) : Type 0 where
  pub shape : Shape
  pub declared : List Span
  pub box : Option (List Span)
  pub contractors : List C

-- a network with no cell and no contractor
abbrev pub no_network : {C : Type 0} → List ℕ → Network C
no_network grid = record { shape = no_shape grid; declared = []; box = Some []; contractors = [] }

-- a network with further cells
abbrev pub grown : {C : Type 0} → Network C → Shape → List Span → Network C
grown n shape more = record n { shape = shape; declared = n.declared ++ more; box = box_more n.box more }

abbrev pub after : {C : Type 0} → Network C → Event C → Network C
after n (AddSignal range) = grown n (with_signal n.shape) (replicate (2 * length n.shape.grid - 1) range)
after n (AddVar range) = grown n (with_var n.shape) (range ∷ [])
after n (AddContractor c) = record n { contractors = n.contractors ++ c ∷ [] }
after n (Fire k box) = record n { box = box }

abbrev pub after_all : {C : Type 0} → Network C → List (Event C) → Network C
after_all n [] = n
after_all n (e ∷ es) = after_all (after n e) es

-- A firing takes a box to any box that lies below it and keeps the fixpoints.
pub record IsFiring (ps : List Projection) (old new : Option (List Span)) : Type 0 where
  pub boxes : IfSome new IsBox
  pub below : IsBelowBox new old
  pub keeps : KeepsFixpoints ps old new

-- what each event asks of the network
abbrev pub IsAllowed : {C : Type 0} → (C → Shape → List Projection) → (C → Shape → Option (List Span) → Type 0) → Network C → Event C → Type 0
IsAllowed projections fits n (AddSignal range) = IsProper range × IsShape (with_signal n.shape)
IsAllowed projections fits n (AddVar range) = IsProper range × IsShape (with_var n.shape)
IsAllowed projections fits n (AddContractor c) = fits c n.shape n.box
IsAllowed {C} projections fits n (Fire k box) = (c : C) × (slice_get n.contractors k ≡ Some c) × IsFiring (projections c n.shape) n.box box

-- each event is allowed where it comes
abbrev pub IsSchedule : {C : Type 0} → (C → Shape → List Projection) → (C → Shape → Option (List Span) → Type 0) → Network C → List (Event C) → Type 0
IsSchedule projections fits n [] = Unit {0}
IsSchedule projections fits n (e ∷ es) = IsAllowed projections fits n e × IsSchedule projections fits (after n e) es

-- a net has the cells, the box and the contractors of a network, and none was taken out
pub record IsNetworkOf {C : Type 0} (n : Network C) (net : NetState C) : Type 0 where
  pub shape : n.shape ≡ net.store.shape
  pub box : n.box ≡ net.store.box
  pub contractors : map Some n.contractors ≡ net.contractors

-- the event is allowed, and the net is what it makes of the network
abbrev pub IsStep : {C : Type 0} → (C → Shape → List Projection) → (C → Shape → Option (List Span) → Type 0) → Network C → Event C → NetState C → Type 0
IsStep projections fits n e net = IsAllowed projections fits n e × IsNetworkOf (after n e) net

-- the projections of all contractors
abbrev pub all_projections : {C : Type 0} → (C → Shape → List Projection) → Network C → List Projection
all_projections projections n = flat_map (λ c. projections c n.shape) n.contractors

-- every common fixpoint below the declared ranges lies below the box
abbrev pub KeepsDeclared : {C : Type 0} → (C → Shape → List Projection) → Network C → Type 0
KeepsDeclared projections n = KeepsFixpoints (all_projections projections n) (Some n.declared) n.box

-- where no contractor narrows the box, it is the greatest common fixpoint below the declared ranges
abbrev pub IsGreatestAtRest : {C : Type 0} → (C → Shape → List Projection) → Network C → Type 0
IsGreatestAtRest projections n = IfSome n.box (IsFixpoint (all_projections projections n)) → IsGreatest (all_projections projections n) (Some n.declared) n.box
