-- Sections: what settling the net of further records gives.
use Rattle.std.proofs.Common.{◌≡◌, ℕ, zero, suc, ◌≤◌, Option, Some, None, List, [], ◌∷◌, ◌++◌, arith, refl, sym, ap, ap₂, subst, ◌∙◌, map, flat_map, take, drop, IsSome, IsNone, IsSomeAnd, IfSome, slice_get, option_map, append-nil, length, ◌+◌, ◌*◌, ◌<◌}
use Rattle.std.proofs.lemmas.List.Elements.{All-nil}
use Rattle.std.proofs.lemmas.List.{take-append-drop}
use Rattle.tube_spec.specs.Span.{Span}
use Rattle.tube_spec.specs.Grid.{IsGrid, last_tick}
use Rattle.tube_spec.specs.Shape.{Shape, IsShape, Extends, no_shape}
use Rattle.tube_spec.specs.Box.{IsBox, AreBounded, IsBelowBox, box_more, measure_of}
use Rattle.tube_spec.specs.Projection.{Projection}
use Rattle.tube_spec.specs.Fixpoint.{IsFixpoint, IsGreatest, KeepsFixpoints}
use Rattle.tube_spec.specs.Owner.{start_of}
use Rattle.tube_spec.proofs.Widths.{widths-small}
use Rattle.tube_spec.proofs.Boxes.{IsBelow-refl, IsBelowBox-refl, IsBelowBox-trans}
use Rattle.tube_spec.proofs.Prefixes.{Extends-refl}
use Rattle.tube_store.specs.State.{State, IsStore}
use Rattle.ctc_network.specs.Nets.{NetState, of_place}
use Rattle.ctc_network.specs.Settling.{SettlesAs, StillNarrows}
use Rattle.ctc_network.specs.declared.answers.Settled.{Settled}
use Rattle.ctc_network.specs.declared.answers.Settled.TheVariants.{Fixpoint, Empty, Spent}
use Rattle.ctc_network.proofs.Schedules.{section-keeps}
use Rattle.mission_items.specs.declared.item.Item.{Item}
use Rattle.mission_items.specs.declared.mission.Mission.{Mission}
use Rattle.mission_items.specs.Valid.{IsMission}
use Rattle.mission_items.proofs.Making.{variables-append}
use Rattle.any_ctc.specs.Constraints.{Constraint, constraint_projections, constraint_scope, written_of, IsOf}
use Rattle.any_ctc.proofs.Written.{written-projections}
use Rattle.any_ctc.specs.ConstraintLaws.{constraint-reads_only, constraint-in_store, constraint-more, constraint-same_projections}
use Rattle.mission_net.specs.Records.{owners_from, shape_by, start, constraints_from, constraints, contracts, projections, IsEnclosure}
use Rattle.any_ctc.specs.declared.AnyCtc.{AnyCtc}
use Rattle.any_ctc.specs.Contractors.{constraint_of, any_projections}
use Rattle.mission_net.specs.Building.{stands_for, each_alone, IsNetOf, IsAdded, IsSectionAs, IsSpentAs}
use Rattle.mission_net.specs.Laws.{StartedLaw, SettledLaw, EnclosingLaw}
use Rattle.mission_net.proofs.Numbers.{net-contracts}
use Rattle.mission_net.proofs.Contracts.{contract-projections}
use Rattle.mission_net.proofs.Shapes.{shape-extends, shape-grid}
use Rattle.mission_net.proofs.Enclosing.{records-of, section-encloses, enclosure-encloses, AreSound}
use Rattle.mission_net.proofs.Counts.{cells-count}
use Rattle.mission_net.proofs.Reading.{start-append, start-length, constraints-append, right-first, shape-is}
use Rattle.mission_net.proofs.Additions.{more-low}
use Rattle.mission_net.proofs.Building.{first-sound}

-- the first of sound records are
pub sound-first : (version end : ℕ) (xs ys : List Item) → AreSound version end (xs ++ ys) → AreSound version end xs
sound-first version end xs ys sound = record { right = right-first version end xs ys [] sound.right; few = omega (arith, sound.few, variables-append xs ys) }

module _ (grid : List ℕ) (before more : List Item) (none : IsShape (no_shape grid)) (few : (shape_by grid before).cells ≤ 2000000) (version : ℕ) (is : IsGrid grid) (sound : AreSound version (last_tick grid) (before ++ more)) where
  past : AreSound version (last_tick grid) before
  past = sound-first version (last_tick grid) before more sound

  s : Shape
  s = shape_by grid before

  t : Shape
  t = shape_by grid (before ++ more)

  all : constraints grid (before ++ more) ≡ constraints grid before ++ constraints_from grid before more
  all = constraints-append grid before more []

  pub records-keep : (b1 b2 : Option (List Span)) → IsEnclosure grid before b1 → IsBelowBox b2 (box_more b1 (start_of grid (owners_from before more)))
      → KeepsFixpoints (projections grid (before ++ more)) (box_more b1 (start_of grid (owners_from before more))) b2 → IsEnclosure grid (before ++ more) b2
  records-keep b1 b2 e1 low keeps = record {
    below = IsBelowBox-trans b2 (box_more b1 (start_of grid (owners_from before more))) (Some (start grid (before ++ more))) low
        (subst (λ (d : List Span). IsBelowBox (box_more b1 (start_of grid (owners_from before more))) (Some d)) (sym (start-append grid before more)) (more-low b1 (start grid before) (start_of grid (owners_from before more)) e1.below));
    keeps =
        subst (λ (cs : List Constraint). KeepsFixpoints (flat_map (constraint_projections (shape_by grid (before ++ more))) cs) (Some (start grid (before ++ more))) b2) (sym all)
        (subst (λ (d : List Span). KeepsFixpoints (flat_map (constraint_projections (shape_by grid (before ++ more))) (constraints grid before ++ constraints_from grid before more)) (Some d) b2) (sym (start-append grid before more))
        (section-keeps Constraint (λ c s. constraint_projections s c) (λ c s. constraint_scope s c) (λ c s b. IsOf s c)
        (λ c s. constraint-reads_only c s) (λ c s xs ys same fits. fits) (λ c s a b low fits. fits) (λ c s b shape fits. constraint-in_store c s shape fits)
        (λ c s t b more grows fits. constraint-more c s t grows fits) (λ c s t b grows fits. constraint-same_projections c s t grows fits)
        (shape_by grid before) (shape_by grid (before ++ more)) (constraints grid before) (constraints_from grid before more) (start grid before) (start_of grid (owners_from before more))
        (shape-is grid before none few) (shape-extends grid before more) (start-length grid before) (records-of version (last_tick grid) grid (shape_by grid before) (subst IsGrid (sym (shape-grid grid before)) is) (shape-grid grid before) before [] (Extends-refl (shape_by grid before)) tt past.right past.few)
        b1 b2 e1.below e1.keeps
        (subst (λ (cs : List Constraint). KeepsFixpoints (flat_map (constraint_projections (shape_by grid (before ++ more))) cs) (box_more b1 (start_of grid (owners_from before more))) b2) all keeps)));
  }

-- the projections of what stands under the numbers are those of the constraints there
pub places-projections : (s : Shape) (cs : List (Option AnyCtc)) → flat_map (λ c. of_place any_projections c s) cs ≡ flat_map (constraint_projections s) (flat_map stands_for cs)
places-projections s [] = refl
places-projections s (None ∷ cs) = places-projections s cs
places-projections s (Some c ∷ cs) = ap (λ (ps : List Projection). any_projections c s ++ ps) (places-projections s cs)

-- the same in the words of the written constraints
place-projections : (s : Shape) (place : Option AnyCtc) → flat_map (constraint_projections s) (flat_map (written_of s.grid) (stands_for place)) ≡ of_place any_projections place s
place-projections s None = refl
place-projections s (Some c) = ap (flat_map (constraint_projections s)) (append-nil (written_of s.grid (constraint_of c))) ∙ written-projections s (constraint_of c)

written-alone : (grid : List ℕ) (cs : List Constraint) → map (flat_map (written_of grid)) (each_alone cs) ≡ map (written_of grid) cs
written-alone grid [] = refl
written-alone grid (c ∷ cs) = ap₂ (λ (x : List Constraint) (xs : List (List Constraint)). x ∷ xs) (append-nil (written_of grid c)) (written-alone grid cs)

-- the projections of a net's contractors are those of its records
pub net-projections : (grid : List ℕ) (items : List Item) (net : NetState AnyCtc) → IsNetOf grid items net → flat_map (λ c. of_place any_projections c net.store.shape) net.contractors ≡ projections grid items
net-projections grid items net holds =
    places-projections net.store.shape net.contractors
    ∙ ap₂ (λ (s : Shape) (cs : List Constraint). flat_map (constraint_projections s) cs) holds.shape (net-contracts grid items net holds)
    ∙ contract-projections (shape_by grid items) grid items (shape-grid grid items)

-- a box that a contractor still narrows is not empty
pub still-some : {C : Type 0} (projections : C → List Projection) (cs : List C) (box : Option (List Span)) (k : ℕ) → StillNarrows projections cs box k → IsSome box
still-some projections cs None k h = absurd h.2
still-some projections cs (Some xs) k h = refl

-- the greatest below a box that lost no common fixpoint is the greatest of all
pub greatest-of : (ps : List Projection) (all box new : Option (List Span)) → IsBelowBox box all → KeepsFixpoints ps all box → IsGreatest ps box new → IsGreatest ps all new
greatest-of ps all box None low keeps g = λ q fix below. g q fix (keeps q fix below)
greatest-of ps all box (Some r) low keeps g = (g.0, IsBelowBox-trans (Some r) box all g.1 low, λ q fix below. g.2 q fix (keeps q fix below))

-- what the answer of settling says of the section
settled-section : (grid : List ℕ) (items : List Item) (budget : ℕ) (net : NetState AnyCtc) (new : State) (answer : Settled) → IsNetOf grid items net → IsEnclosure grid items net.store.box
    → SettlesAs (λ c. of_place any_projections c net.store.shape) net.contractors budget net.store new answer → IsSectionAs grid items new.box answer
settled-section grid items budget net new Fixpoint holds keeps settles = (
  settles.0,
  greatest-of (projections grid items) (Some (start grid items)) net.store.box new.box keeps.below keeps.keeps
      (subst (λ (ps : List Projection). IsGreatest ps net.store.box new.box) (net-projections grid items net holds) settles.1),
)
settled-section grid items budget net new Empty holds keeps settles = (
  settles.0,
  greatest-of (projections grid items) (Some (start grid items)) net.store.box new.box keeps.below keeps.keeps
      (subst (λ (ps : List Projection). IsGreatest ps net.store.box new.box) (net-projections grid items net holds) settles.1),
)
settled-section grid items budget net new (Spent id) holds keeps settles = (
  still-some (λ c. of_place any_projections c net.store.shape) net.contractors new.box id.0 settles.2,
  record {
    below = IsBelowBox-trans new.box net.store.box (Some (start grid items)) settles.0.below keeps.below;
    keeps = λ q fix below.
        subst (λ (ps : List Projection). KeepsFixpoints ps net.store.box new.box) (net-projections grid items net holds) settles.0.keeps q fix (keeps.keeps q fix below);
  },
)

-- the cause of a spent answer, in the words of the records
pub get-map : {X Y : Type 0} (f : X → Y) (xs : List X) (k : ℕ) (x : X) → slice_get xs k ≡ Some x → slice_get (map f xs) k ≡ Some (f x)
get-map f [] k x e = absurd (cc)
get-map f (y ∷ xs) zero x e = ap (option_map f) e
get-map f (y ∷ xs) (suc k) x e = get-map f xs k x e

spent-as : (grid : List ℕ) (items : List Item) (budget : ℕ) (net : NetState AnyCtc) (new : State) (answer : Settled) → IsNetOf grid items net
    → SettlesAs (λ c. of_place any_projections c net.store.shape) net.contractors budget net.store new answer → IsSpentAs grid items new.box (measure_of net.store.box) budget answer
spent-as grid items budget net new Fixpoint holds settles = tt
spent-as grid items budget net new Empty holds settles = tt
spent-as grid items budget net new (Spent id) holds settles =
    let still = settles.2 in
    let fell = settles.1 in (
      fell,
      (
        flat_map (written_of grid) (stands_for still.0),
        subst (λ (cs : List (List Constraint)). slice_get cs id.0 ≡ Some (flat_map (written_of grid) (stands_for still.0))) (ap (map (flat_map (written_of grid))) holds.contractors ∙ written-alone grid (contracts grid items))
            (get-map (flat_map (written_of grid)) (map stands_for net.contractors) id.0 (stands_for still.0) (get-map stands_for net.contractors id.0 still.0 still.1)),
        subst (λ (ps : List Projection). IsSomeAnd new.box (λ xs. IsFixpoint ps xs → ⊥))
            (sym (ap (λ (g : List ℕ). flat_map (constraint_projections (shape_by grid items)) (flat_map (written_of g) (stands_for still.0))) (sym (shape-grid grid items)) ∙ place-projections (shape_by grid items) still.0))
            (subst (λ (s : Shape). IsSomeAnd new.box (λ xs. IsFixpoint (of_place any_projections still.0 s) xs → ⊥)) holds.shape still.2),
      ),
    )

-- every answer leaves a box that lost no common fixpoint
pub section-as-encloses : (grid : List ℕ) (items : List Item) (box : Option (List Span)) (answer : Settled) → IsSectionAs grid items box answer → IsEnclosure grid items box
section-as-encloses grid items box Fixpoint h = section-encloses grid items box h.1
section-as-encloses grid items box Empty h = section-encloses grid items box h.1
section-as-encloses grid items box (Spent id) h = h.1

split : (items : List Item) (first last : ℕ) → first ≤ last → take first items ++ drop first (take last items) ≡ take last items
split items zero last h = refl
split items (suc first) zero h = absurd (omega (arith, h))
split [] (suc first) (suc last) h = refl
split (x ∷ items) (suc first) (suc last) h = ap (λ (l : List Item). x ∷ l) (split items first last (omega (arith, h)))

-- the clock and the room of a mission
pub mission-grid : (m : Mission) → IsMission m → IsShape (no_shape m.cuts)
mission-grid m is = record {
  grid = is.clock.grid;
  few = omega arith;
  names = omega arith;
  signals = All-nil (λ (first : ℕ). first + 2 * length m.cuts ≤ 1);
  vars = All-nil (λ (cell : ℕ). cell < 0);
}

pub mission-cells : (m : Mission) → IsMission m → (shape_by m.cuts m.items).cells ≤ 2000000
mission-cells m is = let e = cells-count m.cuts m.items (omega (arith, is.clock.grid.slices)) in omega (arith, e, is.few.cells)

-- ---- what the law says

pub started-keeps : StartedLaw
started-keeps m first upto box is order keeps =
    let before = take first m.items in
    let more = drop first (take upto m.items) in
    let parts = split m.items first upto order in
    let started = box_more box (start_of m.cuts (owners_from before more)) in
    let grows : Extends (shape_by m.cuts before) (shape_by m.cuts m.items) =
    subst (λ (l : List Item). Extends (shape_by m.cuts before) (shape_by m.cuts l)) (take-append-drop first m.items) (shape-extends m.cuts before (drop first m.items)) in
    subst (λ (l : List Item). IsEnclosure m.cuts l started) parts
    (records-keep m.cuts before more (mission-grid m is) (omega (arith, mission-cells m is, grows.cells)) m.version is.clock.grid
    (subst (AreSound m.version (last_tick m.cuts)) (sym parts) (first-sound m is upto)) box started keeps (IsBelowBox-refl started) (λ q fix below. below))

pub settled-is : SettledLaw
settled-is grid items budget net new answer holds keeps settles =
    (settled-section grid items budget net new answer holds keeps settles, spent-as grid items budget net new answer holds settles)

pub section-covers : EnclosingLaw
section-covers m upto box answer is section =
    enclosure-encloses m.cuts (take upto m.items) box m.version is.clock.grid (first-sound m is upto) (section-as-encloses m.cuts (take upto m.items) box answer section)

-- settling leaves a net of the same records
pub section-holds : (grid : List ℕ) (items : List Item) (built new : NetState AnyCtc) (answer : Settled) → IsNetOf grid items built → new.contractors ≡ built.contractors → new.store.shape ≡ built.store.shape
    → IsSectionAs grid items new.store.box answer → IsNetOf grid items new
section-holds grid items built new answer holds contractors shape section = record {
  shape = shape ∙ holds.shape;
  contractors = ap (map stands_for) contractors ∙ holds.contractors;
  below = (section-as-encloses grid items new.store.box answer section).below;
}

-- what building leaves of the box, over the mission's grid
pub built-box : (grid : List ℕ) (items : List Item) (first : ℕ) (more : List Item) (cs : List Constraint) (begun built : NetState AnyCtc) → IsNetOf grid (take first items) begun
    → IsAdded (owners_from (take first items) more) cs begun built → built.store.box ≡ box_more begun.store.box (start_of grid (owners_from (take first items) more))
built-box grid items first more cs begun built holds added =
    added.box ∙ ap (λ (g : List ℕ). box_more begun.store.box (start_of g (owners_from (take first items) more))) (ap (λ (s : Shape). s.grid) holds.shape ∙ shape-grid grid (take first items))

more-empty : (b : Option (List Span)) (more : List Span) → IsNone b → IsNone (box_more b more)
more-empty None more h = refl
more-empty (Some xs) more h = absurd (cc h)

-- an empty box stays empty
pub still-empty : (m : Mission) (first : ℕ) (more : List Item) (cs : List Constraint) (begun built : NetState AnyCtc) → IsNetOf m.cuts (take first m.items) begun
    → IsAdded (owners_from (take first m.items) more) cs begun built → IsNone begun.store.box → IsNone built.store.box
still-empty m first more cs begun built holds added none =
    subst IsNone (sym (built-box m.cuts m.items first more cs begun built holds added)) (more-empty begun.store.box (start_of m.cuts (owners_from (take first m.items) more)) none)

-- with no record
pub enclosure-none : (grid : List ℕ) → IsEnclosure grid [] (Some [])
enclosure-none grid = record { below = IsBelow-refl []; keeps = λ q fix below. below }

pub net-none : (grid : List ℕ) (net : NetState AnyCtc) → net.store.shape ≡ no_shape grid → net.store.box ≡ Some [] → net.contractors ≡ [] → IsNetOf grid [] net
net-none grid net shape box contractors = record {
  shape = shape;
  contractors = ap (map stands_for) contractors;
  below = subst (λ (b : Option (List Span)). IsBelowBox b (Some [])) (sym box) (IsBelow-refl []);
}

-- ---- how large a measure can be

box-small : (box : Option (List Span)) (cells : ℕ) → cells ≤ 2000000 → IfSome box (λ xs. IsBox xs × (length xs ≡ cells)) → IfSome box AreBounded → measure_of box ≤ 2000000000000000
box-small None cells few is bounded = omega arith
box-small (Some xs) cells few is bounded = omega (arith, few, is.1, widths-small xs bounded)

pub measure-small : (s : State) → IsStore s → measure_of s.box ≤ 2000000000000000
measure-small s is = box-small s.box s.shape.cells is.shape.few is.box is.bounded

-- a store's box is one
proper-of : (box : Option (List Span)) (cells : ℕ) → IfSome box (λ xs. IsBox xs × (length xs ≡ cells)) → IfSome box AreBounded → IfSome box (λ xs. IsBox xs × AreBounded xs)
proper-of None cells is bounded = tt
proper-of (Some xs) cells is bounded = (is.0, bounded)

pub store-proper : (s t : State) → t ≡ s → IsStore t → IfSome s.box (λ xs. IsBox xs × AreBounded xs)
store-proper s t same is = subst (λ (u : State). IfSome u.box (λ xs. IsBox xs × AreBounded xs)) same (proper-of t.box t.shape.cells is.box is.bounded)
