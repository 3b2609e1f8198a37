-- What building records leaves.
use Rattle.std.proofs.Common.{◌≡◌, ℕ, ◌+◌, ◌<◌, ◌≤◌, Option, Some, None, List, [], ◌∷◌, ◌++◌, All, arith, refl, sym, ap, subst, ◌∙◌, length, take, drop, get_or, length-append, append-nil, append_assoc, add-zero, length-take-le, slice_index}
use Rattle.std.proofs.lemmas.List.{drop-take, drop-append-le, map-append, take-append-drop, take-take, take_more}
use Rattle.std.proofs.lemmas.List.Sums.{sum_by-append}
use Rattle.tube_spec.specs.Span.{Span, IsBounded}
use Rattle.tube_spec.specs.Grid.{IsGrid, last_tick}
use Rattle.tube_spec.specs.Shape.{Shape, Extends, no_shape}
use Rattle.tube_spec.specs.Box.{IsBelow, IsBelowBox, box_more}
use Rattle.tube_spec.specs.Assignment.{Assignment}
use Rattle.tube_spec.specs.Owner.{Owner, with_owner, with_owners, start_of, owner_hull, owners_hull, hull_box}
use Rattle.tube_spec.proofs.Hulls.{owners-below, owners-extend, IsBelow-both}
use Rattle.tube_spec.proofs.Ticks.{last-greatest}
use Rattle.ctc_network.specs.Nets.{NetState}
use Rattle.mission_items.specs.declared.item.Item.{Item}
use Rattle.mission_items.specs.declared.item.Item.TheVariants as item
use Rattle.mission_items.specs.declared.mission.Mission.{Mission}
use Rattle.mission_items.specs.Made.{ranges_made, signal_made, signals_in, signals_made, variables_in, variables_made}
use Rattle.mission_items.specs.Valid.{AreRight, IsMission, IsRange, IsRight}
use Rattle.mission_items.proofs.Making.{signals-append, signals-last, variables-append, variables-last}
use Rattle.mission_items.proofs.Ranges.{beacons-right, made-ranges, signal-range, signals-right}
use Rattle.mission_items.proofs.Standing.{named-below}
use Rattle.any_ctc.specs.Constraints.{Constraint, reads_of, reads_in, IsOf}
use Rattle.mission_net.specs.Records.{made, owners, owners_from, shape_by, start, contracts_of, contracts_from, contracts, SatisfiesFrom, SatisfiesAll}
use Rattle.mission_net.specs.Tables.{IsTableOf, IsTaken, Table}
use Rattle.any_ctc.specs.declared.AnyCtc.{AnyCtc}
use Rattle.mission_net.specs.Building.{CanBuild, HasBeacon, IsAdded, IsBindable, IsNetOf, IsTimed, constraints_in, each_alone}
use Rattle.mission_net.proofs.Numbers.{net-contracts, net-count}
use Rattle.mission_net.proofs.Shapes.{owners-append, shape-snoc, shape-grid, shape-extends}
use Rattle.mission_net.proofs.Counts.{cells-count, signals-count, variables-count, signals-made, variables-made}
use Rattle.mission_net.proofs.Holding.{satisfies-in-range}
use Rattle.mission_net.proofs.Fitting.{formula-count, contract-of}
use Rattle.mission_net.proofs.Contracts.{contracts-append, contracts-snoc, contract-reads, contract-count}
use Rattle.mission_net.proofs.Reading.{start-append, records-reads, records-count, right-at, right-first}
use Rattle.mission_net.proofs.Enclosing.{AreSound}
use Rattle.mission_net.proofs.Additions.{added-none, added-then, more-low}

-- ---- the net of the records so far, and what was added to it

pub added-holds : (grid : List ℕ) (before : List Item) (r : Item) (old new : NetState AnyCtc) → IsNetOf grid before old → IsAdded (made before r) (contracts_of grid before r) old new → IsNetOf grid (before ++ r ∷ []) new
added-holds grid before r old new holds added =
    let same : old.store.shape.grid ≡ grid = ap (λ (s : Shape). s.grid) holds.shape ∙ shape-grid grid before in
    let box : new.store.box ≡ box_more old.store.box (start_of grid (made before r)) = added.box ∙ ap (λ (g : List ℕ). box_more old.store.box (start_of g (made before r))) same in
    let starts : start grid (before ++ r ∷ []) ≡ start grid before ++ start_of grid (made before r) = start-append grid before (r ∷ []) ∙ ap (λ (os : List Owner). start grid before ++ start_of grid os) (append-nil (made before r)) in record {
      shape = added.shape ∙ ap (λ (s : Shape). with_owners s (made before r)) holds.shape ∙ sym (shape-snoc grid before r);
      contractors = added.contractors ∙ ap (λ (xs : List (List Constraint)). xs ++ each_alone (contracts_of grid before r)) holds.contractors ∙ sym (map-append (λ (c : Constraint). c ∷ []) (contracts grid before) (contracts_of grid before r))
          ∙ ap each_alone (sym (contracts-snoc grid before r));
      below = subst (λ (b : Option (List Span)). IsBelowBox b (Some (start grid (before ++ r ∷ [])))) (sym box)
          (subst (λ (d : List Span). IsBelowBox (box_more old.store.box (start_of grid (made before r))) (Some d)) (sym starts) (more-low old.store.box (start grid before) (start_of grid (made before r)) holds.below));
    }

pub record IsBuiltTo (grid : List ℕ) (items : List Item) (first i : ℕ) (begun net : NetState AnyCtc) (table : Table) : Type 0 where
  pub known : IsTableOf table (take i items)
  pub holds : IsNetOf grid (take i items) net
  pub added : IsAdded (owners_from (take first items) (drop first (take i items))) (contracts_from grid (take first items) (drop first (take i items))) begun net

pub built-none : (grid : List ℕ) (items : List Item) (first : ℕ) (net : NetState AnyCtc) (table : Table) → IsTableOf table (take first items) → IsNetOf grid (take first items) net → IsBuiltTo grid items first first net net table
built-none grid items first net table known holds =
    let none : drop first (take first items) ≡ [] = ap (λ (n : ℕ). drop first (take n items)) (sym (add-zero first)) ∙ drop-take first 0 items in record {
      known = known;
      holds = holds;
      added = subst (λ (l : List Item). IsAdded (owners_from (take first items) l) (contracts_from grid (take first items) l) net net) (sym none)
          (added-none net);
    }

pub first-part : (first i : ℕ) (items : List Item) → first ≤ i → i ≤ length items → take first items ++ drop first (take i items) ≡ take i items
first-part first i items order inside = ap (λ (l : List Item). l ++ drop first (take i items)) (sym (take-take first i items order)) ∙ take-append-drop first (take i items)

pub built-more : (grid : List ℕ) (items : List Item) (first i : ℕ) (x : Item) (begun old new : NetState AnyCtc) (was table : Table) → first ≤ i → i < length items → take (i + 1) items ≡ take i items ++ x ∷ [] → IsBuiltTo grid items first i begun old was → IsTableOf table (take i items ++ x ∷ [])
    → IsAdded (made (take i items) x) (contracts_of old.store.shape.grid (take i items) x) old new → IsBuiltTo grid items first (i + 1) begun new table
built-more grid items first i x begun old new was table order inside longer built known added =
    let same : old.store.shape.grid ≡ grid = ap (λ (s : Shape). s.grid) built.holds.shape ∙ shape-grid grid (take i items) in
    let here : IsAdded (made (take i items) x) (contracts_of grid (take i items) x) old new = subst (λ (g : List ℕ). IsAdded (made (take i items) x) (contracts_of g (take i items) x) old new) same added in
    let from = take first items in
    let some = drop first (take i items) in
    let part : drop first (take (i + 1) items) ≡ some ++ x ∷ [] = ap (drop first) longer ∙ drop-append-le first (take i items) (x ∷ []) (omega (arith, order, length-take-le i items (omega (arith, inside)))) in
    let before : from ++ some ≡ take i items = first-part first i items order (omega (arith, inside)) in
    let cs : contracts_from grid from (some ++ x ∷ []) ≡ contracts_from grid from some ++ contracts_of grid (take i items) x =
    contracts-append grid some (x ∷ []) from ∙ ap (λ (l : List Constraint). contracts_from grid from some ++ l)
    (append-nil (contracts_of grid (from ++ some) x) ∙ ap (λ (l : List Item). contracts_of grid l x) before) in
    let os : owners_from from (some ++ x ∷ []) ≡ owners_from from some ++ made (take i items) x =
    owners-append some (x ∷ []) from ∙ ap (λ (l : List Owner). owners_from from some ++ l) (append-nil (made (from ++ some) x) ∙ ap (λ (l : List Item). made l x) before) in record {
      known = subst (IsTableOf table) (sym longer) known;
      holds = subst (λ (l : List Item). IsNetOf grid l new) (sym longer) (added-holds grid (take i items) x old new built.holds here);
      added = subst (λ (l : List Item). IsAdded (owners_from from l) (contracts_from grid from l) begun new) (sym part)
          (subst (λ (l : List Owner). IsAdded l (contracts_from grid from (some ++ x ∷ [])) begun new) (sym os)
          (subst (λ (l : List Constraint). IsAdded (owners_from from some ++ made (take i items) x) l begun new) (sym cs)
          (added-then (owners_from from some) (made (take i items) x) (contracts_from grid from some) (contracts_of grid (take i items) x) begun old new built.added here)));
    }

-- ---- the room that the next record asks of the net

-- what right records take, bind and time
pub taken : (version end : ℕ) (before : List Item) (r : Item) → signals_in before ≤ 64 → IsRight version end before r → IsTaken before r
taken version end before (item.Deriv x rate) few right = let some = right.0 in omega (arith, some, few)
taken version end before (item.Ping x y first last beacon near far) few right = (right.0.0, right.0.1, right.1.0, right.3)
taken version end before r few right = tt

bindable : (version end : ℕ) (before : List Item) (r : Item) → IsRight version end before r → IsBindable r
bindable version end before (item.Each formula ls) right = (right.printable.nodes, formula-count before formula ls right)
bindable version end before (item.Single formula ls) right = (right.0.printable.nodes, formula-count before formula ls right.0)
bindable version end before r right = tt

marked : (version end : ℕ) (before : List Item) (r : Item) → IsRight version end before r → HasBeacon before r
marked version end before (item.Ping x y first last beacon near far) right = right.3
marked version end before r right = tt

timed : (version end : ℕ) (before : List Item) (r : Item) → IsRight version end before r → IsTimed before r
timed version end before (item.Eval x t z) right = named-below before t (right.1.0 0 t (omega arith))
timed version end before r right = tt

pub All-bounded : (xs : List Span) → All IsRange xs → All (IsBounded 500000000) xs
All-bounded xs all k d l = (all k d l).1

-- the first records of a mission are sound
pub first-right : (m : Mission) → IsMission m → (last : ℕ) → AreRight m.version m.ticks (take last m.items)
first-right m is last = right-first m.version m.ticks (take last m.items) (drop last m.items) [] (subst (AreRight m.version m.ticks) (sym (take-append-drop last m.items)) is.right)

pub first-variables : (m : Mission) → IsMission m → (last : ℕ) → variables_in (take last m.items) ≤ 200000
first-variables m is last = omega (arith, is.few.variables, variables-append (take last m.items) (drop last m.items), ap variables_in (take-append-drop last m.items))

pub first-signals : (m : Mission) → IsMission m → (last : ℕ) → signals_in (take last m.items) ≤ 64
first-signals m is last = omega (arith, is.few.signals, signals-append (take last m.items) (drop last m.items), ap signals_in (take-append-drop last m.items))

pub first-sound : (m : Mission) → IsMission m → (last : ℕ) → AreSound m.version (last_tick m.cuts) (take last m.items)
first-sound m is last = record {
  right = subst (λ (end : ℕ). AreRight m.version end (take last m.items)) (sym is.clock.ends) (first-right m is last);
  few = first-variables m is last;
}

-- the next record is right, and taken from the table
module _ (m : Mission) (is : IsMission m) (i : ℕ) (x : Item) (items : List Item) (same : items ≡ m.items) (at : x ≡ get_or items i x) (inside : i < length m.items) where
  pub next-longer : take (i + 1) m.items ≡ take i m.items ++ x ∷ []
  next-longer = take_more m.items i x inside ∙ ap (λ (r : Item). take i m.items ++ r ∷ []) (sym (at ∙ ap (λ (l : List Item). get_or l i x) same))

  pub next-right : IsRight m.version m.ticks (take i m.items) x
  next-right = subst (IsRight m.version m.ticks (take i m.items)) (sym (at ∙ ap (λ (l : List Item). get_or l i x) same)) (right-at m.version m.ticks m.items [] i x is.right inside)

  pub next-taken : IsTaken (take i items) x
  next-taken = subst (λ (l : List Item). IsTaken (take i l) x) (sym same) (taken m.version m.ticks (take i m.items) x (first-signals m is i) next-right)

module _ (m : Mission) (is : IsMission m) (i : ℕ) (x : Item) (net : NetState AnyCtc) (longer : take (i + 1) m.items ≡ take i m.items ++ x ∷ []) (right : IsRight m.version m.ticks (take i m.items) x) (holds : IsNetOf m.cuts (take i m.items) net) where
  all-cells : (shape_by m.cuts m.items).cells ≤ 2000000
  all-cells = let e = cells-count m.cuts m.items (omega (arith, is.clock.grid.slices)) in omega (arith, e, is.few.cells)

  pub next-cells : (with_owners net.store.shape (made (take i m.items) x)).cells ≤ 2000000
  next-cells =
      let grows : Extends (shape_by m.cuts (take (i + 1) m.items)) (shape_by m.cuts m.items) =
      subst (λ (l : List Item). Extends (shape_by m.cuts (take (i + 1) m.items)) (shape_by m.cuts l)) (take-append-drop (i + 1) m.items) (shape-extends m.cuts (take (i + 1) m.items) (drop (i + 1) m.items)) in
      let here : shape_by m.cuts (take (i + 1) m.items) ≡ with_owners net.store.shape (made (take i m.items) x) =
      ap (shape_by m.cuts) longer ∙ shape-snoc m.cuts (take i m.items) x ∙ ap (λ (s : Shape). with_owners s (made (take i m.items) x)) (sym holds.shape) in
      omega (arith, all-cells, grows.cells, ap (λ (s : Shape). s.cells) here)

  -- the constraints so far and those of the record, among all
  so-far : constraints_in net ++ contracts_of m.cuts (take i m.items) x ++ contracts_from m.cuts (take (i + 1) m.items) (drop (i + 1) m.items) ≡ contracts m.cuts m.items
  so-far =
      ap (λ (l : List Constraint). l ++ contracts_from m.cuts (take (i + 1) m.items) (drop (i + 1) m.items))
      (ap (λ (xs : List Constraint). xs ++ contracts_of m.cuts (take i m.items) x) (net-contracts m.cuts (take i m.items) net holds) ∙ sym (contracts-snoc m.cuts (take i m.items) x) ∙ ap (contracts m.cuts) (sym longer))
      ∙ sym (contracts-append m.cuts (take (i + 1) m.items) (drop (i + 1) m.items) []) ∙ ap (contracts m.cuts) (take-append-drop (i + 1) m.items)

  grid : net.store.shape.grid ≡ m.cuts
  grid = ap (λ (s : Shape). s.grid) holds.shape ∙ shape-grid m.cuts (take i m.items)

  few : length net.contractors + length (contracts_of m.cuts (take i m.items) x) ≤ 4000000000
  few =
      let all = records-count m.version m.ticks m.cuts m.items [] is.right in
      omega (
        arith,
        all,
        contract-count m.cuts m.items [] (omega (arith, is.clock.grid.slices)),
        is.few.feet,
        is.few.records,
        ap length so-far,
        length-append (constraints_in net ++ contracts_of m.cuts (take i m.items) x) (contracts_from m.cuts (take (i + 1) m.items) (drop (i + 1) m.items)),
        length-append (constraints_in net) (contracts_of m.cuts (take i m.items) x),
        ap length (net-contracts m.cuts (take i m.items) net holds),
        net-count m.cuts (take i m.items) net holds,
      )

  room : reads_in m.cuts (constraints_in net) + reads_in m.cuts (contracts_of m.cuts (take i m.items) x) ≤ 20000000
  room =
      let all = records-reads m.version m.ticks m.cuts m.items [] is.right in
      omega (
        arith,
        all,
        contract-reads m.cuts m.items [] (omega (arith, is.clock.grid.slices)),
        is.few.feet,
        ap (reads_in m.cuts) so-far,
        sum_by-append (reads_of m.cuts) (constraints_in net ++ contracts_of m.cuts (take i m.items) x) (contracts_from m.cuts (take (i + 1) m.items) (drop (i + 1) m.items)),
        sum_by-append (reads_of m.cuts) (constraints_in net) (contracts_of m.cuts (take i m.items) x),
      )

  signals-so-far : length net.store.shape.signals ≡ signals_in (take i m.items)
  signals-so-far = ap (λ (s : Shape). length s.signals) holds.shape ∙ signals-count m.cuts (take i m.items)

  variables-so-far : length net.store.shape.vars ≡ variables_in (take i m.items)
  variables-so-far = ap (λ (s : Shape). length s.vars) holds.shape ∙ variables-count m.cuts (take i m.items)

  few-signals : signals_in (take i m.items) + signals_made x ≤ 64
  few-signals = omega (arith, first-signals m is (i + 1), ap signals_in longer, signals-last (take i m.items) x)

  few-variables : variables_in (take i m.items) + variables_made x ≤ 200000
  few-variables = omega (arith, first-variables m is (i + 1), ap variables_in longer, variables-last (take i m.items) x)

  -- the record's constraints are of the shape with its cells
  all-of : All (IsOf (with_owners net.store.shape (made (take i m.items) x))) (contracts_of m.cuts (take i m.items) x)
  all-of =
      let s = net.store.shape in
      let t = with_owners s (made (take i m.items) x) in
      let same : t.grid ≡ m.cuts = (owners-extend (made (take i m.items) x) s).grid ∙ grid in
      contract-of m.version m.ticks m.cuts t (subst IsGrid (sym same) is.clock.grid) same (take i m.items) (first-right m is i) (first-variables m is i) x
      (omega (arith, signals-made (take i m.items) x s, signals-so-far)) (omega (arith, variables-made (take i m.items) x s, variables-so-far)) right

  pub next-can : CanBuild (take i m.items) x net
  next-can =
      let past = first-right m is i in record {
        signals = All-bounded (signal_made x) (signal-range m.version m.ticks is.clock.few_ticks (take i m.items) x right);
        variables = All-bounded (ranges_made (take i m.items) x)
            (made-ranges m.version m.ticks is.clock.few_ticks (take i m.items) x (signals-right m.version m.ticks is.clock.few_ticks (take i m.items) past) (beacons-right m.version m.ticks is.clock.few_ticks (take i m.items) past) right);
        cells = next-cells;
        of = subst (λ (g : List ℕ). All (IsOf (with_owners net.store.shape (made (take i m.items) x))) (contracts_of g (take i m.items) x)) (sym grid) all-of;
        few = subst (λ (g : List ℕ). length net.contractors + length (contracts_of g (take i m.items) x) ≤ 4000000000) (sym grid) few;
        reads = subst (λ (g : List ℕ). reads_in g (constraints_in net) + reads_in g (contracts_of g (take i m.items) x) ≤ 20000000) (sym grid) room;
        taken = taken m.version m.ticks (take i m.items) x (first-signals m is i) right;
        bindable = bindable m.version m.ticks (take i m.items) x right;
        beacon = marked m.version m.ticks (take i m.items) x right;
        timed = timed m.version m.ticks (take i m.items) x right;
        signals_so_far = signals-so-far;
        variables_so_far = variables-so-far;
        few_signals = few-signals;
        few_variables = few-variables;
      }

-- ---- what satisfies the records and lay in the box before lies in the box

owners_hull-append : (xs ys : List Owner) (s : Shape) (a : Assignment) → owners_hull s a (xs ++ ys) ≡ owners_hull s a xs ++ owners_hull (with_owners s xs) a ys
owners_hull-append [] ys s a = refl
owners_hull-append (o ∷ xs) ys s a =
    ap (λ (l : List Span). owner_hull s a o ++ l) (owners_hull-append xs ys (with_owner s o) a) ∙ sym (append_assoc (owner_hull s a o) (owners_hull (with_owner s o) a xs) (owners_hull (with_owners (with_owner s o) xs) a ys))

more-below : (b : Option (List Span)) (q qs more : List Span) → IsBelowBox (Some q) b → IsBelow qs more → IsBelowBox (Some (q ++ qs)) (box_more b more)
more-below None q qs more p r = absurd p
more-below (Some xs) q qs more p r = IsBelow-both q xs qs more p r

satisfies-split : (end : ℕ) (a : Assignment) (xs ys before : List Item) → SatisfiesFrom end a before (xs ++ ys) → SatisfiesFrom end a (before ++ xs) ys
satisfies-split end a [] ys before h = subst (λ (b : List Item). SatisfiesFrom end a b ys) (sym (append-nil before)) h
satisfies-split end a (r ∷ xs) ys before h = subst (λ (b : List Item). SatisfiesFrom end a b ys) (append_assoc before (r ∷ []) xs) (satisfies-split end a xs ys (before ++ r ∷ []) h.1)

pub built-encloses : (grid : List ℕ) (xs ys : List Item) (a : Assignment) (old new : Option (List Span)) → IsGrid grid → new ≡ box_more old (start_of grid (owners_from xs ys)) → SatisfiesAll grid a (xs ++ ys)
    → IsBelowBox (Some (hull_box grid (owners xs) a)) old → IsBelowBox (Some (hull_box grid (owners (xs ++ ys)) a)) new
built-encloses grid xs ys a old new is e says low =
    let t = shape_by grid xs in
    let same = shape-grid grid xs in
    let upto : (i : ℕ) → i < length t.grid → slice_index t.grid i ≤ last_tick grid =
    subst (λ (g : List ℕ). (i : ℕ) → i < length g → slice_index g i ≤ last_tick grid) (sym same) (last-greatest grid is.rising) in
    let rest = satisfies-split (last_tick grid) a xs ys [] says in
    let further : IsBelow (owners_hull t a (owners_from xs ys)) (start_of grid (owners_from xs ys)) =
    subst (λ (g : List ℕ). IsBelow (owners_hull t a (owners_from xs ys)) (start_of g (owners_from xs ys))) same
    (owners-below (last_tick grid) (owners_from xs ys) t a upto (satisfies-in-range (last_tick grid) grid a ys xs rest)) in
    let split : hull_box grid (owners (xs ++ ys)) a ≡ hull_box grid (owners xs) a ++ owners_hull t a (owners_from xs ys) =
    ap (λ (os : List Owner). hull_box grid os a) (owners-append xs ys []) ∙ owners_hull-append (owners xs) (owners_from xs ys) (no_shape grid) a in
    subst (λ (q : List Span). IsBelowBox (Some q) new) (sym split)
    (subst (λ (b : Option (List Span)). IsBelowBox (Some (hull_box grid (owners xs) a ++ owners_hull t a (owners_from xs ys))) b) (sym e)
    (more-below old (hull_box grid (owners xs) a) (owners_hull t a (owners_from xs ys)) (start_of grid (owners_from xs ys)) low further))
