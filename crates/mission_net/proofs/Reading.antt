-- Records and further records: shapes, starts, constraints, and how much room they take.
use Rattle.std.proofs.Common.{◌≡◌, ℕ, zero, suc, ◌+◌, ◌-◌, ◌*◌, ◌<◌, ◌≤◌, List, [], ◌∷◌, ◌++◌, arith, refl, sym, ap, subst, ◌∙◌, length, take, get_or, flat_map, length-append, append-nil, append_assoc, map, ap₂, Option, Some, None, slice_index, ℤ, pos, max, zero-add}
use Rattle.std.specs.Prelude.{is_some}
use Rattle.std.proofs.Math.Nat.{mul-le-mul_left}
use Rattle.std.proofs.lemmas.List.FromFn.{length-range_with_len}
use Rattle.std.proofs.Math.ListN.{length-replicate}
use Rattle.std.proofs.lemmas.List.Concat.{flat_map-append}
use Rattle.std.proofs.lemmas.List.{length-map}
use Rattle.std.specs.List.{concat}
use Rattle.std.proofs.lemmas.List.Sums.{sum_by-append, sum_by-cons, sum_by_push}
use Rattle.tube_spec.specs.Span.{Span, point}
use Rattle.tube_spec.specs.Shape.{Shape, IsShape, no_shape, with_signal, with_var}
use Rattle.tube_spec.specs.Owner.{Owner, SignalIn, VariableIn, declared_cells, start_of, with_owners}
use Rattle.tube_spec.proofs.Prefixes.{IsShape-signal, IsShape-var}
use Rattle.tube_spec.proofs.Hulls.{owners-extend}
use Rattle.slice_gates.specs.declared.near.Near.{Near}
use Rattle.expr_values.specs.Expressions.{Comparison, comparison_of}
use Rattle.tube_names.specs.declared.leaves.Leaf.{Leaf}
use Rattle.expr_hc4.specs.declared.places.Place.TheVariants.{Gate, Once}
use Rattle.expr_hc4.specs.Places.{leaf_cell}
use Rattle.tube_names.specs.Leaves.{first_uses}
use Rattle.mission_items.specs.declared.item.Item.{Item}
use Rattle.mission_items.specs.declared.item.Item.TheVariants as item
use Rattle.mission_items.specs.Made.{beacons_in, rate_in, signals_in, ticks_from, variable_range, variables_in}
use Rattle.mission_items.specs.Room.{evaluated, evaluation_foot, feet_from, mark_foot, foot_of, slices_near, touching}
use Rattle.mission_items.specs.Valid.{IsInPlace, IsMark, IsRight, AreRight, AreRightFrom}
use Rattle.ctc_deriv.specs.Bounds.{each_below}
use Rattle.ctc_parts.specs.Parts as parts
use Rattle.ctc_parts.proofs.Members.{single-length}
use Rattle.slice_gates.specs.Near.{near_of, places_of}
use Rattle.ctc_eval.specs.Evals.{cells_near, rate_scope}
use Rattle.ctc_delay.specs.Places.{place_count, signal_cells}
use Rattle.ctc_delay.specs.DelayLaws.{length-each_place}
use Rattle.tube_names.specs.Points.{numbers, cells_of as point_cells}
use Rattle.tube_store.specs.declared.VarId.{VarId}
use Rattle.any_ctc.specs.Constraints.{Constraint, SliceOf, SlicesOf, DerivOf, DerivsOf, BoundOf, EvalOf, DelayToOf, DelayFromOf, DelayShiftOf, DistOf, ConstellOf, ExprOf, constraint_scope, reads_near, rate_reads, reads_of, reads_in}
use Rattle.any_ctc.proofs.Written.{each-reads, each-length}
use Rattle.any_ctc.specs.declared.AnyCtc.{AnyCtc}
use Rattle.any_ctc.specs.Contractors.{constraint_of, any_scope}
use Rattle.ctc_network.specs.Nets.{entries_of, of_place}
use Rattle.mission_net.specs.Building.{stands_for}
use Rattle.mission_net.specs.Records.{owners, owners_from, shape_by, start, marks_in, point_at, formula_at, formula_constraints, ping_constraints, constraints_of, constraints_from, constraints}
use Rattle.mission_net.proofs.Shapes.{owners-append}
use Rattle.mission_net.proofs.Beacons.{concat-points, length-marks_in, mark-at, marks-below}

pub start-append : (grid : List ℕ) (before rs : List Item) → start grid (before ++ rs) ≡ start grid before ++ start_of grid (owners_from before rs)
start-append grid before rs = ap (start_of grid) (owners-append before rs []) ∙ flat_map-append (declared_cells grid) (owners before) (owners_from before rs)

pub constraints-append : (grid : List ℕ) (xs ys before : List Item) → constraints_from grid before (xs ++ ys) ≡ constraints_from grid before xs ++ constraints_from grid (before ++ xs) ys
constraints-append grid [] ys before = ap (λ (l : List Item). constraints_from grid l ys) (sym (append-nil before))
constraints-append grid (r ∷ xs) ys before =
    ap (λ (l : List Constraint). constraints_of grid before r ++ l) (constraints-append grid xs ys (before ++ r ∷ []) ∙ ap (λ (l : List Item). constraints_from grid (before ++ r ∷ []) xs ++ constraints_from grid l ys) (append_assoc before (r ∷ []) xs))
    ∙ sym (append_assoc (constraints_of grid before r) (constraints_from grid (before ++ r ∷ []) xs) (constraints_from grid (before ++ r ∷ xs) ys))

pub constraints-snoc : (grid : List ℕ) (before : List Item) (r : Item) → constraints grid (before ++ r ∷ []) ≡ constraints grid before ++ constraints_of grid before r
constraints-snoc grid before r = constraints-append grid before (r ∷ []) [] ∙ ap (λ (l : List Constraint). constraints grid before ++ l) (append-nil (constraints_of grid before r))

-- what a record says is right, by its place
pub right-at : (version end : ℕ) (xs before : List Item) (i : ℕ) (d : Item) → AreRightFrom version end before xs → i < length xs → IsRight version end (before ++ take i xs) (get_or xs i d)
right-at version end [] before i d right l = absurd (omega (arith, l))
right-at version end (r ∷ xs) before zero d right l = subst (λ (b : List Item). IsRight version end b r) (sym (append-nil before)) right.1
right-at version end (r ∷ xs) before (suc i) d right l =
    subst (λ (b : List Item). IsRight version end b (get_or xs i d)) (append_assoc before (r ∷ []) (take i xs)) (right-at version end xs (before ++ r ∷ []) i d right.2 (omega (arith, l)))

-- the first records are right
pub right-first : (version end : ℕ) (xs ys before : List Item) → AreRightFrom version end before (xs ++ ys) → AreRightFrom version end before xs
right-first version end [] ys before right = tt
right-first version end (r ∷ xs) ys before right = (right.0, right.1, right-first version end xs ys (before ++ r ∷ []) right.2)

-- one more record
right-snoc : (version end : ℕ) (xs before : List Item) (r : Item) → AreRightFrom version end before xs → IsInPlace (before ++ xs) r → IsRight version end (before ++ xs) r → AreRightFrom version end before (xs ++ r ∷ [])
right-snoc version end [] before r past place right = (subst (λ (b : List Item). IsInPlace b r) (append-nil before) place, subst (λ (b : List Item). IsRight version end b r) (append-nil before) right, tt)
right-snoc version end (x ∷ xs) before r past place right = (
  past.0,
  past.1,
  right-snoc version end xs (before ++ x ∷ []) r past.2 (subst (λ (b : List Item). IsInPlace b r) (sym (append_assoc before (x ∷ []) xs)) place)
      (subst (λ (b : List Item). IsRight version end b r) (sym (append_assoc before (x ∷ []) xs)) right),
)

pub right-more : (version end : ℕ) (before : List Item) (r : Item) → AreRight version end before → IsInPlace before r → IsRight version end before r → AreRight version end (before ++ r ∷ [])
right-more version end before r past place right = right-snoc version end before [] r past place right

-- how many cells owners take
cells-after : (os : List Owner) (s : Shape) → (with_owners s os).cells ≡ s.cells + length (flat_map (declared_cells s.grid) os)
cells-after [] s = omega arith
cells-after (SignalIn range ∷ os) s =
    cells-after os (with_signal s) ∙ omega (arith, length-append (declared_cells s.grid (SignalIn range)) (flat_map (declared_cells s.grid) os), length-replicate (2 * length s.grid - 1) range)
cells-after (VariableIn range ∷ os) s = cells-after os (with_var s) ∙ omega arith

pub start-length : (grid : List ℕ) (items : List Item) → length (start grid items) ≡ (shape_by grid items).cells
start-length grid items = sym (cells-after (owners items) (no_shape grid) ∙ omega arith)

shape-more : (os : List Owner) (s : Shape) → IsShape s → (with_owners s os).cells ≤ 2000000 → IsShape (with_owners s os)
shape-more [] s is few = is
shape-more (SignalIn range ∷ os) s is few = shape-more os (with_signal s) (IsShape-signal s is (omega (arith, few, (owners-extend os (with_signal s)).cells))) few
shape-more (VariableIn range ∷ os) s is few = shape-more os (with_var s) (IsShape-var s is (omega (arith, few, (owners-extend os (with_var s)).cells))) few

pub shape-is : (grid : List ℕ) (items : List Item) → IsShape (no_shape grid) → (shape_by grid items).cells ≤ 2000000 → IsShape (shape_by grid items)
shape-is grid items is few = shape-more (owners items) (no_shape grid) is few

-- ---- how many cells constraints read, and how many constraints there are

-- what a record's constraints read is within its foot, and there is at most one more of them
pub record IsSmall (grid : List ℕ) (cs : List Constraint) (foot : ℕ) : Type 0 where
  pub reads : reads_in grid cs ≤ foot
  pub few : length cs ≤ foot + 1

pub small-one : (grid : List ℕ) (c : Constraint) (foot : ℕ) → reads_of grid c ≤ foot → IsSmall grid (c ∷ []) foot
small-one grid c foot h = record { reads = omega (arith, h, sum_by-cons (reads_of grid) c []); few = omega arith }

pub small-both : (grid : List ℕ) (cs ds : List Constraint) (m n : ℕ) → 1 ≤ m → IsSmall grid cs m → IsSmall grid ds n → length cs + length ds ≤ m + n + 1 → IsSmall grid (cs ++ ds) (m + n)
small-both grid cs ds m n some p q few = record { reads = omega (arith, p.reads, q.reads, sum_by-append (reads_of grid) cs ds); few = omega (arith, few, length-append cs ds) }

-- an evaluation reads at most what is counted for its slices
near-few : (n : Option Near) → length (places_of n) ≤ 2 * slices_near n + 1
near-few None = omega arith
near-few (Some n) = omega (arith, length-range_with_len (2 * n.first) (2 * (n.last + 1 - n.first) + 1))

evaluation-few : (grid : List ℕ) (rate : Option ℕ) (declared : Span) → 2 + (reads_near grid declared + rate_reads grid rate declared) ≤ evaluation_foot (is_some rate) (touching grid declared)
evaluation-few grid None declared = omega (arith, near-few (near_of grid declared))
evaluation-few grid (Some rate) declared = omega (arith, near-few (near_of grid declared))

-- a formula at all gates and envelopes
formula-reads : (grid : List ℕ) (ls : List Leaf) (c : Comparison) (n : ℕ) → reads_in grid (each_below (formula_at ls c) n) ≡ length (first_uses ls) * (2 * n)
formula-reads grid ls c zero = omega arith
formula-reads grid ls c (suc n) = sum_by-append (reads_of grid) (each_below (formula_at ls c) n) (formula_at ls c n) ∙ omega (arith, formula-reads grid ls c n)

pub formula-count : (ls : List Leaf) (c : Comparison) (n : ℕ) → length (each_below (formula_at ls c) n) ≡ 2 * n
formula-count ls c zero = refl
formula-count ls c (suc n) = length-append (each_below (formula_at ls c) n) (formula_at ls c n) ∙ omega (arith, formula-count ls c n)

formula-small : (grid : List ℕ) (ls : List Leaf) (c : Comparison) → IsSmall grid (formula_constraints grid ls c) ((2 * (length grid - 1) + 1) * max 1 (length (first_uses ls)))
formula-small grid ls c =
    let n = length grid - 1 in
    let q = length (first_uses ls) in
    let last : Constraint = ExprOf (Gate n) ls c in
    let more : (2 * n + 1) * q ≤ (2 * n + 1) * max 1 q = mul-le-mul_left (2 * n + 1) (omega arith) in
    let some : (2 * n + 1) * 1 ≤ (2 * n + 1) * max 1 q = mul-le-mul_left (2 * n + 1) (omega arith) in record {
      reads = omega (arith, more, sum_by_push (reads_of grid) (each_below (formula_at ls c) n) last, formula-reads grid ls c n);
      few = omega (arith, some, length-append (each_below (formula_at ls c) n) (last ∷ []), formula-count ls c n);
    }

-- a point and the beacons before
constell-few : (before : List Item) (p : List ℕ) → length p ≡ 2 → length p + length (concat (marks_in before)) ≤ 2 + 2 * beacons_in before
constell-few before p size = omega (arith, size, concat-points (variables_in before) (marks_in before) (marks-below before), length-marks_in before)

numbers-length : (vs : List VarId) → length (numbers vs) ≡ length vs
numbers-length vs = length-map vs (λ (v : VarId). v.0)

-- what a ping reads
ping-small : (grid : List ℕ) (before : List Item) (x y first last : ℕ) (near far : ℤ) (beacon : Option ℕ) → IsMark before beacon
    → IsSmall grid (ping_constraints before x y first last near far beacon) (evaluated grid before x (ticks_from first last) + evaluated grid before y (ticks_from first last) + 4 + mark_foot before beacon)
ping-small grid before x y first last near far (Some beacon) mark =
    let at = mark-at before beacon mark in
    let one = evaluation-few grid (rate_in before x) (ticks_from first last) in
    let other = evaluation-few grid (rate_in before y) (ticks_from first last) in record { reads = omega (arith, one, other, at.size); few = omega arith }
ping-small grid before x y first last near far None mark =
    let one = evaluation-few grid (rate_in before x) (ticks_from first last) in
    let other = evaluation-few grid (rate_in before y) (ticks_from first last) in
    let all = constell-few before (point_at (variables_in before + 3)) refl in record { reads = omega (arith, one, other, all); few = omega arith }

record-small : (version end : ℕ) (grid : List ℕ) (before : List Item) (r : Item) → IsRight version end before r → IsSmall grid (constraints_of grid before r) (foot_of grid before r)
record-small version end grid before (item.Signal name range) right =
    let all = each-reads grid (λ i. SliceOf (signals_in before) i) 3 (λ i. refl) (length grid - 1) in
    let count = each-length (λ i. SliceOf (signals_in before) i) (length grid - 1) in record { reads = omega (arith, all); few = omega (arith, count) }
record-small version end grid before (item.Deriv x rate) right =
    let all = each-reads grid (λ i. DerivOf x.0 rate.0 i) 4 (λ i. refl) (length grid - 1) in
    let count = each-length (λ i. DerivOf x.0 rate.0 i) (length grid - 1) in record { reads = omega (arith, all); few = omega (arith, count) }
record-small version end grid before (item.Bound x first last range) right = record { reads = omega arith; few = omega arith }
record-small version end grid before (item.At x tick range) right = small-one grid _ _ (evaluation-few grid (rate_in before x.0) (point (pos tick)))
record-small version end grid before (item.Eval x t z) right = small-one grid _ _ (evaluation-few grid (rate_in before x.0) (variable_range before t.0))
record-small version end grid before (item.Delay x y tau) right = record { reads = omega arith; few = omega arith }
record-small version end grid before (item.Dist2 near far p b) right =
    let one = right.2 in
    let other = right.3 in small-one grid _ _ (omega (arith, one, other, numbers-length p, numbers-length b))
record-small version end grid before (item.Dist3 near far p b) right =
    let one = right.2 in
    let other = right.3 in small-one grid _ _ (omega (arith, one, other, numbers-length p, numbers-length b))
record-small version end grid before (item.Constell p) right = small-one grid _ _ (constell-few before (numbers p) (numbers-length p ∙ right.2))
record-small version end grid before (item.Ping x y first last beacon near far) right = ping-small grid before x.0 y.0 first last near far beacon right.3
record-small version end grid before (item.Each formula ls) right = formula-small grid ls (comparison_of formula)
record-small version end grid before (item.Single formula ls) right = small-one grid (ExprOf Once ls (comparison_of formula)) (max 1 (length (first_uses ls))) (omega arith)
record-small version end grid before r right = record { reads = omega arith; few = omega arith }

-- the same of any number of records
pub records-reads : (version end : ℕ) (grid : List ℕ) (rs before : List Item) → AreRightFrom version end before rs → reads_in grid (constraints_from grid before rs) ≤ feet_from grid before rs
records-reads version end grid [] before right = omega arith
records-reads version end grid (r ∷ rs) before right =
    let one = record-small version end grid before r right.1 in
    let rest = records-reads version end grid rs (before ++ r ∷ []) right.2 in
    omega (arith, one.reads, rest, sum_by-append (reads_of grid) (constraints_of grid before r) (constraints_from grid (before ++ r ∷ []) rs))

pub records-count : (version end : ℕ) (grid : List ℕ) (rs before : List Item) → AreRightFrom version end before rs → length (constraints_from grid before rs) ≤ feet_from grid before rs + length rs
records-count version end grid [] before right = omega arith
records-count version end grid (r ∷ rs) before right =
    let one = record-small version end grid before r right.1 in
    let rest = records-count version end grid rs (before ++ r ∷ []) right.2 in
    omega (arith, one.few, rest, length-append (constraints_of grid before r) (constraints_from grid (before ++ r ∷ []) rs))

-- ---- what a constraint reads

near-length : (s : Shape) (declared : Span) (x : ℕ) → length (cells_near s declared x) ≡ reads_near s.grid declared
near-length s declared x = length-map (places_of (near_of s.grid declared)) (λ (place : ℕ). slice_index s.signals x + place)

rate-length : (s : Shape) (rate : Option ℕ) (declared : Span) → length (rate_scope s rate declared) ≡ rate_reads s.grid rate declared
rate-length s None declared = refl
rate-length s (Some rate) declared = near-length s declared rate

signal-length : (grid : List ℕ) (first : ℕ) → length (signal_cells grid first) ≡ place_count grid
signal-length grid first = length-each_place grid (λ (place : ℕ). first + place)

concat-length : (s : Shape) (marks : List (List ℕ)) → length (concat (map (point_cells s) marks)) ≡ length (concat marks)
concat-length s [] = refl
concat-length s (m ∷ ms) =
    length-append (point_cells s m) (concat (map (point_cells s) ms)) ∙ ap₂ (λ (a b : ℕ). a + b) (length-map m (slice_index s.vars)) (concat-length s ms) ∙ sym (length-append m (concat ms))

pub scope-length : (s : Shape) (c : Constraint) → length (constraint_scope s c) ≡ reads_of s.grid c
scope-length s (SliceOf signal i) = refl
scope-length s (SlicesOf signal) = single-length (λ k. slice_index s.signals signal + k) (2 * length s.grid - 1)
scope-length s (DerivOf x rate i) = refl
scope-length s (DerivsOf x rate) =
    let own = parts.each_below (λ k. (slice_index s.signals x + 2 * k) ∷ []) (length s.grid) in
    let rates = parts.each_below (λ k. (slice_index s.signals rate + 1 + k) ∷ []) (2 * (length s.grid - 1)) in
    omega (arith, length-append own rates, single-length (λ k. slice_index s.signals x + 2 * k) (length s.grid), single-length (λ k. slice_index s.signals rate + 1 + k) (2 * (length s.grid - 1)))
scope-length s (BoundOf x first last range) = refl
scope-length s (EvalOf x rate t z declared) = omega (arith, length-append (cells_near s declared x) (rate_scope s rate declared), near-length s declared x, rate-length s rate declared)
scope-length s (DelayToOf x y tau) =
    let cells = signal_cells s.grid (slice_index s.signals x) in
    omega (arith, length-append cells (slice_index s.vars tau ∷ []), signal-length s.grid (slice_index s.signals x))
scope-length s (DelayFromOf x y tau) =
    let cells = signal_cells s.grid (slice_index s.signals y) in
    omega (arith, length-append cells (slice_index s.vars tau ∷ []), signal-length s.grid (slice_index s.signals y))
scope-length s (DelayShiftOf x y tau) =
    let one = signal_cells s.grid (slice_index s.signals x) in
    let other = signal_cells s.grid (slice_index s.signals y) in
    let rest : List ℕ = other ++ slice_index s.vars tau ∷ [] in
    omega (
      arith,
      length-append one rest,
      length-append other (slice_index s.vars tau ∷ []),
      signal-length s.grid (slice_index s.signals x),
      signal-length s.grid (slice_index s.signals y),
    )
scope-length s (DistOf p b near far) =
    omega (arith, length-append (point_cells s p) (point_cells s b), length-map p (slice_index s.vars), length-map b (slice_index s.vars))
scope-length s (ExprOf place leaves comparison) = length-map (first_uses leaves) (leaf_cell s place)
scope-length s (ConstellOf p marks) =
    omega (arith, length-append (point_cells s p) (concat (map (point_cells s) marks)), length-map p (slice_index s.vars), concat-length s marks)

-- what a net's contractors read, by their constraints
pub net-reads : (s : Shape) (cs : List (Option AnyCtc)) → entries_of (of_place any_scope) s cs ≡ reads_in s.grid (flat_map stands_for cs)
net-reads s [] = refl
net-reads s (None ∷ cs) = sum_by-cons (λ (x : Option AnyCtc). length (of_place any_scope x s)) None cs ∙ (zero-add (entries_of (of_place any_scope) s cs) ∙ net-reads s cs)
net-reads s (Some c ∷ cs) =
    sum_by-cons (λ (x : Option AnyCtc). length (of_place any_scope x s)) (Some c) cs ∙ ap₂ (λ (m n : ℕ). m + n) (scope-length s (constraint_of c)) (net-reads s cs) ∙ sym (sum_by-cons (reads_of s.grid) (constraint_of c) (flat_map stands_for cs))
