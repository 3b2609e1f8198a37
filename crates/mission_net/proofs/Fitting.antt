-- The constraints of right records are of the shape of all records, and each formula's is that of its relation.
use Rattle.std.proofs.Common.{◌≡◌, ℕ, suc, ◌+◌, ◌-◌, ◌*◌, ◌<◌, ◌≤◌, ◌&&◌, ◌==◌, Bool, true, false, cond, List, [], ◌∷◌, ◌++◌, Option, Some, None, ℤ, arith, refl, sym, ap, ap₂, subst, ◌∙◌, length, All, length-append, append_assoc}
use Rattle.std.specs.Prelude.{slice_index_or, IfSome}
use Rattle.std.specs.List.{list_all}
use Rattle.std.proofs.lemmas.List.{length-map}
use Rattle.std.proofs.lemmas.List.Elements.{All-from_recursion, All-append, All-nil, All-cons}
use Rattle.std.proofs.lemmas.List.Sums.{sum_by-cons}
use Rattle.tube_spec.specs.Grid.{IsGrid}
use Rattle.tube_spec.specs.Span.{point}
use Rattle.tube_spec.specs.Shape.{Shape}
use Rattle.tube_store.specs.declared.VarId.{VarId}
use Rattle.ctc_deriv.specs.Bounds.{each_below}
use Rattle.ctc_deriv.specs.BoundLaws.{All-each_below}
use Rattle.ctc_eval.specs.Evals.{EvalFits}
use Rattle.ctc_delay.specs.Delays.{DelayFits}
use Rattle.tube_names.specs.Points.{numbers}
use Rattle.ctc_dist.specs.Distances.{DistFits}
use Rattle.ctc_constell.specs.Constellations.{ConstellFits}
use Rattle.expr_tree.specs.Trees.{Tree, Number, Named, Apply, Join, Relation}
use Rattle.expr_tree.specs.Measures.{names, relation_names}
use Rattle.expr_values.specs.Expressions.{Comparison, comparison_of, leaves, relation_leaves}
use Rattle.expr_hc4.specs.Places.{LeafFits, ExprFits}
use Rattle.tube_names.specs.declared.leaves.Leaf.{Leaf}
use Rattle.tube_names.specs.declared.leaves.Leaf.TheVariants.{Sig, Var}
use Rattle.expr_hc4.specs.declared.places.Place.TheVariants.{Gate, Envelope, Once}
use Rattle.mission_items.specs.declared.item.Item.{Item}
use Rattle.mission_items.specs.declared.item.Item.TheVariants as item
use Rattle.mission_items.specs.Made.{beacons_in, beacons_made, rate_in, signals_in, signals_made, ticks_from, variables_in, variables_made}
use Rattle.mission_items.specs.Names.{leaf_at, IsNamed}
use Rattle.mission_items.specs.Valid.{is_variable, AreRadii, AreRight, AreRightFrom, AreVariables, IsFormula, IsMark, IsRight}
use Rattle.mission_items.proofs.Making.{signals-append}
use Rattle.mission_items.proofs.Standing.{leaves-found, named-below, IsLeafIn}
use Rattle.any_ctc.specs.Constraints.{Constraint, SliceOf, SlicesOf, DerivOf, DerivsOf, BoundOf, DelayToOf, DelayFromOf, DelayShiftOf, DistOf, ConstellOf, ExprOf, IsOf}
use Rattle.mission_net.specs.Records.{constraints_of, contracts_of, evaluation, formula_at, formula_constraints, mark_constraints, marks_in, ping_constraints, point_at, target_of}
use Rattle.any_ctc.proofs.Stable.{IsFormulaOf, IsWritten}
use Rattle.mission_net.proofs.Beacons.{length-marks_in, mark-at, marks-below, point-below, IsPointBelow}

pub All-one : {X : Type 0} (P : X → Type 0) (x : X) → P x → All P (x ∷ [])
All-one P x h = All-from_recursion P (x ∷ []) (h, tt)

-- ---- what right records name is among those before

-- beacons make two variables each
beacons-few : (items : List Item) → 2 * beacons_in items ≤ variables_in items
beacons-few [] = omega arith
beacons-few (r ∷ items) = omega (arith, beacons-few items, one r, sum_by-cons beacons_made r items, sum_by-cons variables_made r items) where
  one : (r : Item) → 2 * beacons_made r ≤ variables_made r
  one (item.Beacon name x y) = omega arith
  one r = omega arith

-- a rate is a signal
rate-choice : (x y rate v : ℕ) (more : Option ℕ) (n : ℕ) → rate < n → (more ≡ Some v → v < n) → cond (x == y) (Some rate) more ≡ Some v → v < n
rate-choice x y rate v more n here rest = elim (x == y) as (λ t. cond t (Some rate) more ≡ Some v → v < n) [
  | true ↦ λ e. let same : rate ≡ v = cc e in omega (arith, here, same)
  | false ↦ rest
]

rate-among : (version end : ℕ) (items before : List Item) (x v : ℕ) → AreRightFrom version end before items → rate_in items x ≡ Some v → v < signals_in (before ++ items)
rate-among version end [] before x v right e = cc e
rate-among version end (item.Deriv y rate ∷ items) before x v right e =
    let r = item.Deriv y rate in
    let inside = right.1.1 in
    rate-choice x y.0 rate.0 v (rate_in items x) (signals_in (before ++ r ∷ items)) (omega (arith, inside, signals-append before (r ∷ items)))
    (λ found. subst (λ (l : List Item). v < signals_in l) (append_assoc before (r ∷ []) items) (rate-among version end items (before ++ r ∷ []) x v right.2 found)) e
rate-among version end (r ∷ items) before x v right e = subst (λ (l : List Item). v < signals_in l) (append_assoc before (r ∷ []) items) (rate-among version end items (before ++ r ∷ []) x v right.2 e)

rate-below : (version end : ℕ) (items : List Item) (x n : ℕ) (o : Option ℕ) → AreRight version end items → signals_in items ≤ n → rate_in items x ≡ o → IfSome o (λ v. v < n)
rate-below version end items x n None right few e = tt
rate-below version end items x n (Some v) right few e = let inside = rate-among version end items [] x v right e in omega (arith, inside, few)

-- the numbers of named variables
numbers-below : (before : List Item) (vs : List VarId) (n : ℕ) → variables_in before ≤ n → All (IsNamed before) vs → All (λ v. v < n) (numbers vs)
numbers-below before [] n few all = All-nil (λ v. v < n)
numbers-below before (v ∷ vs) n few all =
    All-cons (λ v. v < n) v.0 (numbers vs) (let l = named-below before v (all 0 v (omega arith)) in omega (arith, l, few)) (numbers-below before vs n few (λ k d l. all (suc k) d (omega (arith, l))))

All-first : {X : Type 0} (P : X → Type 0) (xs ys : List X) → All P (xs ++ ys) → All P xs
All-first P [] ys all = All-nil P
All-first P (x ∷ xs) ys all = All-cons P x xs (all 0 x (omega arith)) (All-first P xs ys (λ k d l. all (suc k) d (omega (arith, l))))

All-last : {X : Type 0} (P : X → Type 0) (xs ys : List X) → All P (xs ++ ys) → All P ys
All-last P [] ys all = all
All-last P (x ∷ xs) ys all = All-last P xs ys (λ k d l. all (suc k) d (omega (arith, l)))

numbers-length : (vs : List VarId) → length (numbers vs) ≡ length vs
numbers-length vs = length-map vs (λ (v : VarId). v.0)

-- how many variables a ping makes
abbrev pinged : Option ℕ → ℕ
pinged (Some beacon) = 3
pinged None = 5

-- ---- formulas

names-count : (t : Tree) → length (names t) ≡ leaves t
names-count (Number n) = refl
names-count (Named name) = refl
names-count (Apply op a) = names-count a
names-count (Join op a b) = length-append (names a) (names b) ∙ ap₂ (λ (m n : ℕ). m + n) (names-count a) (names-count b)

relation-count : (r : Relation) → length (relation_names r) ≡ relation_leaves r
relation-count r = length-append (names r.left) (names r.right) ∙ ap₂ (λ (m n : ℕ). m + n) (names-count r.left) (names-count r.right)

pub formula-count : (before : List Item) (r : Relation) (ls : List Leaf) → IsFormula before r ls → length ls ≡ relation_leaves r
formula-count before r ls is =
    sym (length-map ls (λ (l : Leaf). Some l)) ∙ sym (ap length is.stands) ∙ length-map (relation_names r) (leaf_at before) ∙ relation-count r

formula-of : (before : List Item) (r : Relation) (ls : List Leaf) → IsFormula before r ls → IsFormulaOf ls (comparison_of r)
formula-of before r ls is = record { relation = r; compares = refl; each = formula-count before r ls is }

module _ (t : Shape) (before : List Item) (signals : signals_in before ≤ length t.signals) (variables : variables_in before ≤ length t.vars) where
  gate-fits : (i : ℕ) → i < length t.grid → (l : Leaf) → IsLeafIn before l → LeafFits t (Gate i) l
  gate-fits i inside (Sig x) h = (omega (arith, h, signals), inside)
  gate-fits i inside (Var v) h = omega (arith, h, variables)

  envelope-fits : (i : ℕ) → i + 1 < length t.grid → (l : Leaf) → IsLeafIn before l → LeafFits t (Envelope i) l
  envelope-fits i inside (Sig x) h = (omega (arith, h, signals), inside)
  envelope-fits i inside (Var v) h = omega (arith, h, variables)

  once-fits : (l : Leaf) → is_variable l ≡ true → IsLeafIn before l → LeafFits t Once l
  once-fits (Sig x) is h = cc is
  once-fits (Var v) is h = omega (arith, h, variables)

  all-gates : (i : ℕ) → i < length t.grid → (ls : List Leaf) → All (IsLeafIn before) ls → ExprFits t (Gate i) ls
  all-gates i inside ls all k d l = gate-fits i inside (slice_index_or ls k d) (all k d l)

  all-envelopes : (i : ℕ) → i + 1 < length t.grid → (ls : List Leaf) → All (IsLeafIn before) ls → ExprFits t (Envelope i) ls
  all-envelopes i inside ls all k d l = envelope-fits i inside (slice_index_or ls k d) (all k d l)

  all-once : (ls : List Leaf) → list_all is_variable ls ≡ true → All (IsLeafIn before) ls → ExprFits t Once ls
  all-once [] is all = All-nil (LeafFits t Once)
  all-once (l ∷ ls) is all =
      let parts = and-parts (is_variable l) (list_all is_variable ls) is in
      All-cons (LeafFits t Once) l ls (once-fits l parts.0 (all 0 l (omega arith))) (all-once ls parts.1 (λ k d m. all (suc k) d (omega (arith, m)))) where
        and-parts : (a b : Bool) → (a && b) ≡ true → (a ≡ true) × (b ≡ true)
        and-parts true true e = (refl, refl)
        and-parts true false e = cc e
        and-parts false b e = cc e

-- ---- the constraints of one record

-- the formulas of a record at every place
pub formula-all : (P : Constraint → Type 0) (grid : List ℕ) (ls : List Leaf) (c : Comparison) → ((i : ℕ) → i < length grid → P (ExprOf (Gate i) ls c)) → ((i : ℕ) → i + 1 < length grid → P (ExprOf (Envelope i) ls c))
    → 1 ≤ length grid → All P (formula_constraints grid ls c)
formula-all P grid ls c gates envelopes some =
    All-append P (each_below (formula_at ls c) (length grid - 1)) (ExprOf (Gate (length grid - 1)) ls c ∷ [])
    (All-each_below P (formula_at ls c) (length grid - 1) (λ i l. All-from_recursion P (formula_at ls c i) (gates i (omega (arith, l)), (envelopes i (omega (arith, l)), tt))))
    (All-one P (ExprOf (Gate (length grid - 1)) ls c) (gates (length grid - 1) (omega (arith, some))))

module _ (version end : ℕ) (grid : List ℕ) (t : Shape) (is : IsGrid t.grid) (same : t.grid ≡ grid) (before : List Item) (right : AreRight version end before) (few : variables_in before ≤ 200000) where
  eval-fits : (x z : ℕ) (u : ℕ) → signals_in before ≤ length t.signals → x < signals_in before → u < length t.vars → z < length t.vars → EvalFits t x (rate_in before x) u z
  eval-fits x z u signals sx su sz = record {
    grid = is;
    signal = omega (arith, sx, signals);
    rates = rate-below version end before x (length t.signals) (rate_in before x) right signals refl;
    time = su;
    value = sz;
  }

  marks-fit : (p : List ℕ) → IsPointBelow (length t.vars) p → variables_in before ≤ length t.vars → 1 ≤ beacons_in before → ConstellFits t p (marks_in before)
  marks-fit p point variables some =
      let all = marks-below before in record {
        some = omega (arith, point.size);
        few = omega (arith, point.size);
        some_marks = omega (arith, some, length-marks_in before);
        few_marks = omega (arith, few, beacons-few before, length-marks_in before);
        alike = λ k d l. (all k d l).size ∙ sym point.size;
        point = point.below;
        named = λ k d l i e j. let one = (all k d l).below i e j in omega (arith, one, variables);
      }

  dist-fits : (near far : ℤ) (p b : List ℕ) → AreRadii near far → 2 ≤ length p → length p ≤ 3 → length b ≡ length p → All (λ v. v < length t.vars) p → All (λ v. v < length t.vars) b → DistFits t p b near far
  dist-fits near far p b radii some fewer alike one other = record {
    some = some;
    few = fewer;
    alike = alike;
    one = one;
    other = other;
    from_zero = radii.0;
    in_order = radii.1;
    bounded = radii.2;
  }

  points-fit : (near far : ℤ) (p b : List VarId) (n : ℕ) → 2 ≤ n → n ≤ 3 → variables_in before ≤ length t.vars → AreRadii near far → AreVariables before (p ++ b) → length p ≡ n → length b ≡ n → DistFits t (numbers p) (numbers b) near far
  points-fit near far p b n some fewer variables radii named one other =
      dist-fits near far (numbers p) (numbers b) radii (omega (arith, some, one, numbers-length p)) (omega (arith, fewer, one, numbers-length p)) (numbers-length b ∙ other ∙ sym (numbers-length p ∙ one))
      (numbers-below before p (length t.vars) variables (All-first (IsNamed before) p b named.0)) (numbers-below before b (length t.vars) variables (All-last (IsNamed before) p b named.0))

  target-fits : (near far : ℤ) (beacon : Option ℕ) (m : ℕ) → variables_in before + m ≤ length t.vars → m ≡ pinged beacon → AreRadii near far → IsMark before beacon
      → DistFits t (point_at (variables_in before + 1)) (target_of before beacon) near far
  target-fits near far (Some beacon) m variables size radii mark =
      let at = mark-at before beacon mark in
      let here = point-below (length t.vars) (variables_in before + 1) (omega (arith, variables, size)) in
      dist-fits near far (point_at (variables_in before + 1)) (target_of before (Some beacon)) radii (omega arith) (omega arith) at.size here.below (λ k d l. let one = at.below k d l in omega (arith, one, variables))
  target-fits near far None m variables size radii mark =
      let there = point-below (length t.vars) (variables_in before + 3) (omega (arith, variables, size)) in
      let here = point-below (length t.vars) (variables_in before + 1) (omega (arith, variables, size)) in
      dist-fits near far (point_at (variables_in before + 1)) (target_of before None) radii (omega arith) (omega arith) refl here.below there.below

  mark-fits : (beacon : Option ℕ) (m : ℕ) → variables_in before + m ≤ length t.vars → m ≡ pinged beacon → IsMark before beacon → All (IsOf t) (mark_constraints before beacon)
  mark-fits (Some beacon) m variables size mark = All-nil (IsOf t)
  mark-fits None m variables size mark =
      All-one (IsOf t) (ConstellOf (point_at (variables_in before + 3)) (marks_in before))
      (marks-fit (point_at (variables_in before + 3)) (point-below (length t.vars) (variables_in before + 3) (omega (arith, variables, size))) (omega (arith, variables)) mark)

  ping-fits : (x y first last : ℕ) (near far : ℤ) (beacon : Option ℕ) (m : ℕ) → signals_in before ≤ length t.signals → variables_in before + m ≤ length t.vars → m ≡ pinged beacon → 3 ≤ m → x < signals_in before → y < signals_in before
      → AreRadii near far → IsMark before beacon → All (IsOf t) (ping_constraints before x y first last near far beacon)
  ping-fits x y first last near far beacon m signals variables size some sx sy radii mark =
      let v = variables_in before in
      let third : Constraint = DistOf (point_at (v + 1)) (target_of before beacon) near far in
      let second = evaluation before y v (v + 2) (ticks_from first last) in
      All-cons (IsOf t) (evaluation before x v (v + 1) (ticks_from first last)) (second ∷ third ∷ mark_constraints before beacon) (eval-fits x (v + 1) v signals sx (omega (arith, variables, some)) (omega (arith, variables, some)))
      (All-cons (IsOf t) second (third ∷ mark_constraints before beacon) (eval-fits y (v + 2) v signals sy (omega (arith, variables, some)) (omega (arith, variables, some)))
      (All-cons (IsOf t) third (mark_constraints before beacon) (target-fits near far beacon m variables size radii mark) (mark-fits beacon m variables size mark)))

  pub record-of : (r : Item) → signals_in before + signals_made r ≤ length t.signals → variables_in before + variables_made r ≤ length t.vars → IsRight version end before r → All (IsOf t) (constraints_of grid before r)
  record-of (item.Signal name range) signals variables good =
      All-each_below (IsOf t) (λ i. SliceOf (signals_in before) i ∷ []) (length grid - 1) (λ i li.
      All-one (IsOf t) (SliceOf (signals_in before) i) (omega (arith, signals), omega (arith, li, ap length same)))
  record-of (item.Deriv x rate) signals variables good =
      let some = good.0 in
      let other = good.1 in
      All-each_below (IsOf t) (λ i. DerivOf x.0 rate.0 i ∷ []) (length grid - 1) (λ i li.
      All-one (IsOf t) (DerivOf x.0 rate.0 i) (omega (arith, some, signals), omega (arith, other, signals), omega (arith, li, ap length same)))
  record-of (item.Bound x first last range) signals variables good =
      let some = good.0 in All-one (IsOf t) (BoundOf x.0 first last range) (omega (arith, some, signals))
  record-of (item.At x tick range) signals variables good =
      All-one (IsOf t) _ (eval-fits x.0 (variables_in before + 1) (variables_in before) (omega (arith, signals)) good.0 (omega (arith, variables)) (omega (arith, variables)))
  record-of (item.Eval x u z) signals variables good =
      let named = good.1.0 in
      let time = named-below before u (named 0 u (omega arith)) in
      let value = named-below before z (named 1 u (omega arith)) in
      All-one (IsOf t) _ (eval-fits x.0 z.0 u.0 (omega (arith, signals)) good.0 (omega (arith, variables, time)) (omega (arith, variables, value)))
  record-of (item.Delay x y tau) signals variables good =
      let some = good.0.0 in
      let other = good.0.1 in
      let delay = named-below before tau good.1 in
      let fits : DelayFits t x.0 y.0 tau.0 = (omega (arith, some, signals), omega (arith, other, signals), omega (arith, delay, variables)) in
      All-from_recursion (IsOf t) (DelayToOf x.0 y.0 tau.0 ∷ DelayFromOf x.0 y.0 tau.0 ∷ DelayShiftOf x.0 y.0 tau.0 ∷ []) (fits, (fits, (fits, tt)))
  record-of (item.Dist2 near far p b) signals variables good =
      All-one (IsOf t) (DistOf (numbers p) (numbers b) near far) (points-fit near far p b 2 (omega arith) (omega arith) (omega (arith, variables)) good.0 good.1 good.2 good.3)
  record-of (item.Dist3 near far p b) signals variables good =
      All-one (IsOf t) (DistOf (numbers p) (numbers b) near far) (points-fit near far p b 3 (omega arith) (omega arith) (omega (arith, variables)) good.0 good.1 good.2 good.3)
  record-of (item.Constell p) signals variables good =
      let enough : variables_in before ≤ length t.vars = omega (arith, variables) in
      All-one (IsOf t) (ConstellOf (numbers p) (marks_in before))
      (marks-fit (numbers p) (record { size = numbers-length p ∙ good.2; below = numbers-below before p (length t.vars) enough good.0.0 }) enough good.1)
  record-of (item.Ping x y first last (Some beacon) near far) signals variables good =
      let both = good.0 in ping-fits x.0 y.0 first last near far (Some beacon) 3 (omega (arith, signals)) variables refl (omega arith) both.0 both.1 good.4 good.3
  record-of (item.Ping x y first last None near far) signals variables good =
      let both = good.0 in ping-fits x.0 y.0 first last near far None 5 (omega (arith, signals)) variables refl (omega arith) both.0 both.1 good.4 good.3
  record-of (item.Each formula ls) signals variables good =
      let all = leaves-found before (relation_names formula) ls good.stands in
      let c = comparison_of formula in
      let many : signals_in before ≤ length t.signals = omega (arith, signals) in
      let more : variables_in before ≤ length t.vars = omega (arith, variables) in
      formula-all (IsOf t) grid ls c (λ i l. all-gates t before many more i (omega (arith, l, ap length same)) ls all) (λ i l. all-envelopes t before many more i (omega (arith, l, ap length same)) ls all)
      (omega (arith, is.slices, ap length same))
  record-of (item.Single formula ls) signals variables good =
      let all = leaves-found before (relation_names formula) ls good.0.stands in
      All-one (IsOf t) (ExprOf Once ls (comparison_of formula)) (all-once t before (omega (arith, signals)) (omega (arith, variables)) ls good.1 all)
  record-of r signals variables good = All-nil (IsOf t)

  -- what a net adds for it fits too
  pub contract-of : (r : Item) → signals_in before + signals_made r ≤ length t.signals → variables_in before + variables_made r ≤ length t.vars → IsRight version end before r → All (IsOf t) (contracts_of grid before r)
  contract-of (item.Signal name range) signals variables good = All-one (IsOf t) (SlicesOf (signals_in before)) (omega (arith, signals))
  contract-of (item.Deriv x rate) signals variables good =
      let some = good.0 in
      let other = good.1 in
      All-one (IsOf t) (DerivsOf x.0 rate.0) (omega (arith, some, signals), omega (arith, other, signals))
  contract-of r signals variables good = record-of r signals variables good

  pub record-written : (r : Item) → IsRight version end before r → All IsWritten (constraints_of grid before r)
  record-written (item.Signal name range) good = All-each_below IsWritten (λ i. SliceOf (signals_in before) i ∷ []) (length grid - 1) (λ i li. All-one IsWritten (SliceOf (signals_in before) i) tt)
  record-written (item.Deriv x rate) good = All-each_below IsWritten (λ i. DerivOf x.0 rate.0 i ∷ []) (length grid - 1) (λ i li. All-one IsWritten (DerivOf x.0 rate.0 i) tt)
  record-written (item.Bound x first last range) good = All-one IsWritten (BoundOf x.0 first last range) tt
  record-written (item.At x tick range) good = All-one IsWritten _ tt
  record-written (item.Eval x u z) good = All-one IsWritten _ tt
  record-written (item.Delay x y tau) good = All-from_recursion IsWritten (DelayToOf x.0 y.0 tau.0 ∷ DelayFromOf x.0 y.0 tau.0 ∷ DelayShiftOf x.0 y.0 tau.0 ∷ []) (tt, (tt, (tt, tt)))
  record-written (item.Dist2 near far p b) good = All-one IsWritten _ tt
  record-written (item.Dist3 near far p b) good = All-one IsWritten _ tt
  record-written (item.Constell p) good = All-one IsWritten _ tt
  record-written (item.Ping x y first last (Some beacon) near far) good = All-from_recursion IsWritten (ping_constraints before x.0 y.0 first last near far (Some beacon)) (tt, (tt, (tt, tt)))
  record-written (item.Ping x y first last None near far) good = All-from_recursion IsWritten (ping_constraints before x.0 y.0 first last near far None) (tt, (tt, (tt, (tt, tt))))
  record-written (item.Each formula ls) good =
      let f = formula-of before formula ls good in
      formula-all IsWritten grid ls (comparison_of formula) (λ i l. f) (λ i l. f) (omega (arith, is.slices, ap length same))
  record-written (item.Single formula ls) good = All-one IsWritten (ExprOf Once ls (comparison_of formula)) (formula-of before formula ls good.0)
  record-written r good = All-nil IsWritten
