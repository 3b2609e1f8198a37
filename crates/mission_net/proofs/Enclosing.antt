-- An assignment that satisfies records has a hull that is a common fixpoint of their projections below their start.
use Rattle.std.proofs.Common.{◌≡◌, ℕ, suc, ◌+◌, ◌-◌, ◌<◌, ◌≤◌, Option, Some, None, List, [], ◌∷◌, ◌++◌, ℤ, ◌+ℤ◌, pos, arith, refl, sym, ap, subst, ◌∙◌, length, All, slice_index, append_assoc, flat_map}
use Rattle.std.specs.Prelude.{IfSome}
use Rattle.std.proofs.lemmas.List.Elements.{All-from_recursion, All-append, All-cons, All-nil}
use Rattle.tube_spec.specs.Span.{Span, Holds, point}
use Rattle.tube_spec.specs.Grid.{IsGrid, last_tick}
use Rattle.tube_spec.specs.Shape.{Shape, Extends, no_shape, slice_width}
use Rattle.tube_spec.specs.Box.{IsBelow, IsBelowBox}
use Rattle.tube_spec.specs.Projection.{IsStable}
use Rattle.tube_spec.specs.Fixpoint.{IsFixpoint}
use Rattle.tube_spec.specs.Assignment.{Assignment, value_at, number_of, IsRate}
use Rattle.tube_spec.specs.Owner.{hull_box}
use Rattle.tube_spec.proofs.Prefixes.{Extends-refl, Extends-trans}
use Rattle.tube_spec.proofs.Hulls.{hull_box-is, owners-box, owners-below}
use Rattle.tube_spec.proofs.Ticks.{last-greatest}
use Rattle.ctc_deriv.specs.BoundLaws.{All-each_below}
use Rattle.ctc_eval.specs.Evals.{IsEvaluation}
use Rattle.ctc_delay.specs.Delays.{IsDelay}
use Rattle.tube_names.specs.Points.{numbers}
use Rattle.expr_values.specs.Expressions.{comparison_of}
use Rattle.expr_hc4.specs.Projections.{HoldsAtTick}
use Rattle.expr_hc4.specs.declared.places.Place.TheVariants.{Once}
use Rattle.mission_items.specs.declared.item.Item.{Item}
use Rattle.mission_items.specs.declared.item.Item.TheVariants as item
use Rattle.mission_items.specs.Made.{rate_in, signals_in, ticks_from, variable_range, variables_in}
use Rattle.mission_items.specs.Valid.{IsRight, AreRightFrom, AreRight}
use Rattle.mission_items.proofs.Making.{signals-last, variables-append, variables-last}
use Rattle.mission_items.proofs.Standing.{named-below}
use Rattle.any_ctc.specs.Constraints.{Constraint, SliceOf, DerivOf, BoundOf, DelayToOf, DelayFromOf, DelayShiftOf, DistOf, ConstellOf, ExprOf, constraint_projections, IsOf, Satisfies}
use Rattle.mission_net.specs.Records.{owners, shape_by, start, evaluation, marks_in, mark_constraints, ping_constraints, point_at, target_of, constraints_of, constraints_from, constraints, projections, IsSection, IsEnclosure, Encloses, IsAtMark, IsDelayed, IsValueAt, Says, SatisfiesFrom, SatisfiesAll}
use Rattle.any_ctc.proofs.Stable.{constraint-stable, IsWritten}
use Rattle.mission_net.proofs.Shapes.{shape-extends, shape-grid}
use Rattle.mission_net.proofs.Counts.{more-signals, more-variables}
use Rattle.mission_net.proofs.Reading.{right-more}
use Rattle.mission_net.proofs.Holding.{satisfies-in-range, says-keeps, keeps-more, variable-in-range, rate-holds, Gains, KeepsFrom}
use Rattle.mission_net.proofs.Fitting.{All-one, formula-all, record-of, record-written}

pub All-flat_map : {X Y : Type 0} (P : Y → Type 0) (f : X → List Y) (xs : List X) → All (λ x. All P (f x)) xs → All P (flat_map f xs)
All-flat_map P f [] h = All-nil P
All-flat_map P f (x ∷ xs) h = All-append P (f x) (flat_map f xs) (h 0 x (omega arith)) (All-flat_map P f xs (λ k d l. h (suc k) d (omega (arith, l))))

-- records that are right, of which no more than so many variables come
pub record AreSound (version end : ℕ) (items : List Item) : Type 0 where
  pub right : AreRight version end items
  pub few : variables_in items ≤ 200000

-- ---- the constraints of records are of the shape of all records, and written

module _ (version end : ℕ) (grid : List ℕ) (t : Shape) (is : IsGrid t.grid) (same : t.grid ≡ grid) where
  pub records-of : (rs before : List Item) → Extends (shape_by grid (before ++ rs)) t → AreRight version end before → AreRightFrom version end before rs → variables_in (before ++ rs) ≤ 200000 → All (IsOf t) (constraints_from grid before rs)
  records-of [] before grows past right few = All-nil (IsOf t)
  records-of (r ∷ rs) before grows past right few =
      let rest : Extends (shape_by grid ((before ++ r ∷ []) ++ rs)) t = subst (λ (l : List Item). Extends (shape_by grid l) t) (sym (append_assoc before (r ∷ []) rs)) grows in
      let here : Extends (shape_by grid (before ++ r ∷ [])) t = Extends-trans _ _ t (shape-extends grid (before ++ r ∷ []) rs) rest in
      let fewer : variables_in before ≤ 200000 = omega (arith, few, variables-append before (r ∷ rs)) in
      All-append (IsOf t) (constraints_of grid before r) (constraints_from grid (before ++ r ∷ []) rs)
      (record-of version end grid t is same before past fewer r (omega (arith, more-signals grid (before ++ r ∷ []) t here, signals-last before r)) (omega (arith, more-variables grid (before ++ r ∷ []) t here, variables-last before r)) right.1)
      (records-of rs (before ++ r ∷ []) rest (right-more version end before r past right.0 right.1) right.2 (subst (λ (l : List Item). variables_in l ≤ 200000) (sym (append_assoc before (r ∷ []) rs)) few))

  pub records-written : (rs before : List Item) → AreRight version end before → AreRightFrom version end before rs → variables_in (before ++ rs) ≤ 200000 → All IsWritten (constraints_from grid before rs)
  records-written [] before past right few = All-nil IsWritten
  records-written (r ∷ rs) before past right few =
      let fewer : variables_in before ≤ 200000 = omega (arith, few, variables-append before (r ∷ rs)) in
      All-append IsWritten (constraints_of grid before r) (constraints_from grid (before ++ r ∷ []) rs)
      (record-written version end grid t is same before past fewer r right.1)
      (records-written rs (before ++ r ∷ []) (right-more version end before r past right.0 right.1) right.2 (subst (λ (l : List Item). variables_in l ≤ 200000) (sym (append_assoc before (r ∷ []) rs)) few))

-- ---- and what satisfies the records satisfies their constraints

module _ (version end : ℕ) (grid : List ℕ) (a : Assignment) (t : Shape) (is : IsGrid t.grid) (same : t.grid ≡ grid) (ends : last_tick t.grid ≡ end) where
  upto : (i : ℕ) → i < length t.grid → slice_index t.grid i ≤ end
  upto = subst (λ (n : ℕ). (i : ℕ) → i < length t.grid → slice_index t.grid i ≤ n) ends (last-greatest t.grid is.rising)

  rate-over : (x v : ℕ → ℤ) → ((k : ℕ) → k < end → x (k + 1) ≡ x k +ℤ v k) → (i : ℕ) → i + 1 < length t.grid → IsRate x v (slice_index t.grid i) (slice_width t i)
  rate-over x v says i li k lk =
      let from = slice_index t.grid i in
      let e : from + suc k ≡ (from + k) + 1 = omega arith in
      ap x e ∙ says (from + k) (omega (arith, lk, upto (i + 1) li, is.rising i li))

  gains-over : (x : ℕ) (o : Option ℕ) → IfSome o (Gains end a x) → IfSome o (λ v. (k : ℕ) → k < last_tick t.grid → value_at a x (k + 1) ≡ value_at a x k +ℤ value_at a v k)
  gains-over x None h = tt
  gains-over x (Some v) h = subst (λ (n : ℕ). (k : ℕ) → k < n → value_at a x (k + 1) ≡ value_at a x k +ℤ value_at a v k) (sym ends) h

  evaluation-says : (before : List Item) (x u z : ℕ) (declared : Span) → KeepsFrom end a [] before → IsValueAt end a x u z → Holds declared (number_of a u) → IsEvaluation t a x (rate_in before x) u z declared
  evaluation-says before x u z declared past says inside = record {
    tick = says.tick;
    time = says.time;
    on_clock = omega (arith, says.on_clock, ends);
    in_range = subst (Holds declared) says.time inside;
    value = says.value;
    gains = gains-over x (rate_in before x) (rate-holds end a before x (rate_in before x) past refl);
  }

  delay-says : (x y tau : ℕ) → IsDelayed end a x y tau → IsDelay t a x y tau
  delay-says x y tau says = (says.ticks, says.delay, omega (arith, says.on_clock, ends), λ k from to. says.later k from (omega (arith, to, ends)))

  mark-says : (before : List Item) (beacon : Option ℕ) → IsAtMark a before beacon → All (Satisfies t a) (mark_constraints before beacon)
  mark-says before (Some beacon) says = All-nil (Satisfies t a)
  mark-says before None says = All-one (Satisfies t a) (ConstellOf (point_at (variables_in before + 3)) (marks_in before)) says

  ping-says : (before : List Item) (x y first last : ℕ) (near far : ℤ) (beacon : Option ℕ) → KeepsFrom end a [] before → Holds (ticks_from first last) (number_of a (variables_in before)) → IsValueAt end a x (variables_in before) (variables_in before + 1)
      → IsValueAt end a y (variables_in before) (variables_in before + 2) → Satisfies t a (DistOf (point_at (variables_in before + 1)) (target_of before beacon) near far) → IsAtMark a before beacon
      → All (Satisfies t a) (ping_constraints before x y first last near far beacon)
  ping-says before x y first last near far beacon past inside one other distance mark =
      let v = variables_in before in
      let third : Constraint = DistOf (point_at (v + 1)) (target_of before beacon) near far in
      let second = evaluation before y v (v + 2) (ticks_from first last) in
      All-cons (Satisfies t a) (evaluation before x v (v + 1) (ticks_from first last)) (second ∷ third ∷ mark_constraints before beacon) (evaluation-says before x v (v + 1) (ticks_from first last) past one inside)
      (All-cons (Satisfies t a) second (third ∷ mark_constraints before beacon) (evaluation-says before y v (v + 2) (ticks_from first last) past other inside)
      (All-cons (Satisfies t a) third (mark_constraints before beacon) distance (mark-says before beacon mark)))

  record-says : (before : List Item) (r : Item) → IsRight version end before r → KeepsFrom end a [] before → Says end a before r → All (Satisfies t a) (constraints_of grid before r)
  record-says before (item.Signal name range) good past says =
      All-each_below (Satisfies t a) (λ i. SliceOf (signals_in before) i ∷ []) (length grid - 1) (λ i li. All-one (Satisfies t a) (SliceOf (signals_in before) i) tt)
  record-says before (item.Deriv x rate) good past says =
      All-each_below (Satisfies t a) (λ i. DerivOf x.0 rate.0 i ∷ []) (length grid - 1) (λ i li.
      All-one (Satisfies t a) (DerivOf x.0 rate.0 i) (rate-over (value_at a x.0) (value_at a rate.0) says.means i (omega (arith, li, ap length same))))
  record-says before (item.Bound x first last range) good past says = All-one (Satisfies t a) (BoundOf x.0 first last range) says.means
  record-says before (item.At x tick range) good past says =
      let v = variables_in before in
      All-one (Satisfies t a) (evaluation before x.0 v (v + 1) (point (pos tick))) (evaluation-says before x.0 v (v + 1) (point (pos tick)) past says.means says.made.0)
  record-says before (item.Eval x u z) good past says =
      let named = good.1.0 in
      let time = named-below before u (named 0 u (omega arith)) in
      let declared = variable_range before u.0 in
      All-one (Satisfies t a) (evaluation before x.0 u.0 z.0 declared) (evaluation-says before x.0 u.0 z.0 declared past says.means (variable-in-range end a before past u.0 time))
  record-says before (item.Delay x y tau) good past says =
      let delay = delay-says x.0 y.0 tau.0 says.means in
      All-from_recursion (Satisfies t a) (DelayToOf x.0 y.0 tau.0 ∷ DelayFromOf x.0 y.0 tau.0 ∷ DelayShiftOf x.0 y.0 tau.0 ∷ []) (delay, (delay, (delay, tt)))
  record-says before (item.Dist2 near far p b) good past says = All-one (Satisfies t a) (DistOf (numbers p) (numbers b) near far) says.means
  record-says before (item.Dist3 near far p b) good past says = All-one (Satisfies t a) (DistOf (numbers p) (numbers b) near far) says.means
  record-says before (item.Constell p) good past says = All-one (Satisfies t a) (ConstellOf (numbers p) (marks_in before)) says.means
  record-says before (item.Ping x y first last beacon near far) good past says =
      let means = says.means in ping-says before x.0 y.0 first last near far beacon past says.made.0 means.0 means.1 means.2 means.3
  record-says before (item.Each formula ls) good past says =
      let holds = subst (λ (n : ℕ). (k : ℕ) → k ≤ n → HoldsAtTick a ls (comparison_of formula) k) (sym ends) says.means in
      formula-all (Satisfies t a) grid ls (comparison_of formula) (λ i l. holds) (λ i l. holds) (omega (arith, is.slices, ap length same))
  record-says before (item.Single formula ls) good past says = All-one (Satisfies t a) (ExprOf Once ls (comparison_of formula)) says.means
  record-says before r good past says = All-nil (Satisfies t a)

  pub records-say : (rs before : List Item) → AreRightFrom version end before rs → KeepsFrom end a [] before → SatisfiesFrom end a before rs → All (Satisfies t a) (constraints_from grid before rs)
  records-say [] before right past says = All-nil (Satisfies t a)
  records-say (r ∷ rs) before right past says =
      All-append (Satisfies t a) (constraints_of grid before r) (constraints_from grid (before ++ r ∷ []) rs)
      (record-says before r right.1 past says.0) (records-say rs (before ++ r ∷ []) right.2 (keeps-more end a before r past says.0.made (says-keeps end a before r says.0)) says.1)

pub All-three : {X : Type 0} (P Q R S : X → Type 0) (xs : List X) → ((x : X) → P x → Q x → R x → S x) → All P xs → All Q xs → All R xs → All S xs
All-three P Q R S xs f h g i k d l = f _ (h k d l) (g k d l) (i k d l)

module _ (grid : List ℕ) (is : IsGrid grid) (items : List Item) (version : ℕ) (sound : AreSound version (last_tick grid) items) (a : Assignment) (says : SatisfiesAll grid a items) where
  -- the hull of an assignment that satisfies records is a common fixpoint of their projections
  pub hull-fixpoint : IsFixpoint (projections grid items) (hull_box grid (owners items) a)
  hull-fixpoint =
      let t = shape_by grid items in
      let end = last_tick grid in
      let same = shape-grid grid items in
      let grid_t : IsGrid t.grid = subst IsGrid (sym same) is in
      let whole = hull_box-is grid (owners items) a (omega (arith, is.slices)) in record {
        box = owners-box (last_tick grid) (owners items) (no_shape grid) a (last-greatest grid is.rising);
        stable = All-flat_map (IsStable (hull_box grid (owners items) a)) (constraint_projections t) (constraints grid items)
            (All-three (IsOf t) IsWritten (Satisfies t a) (λ c. All (IsStable (hull_box grid (owners items) a)) (constraint_projections t c)) (constraints grid items)
            (λ c of written met. constraint-stable t a (hull_box grid (owners items) a) grid_t whole.hull c of written met)
            (records-of version end grid t grid_t same items [] (Extends-refl t) tt sound.right sound.few)
            (records-written version end grid t grid_t same items [] tt sound.right sound.few)
            (records-say version end grid a t grid_t same (ap last_tick same) items [] sound.right tt says));
      }

  -- and it lies below the declared ranges
  pub hull-below : IsBelow (hull_box grid (owners items) a) (start grid items)
  hull-below = owners-below (last_tick grid) (owners items) (no_shape grid) a (last-greatest grid is.rising) (satisfies-in-range (last_tick grid) grid a items [] says)

  -- so it lies in a box that lost no common fixpoint
  pub hull-enclosed : (box : Option (List Span)) → IsEnclosure grid items box → IsBelowBox (Some (hull_box grid (owners items) a)) box
  hull-enclosed box encloses = encloses.keeps (hull_box grid (owners items) a) hull-fixpoint hull-below

-- the box of a section lost no common fixpoint
pub section-encloses : (grid : List ℕ) (items : List Item) (box : Option (List Span)) → IsSection grid items box → IsEnclosure grid items box
section-encloses grid items None greatest = record { below = tt; keeps = greatest }
section-encloses grid items (Some r) greatest = record { below = greatest.1; keeps = greatest.2 }

-- a box that lost no common fixpoint holds every assignment that satisfies the records
pub enclosure-encloses : (grid : List ℕ) (items : List Item) (box : Option (List Span)) (version : ℕ) → IsGrid grid → AreSound version (last_tick grid) items → IsEnclosure grid items box → Encloses grid items box
enclosure-encloses grid items box version is sound keeps a says = hull-enclosed grid is items version sound a says box keeps
