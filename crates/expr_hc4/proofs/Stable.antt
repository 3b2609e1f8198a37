-- The hull of an assignment of which a relation holds is stable under its projections.
use Rattle.std.proofs.Common.{◌≡◌, ℕ, zero, suc, ◌+◌, ◌<◌, ◌≤◌, ◌⊎◌, inl, inr, ◌&&◌, Bool, true, false, cond, Option, Some, None, IsSome, List, [], ◌∷◌, ℤ, pos, refl, sym, ap, subst, ◌∙◌, length, slice_index, slice_index_or, map, All, arith}
use Rattle.std.proofs.lemmas.Int.{ints}
use Rattle.std.proofs.lemmas.List.{get_or-map, length-map}
use Rattle.std.proofs.Math.ListN.{get_or-eq_default}
use Rattle.tube_spec.specs.Span.{Span, Holds, IsWithin, point}
use Rattle.tube_spec.specs.Narrowing.{Narrowing, Whole, IsUnder}
use Rattle.tube_spec.specs.Grid.{IsGrid, last_tick}
use Rattle.tube_spec.specs.Shape.{Shape, gate_cell, envelope_cell, slice_width}
use Rattle.tube_spec.specs.Box.{cell_at, IsBox, IsBelow}
use Rattle.tube_spec.specs.Projection.{IsStable}
use Rattle.tube_spec.specs.Assignment.{Assignment, IsHull, value_at, number_of, hull_over}
use Rattle.tube_spec.proofs.Assignments.{value-within, hull_over-least}
use Rattle.tube_spec.proofs.Ticks.{last-greatest}
use Rattle.tube_store.specs.declared.VarId.{VarId}
use Rattle.tube_store.specs.declared.SignalId.{SignalId}
use Rattle.expr_tree.specs.Trees.{Relation}
use Rattle.expr_values.specs.Expressions.{Expression, Comparison, relation_leaves, comparison_of}
use Rattle.expr_values.specs.Values.{value_of, stays_bounded, range_value, number_at, HoldEach}
use Rattle.expr_values.specs.Targets.{comparison_targets, narrowing_at, entry_narrowing, AreHeld}
use Rattle.expr_values.proofs.Bounds.{and-both}
use Rattle.expr_values.proofs.Monotone.{bounded-mono}
use Rattle.expr_values.proofs.Solutions.{comparison-holds}
use Rattle.tube_names.specs.declared.leaves.Leaf.{Leaf}
use Rattle.tube_names.specs.declared.leaves.Leaf.TheVariants.{Sig, Var}
use Rattle.expr_hc4.specs.declared.places.Place.{Place}
use Rattle.expr_hc4.specs.declared.places.Place.TheVariants.{Gate, Envelope, Once}
use Rattle.expr_hc4.specs.Places.{leaf_cell, leaf_cells, LeafFits, ExprFits}
use Rattle.expr_hc4.specs.Projections.{entries_at, expr_projections, leaf_number, HoldsAtTick, SatisfiesAt}
use Rattle.tube_names.proofs.Uses.{All-head, All-tail}
use Rattle.expr_hc4.specs.ExprLaws.{all-projections}
use Rattle.expr_hc4.proofs.Counts.{leaf_at}

-- The cell of a leaf holds what the assignment gives it at the ticks of the place, and lies within each span that does.
record IsHullOver (a : Assignment) (hull : List Span) (cell first n : ℕ) (l : Leaf) : Type 0 where
  member : (k : ℕ) → k ≤ n → Holds (cell_at hull cell) (leaf_number a (first + k) l)
  least : (t : Span) → ((k : ℕ) → k ≤ n → Holds t (leaf_number a (first + k) l)) → IsWithin (cell_at hull cell) t

holds-by : (s t : Span) (p : ℤ) → s ≡ t → Holds t p → Holds s p
holds-by s t p e h = subst (λ (u : Span). Holds u p) (sym e) h

within-by : (s t u : Span) → s ≡ t → IsWithin t u → IsWithin s u
within-by s t u e h = subst (λ (v : Span). IsWithin v u) (sym e) h

point-holds : (p : ℤ) → Holds (point p) p
point-holds p = record { low = omega (arith, ints); high = omega (arith, ints) }

-- a variable has one value, and a signal the hull over the ticks
variable-over : (a : Assignment) (hull : List Span) (cell first n : ℕ) (v : VarId) → cell_at hull cell ≡ point (number_of a v.0) → IsHullOver a hull cell first n (Var v)
variable-over a hull cell first n v e = record {
  member = λ k l. holds-by (cell_at hull cell) (point (number_of a v.0)) (number_of a v.0) e (point-holds (number_of a v.0));
  least = λ t h. let k = h 0 (omega arith) in within-by (cell_at hull cell) (point (number_of a v.0)) t e (record { low = k.low; high = k.high });
}

signal-over : (a : Assignment) (hull : List Span) (cell first n : ℕ) (x : SignalId) → cell_at hull cell ≡ hull_over (value_at a x.0) first n → IsHullOver a hull cell first n (Sig x)
signal-over a hull cell first n x e = record {
  member = λ k l. let w = value-within (value_at a x.0) first n k l in holds-by (cell_at hull cell) (hull_over (value_at a x.0) first n) (value_at a x.0 (first + k)) e (record { low = w.low; high = w.high });
  least = λ t h. within-by (cell_at hull cell) (hull_over (value_at a x.0) first n) t e (hull_over-least (value_at a x.0) first n t (λ k l. let w = h k l in record { low = w.low; high = w.high }));
}

leaf-numbers : (a : Assignment) (hull : List Span) (f : Leaf → ℕ) (first n k : ℕ) → k ≤ n → (leaves : List Leaf) → All (λ l. IsHullOver a hull (f l) first n l) leaves → HoldEach (entries_at (map f leaves) hull) (map (leaf_number a (first + k)) leaves)
leaf-numbers a hull f first n k inside [] h j = point-holds (pos 0)
leaf-numbers a hull f first n k inside (l ∷ leaves) h zero = (All-head (λ x. IsHullOver a hull (f x) first n x) l leaves h).member k inside
leaf-numbers a hull f first n k inside (l ∷ leaves) h (suc j) = leaf-numbers a hull f first n k inside leaves (All-tail (λ x. IsHullOver a hull (f x) first n x) l leaves h) j

-- over the ticks of a place
module _ (s : Shape) (a : Assignment) (hull : List Span) (place : Place) (leaves : List Leaf) (r : Relation) (first n : ℕ) (count : length leaves ≡ relation_leaves r)
    (over : All (λ l. IsHullOver a hull (leaf_cell s place l) first n l) leaves) (holds : (k : ℕ) → k ≤ n → HoldsAtTick a leaves (comparison_of r) (first + k)) where
  abbrev c : Comparison
  c = comparison_of r

  abbrev cells : List ℕ
  cells = leaf_cells s place leaves

  abbrev xs : List Span
  xs = entries_at cells hull

  held : (k : ℕ) → k ≤ n → AreHeld (map (leaf_number a (first + k)) leaves) 0 (relation_leaves r) (comparison_targets xs c)
  held k l = comparison-holds xs (map (leaf_number a (first + k)) leaves) (leaf-numbers a hull (leaf_cell s place) first n k l leaves over) r (holds k l)

  under : (j : ℕ) → j < length leaves → (T : Option (List Span)) → ((k : ℕ) → k ≤ n → AreHeld (map (leaf_number a (first + k)) leaves) 0 (relation_leaves r) T) → IsUnder (cell_at hull (slice_index cells j)) (narrowing_at T j)
  under j l None h = absurd (h 0 (omega arith))
  under j l (Some cs) h =
      let d : Leaf = Sig (record { 0 = 0 }) in
      let leaf = leaf_at leaves j in
      let cell : slice_index cells j ≡ leaf_cell s place leaf = get_or-map (leaf_cell s place) leaves j d 0 l in
      let all = over j d l in
      let each : (k : ℕ) → k ≤ n → Holds (cell_at cs j) (leaf_number a (first + k) leaf) = λ k m.
      let z : 0 + j ≡ j = omega arith in
      let number : number_at (map (leaf_number a (first + k)) leaves) (0 + j) ≡ leaf_number a (first + k) leaf = ap (number_at (map (leaf_number a (first + k)) leaves)) z ∙ get_or-map (leaf_number a (first + k)) leaves j d (pos 0) l in
      subst (Holds (cell_at cs j)) number ((h k m).1 j (omega (arith, l, count))) in
      within-by (cell_at hull (slice_index cells j)) (cell_at hull (leaf_cell s place leaf)) (cell_at cs j) (ap (cell_at hull) cell) (all.least (cell_at cs j) each)

  stable-over : All (IsStable hull) (expr_projections s place leaves c)
  stable-over = all-projections (IsStable hull) cells (λ j ys. entry_narrowing (entries_at cells ys) c j) (λ j l. at j (omega (arith, l, length-map leaves (leaf_cell s place))) (stays_bounded xs c.left && stays_bounded xs c.right))
    where
      at : (j : ℕ) → j < length leaves → (b : Bool) → IsUnder (cell_at hull (slice_index cells j)) (cond b (narrowing_at (comparison_targets xs c) j) Whole)
      at j l true = under j l (comparison_targets xs c) held
      at j l false = tt

-- every boundary is a tick, and past the last one there is 0
inside-or-past : (i n : ℕ) → (i < n) ⊎ (n ≤ i)
inside-or-past i n = grind arith

boundary-tick : (grid : List ℕ) → IsGrid grid → (i : ℕ) → slice_index grid i ≤ last_tick grid
boundary-tick grid is i = elim (inside-or-past i (length grid)) [
  | inl l ↦ last-greatest grid is.rising i l
  | inr l ↦ omega (arith, get_or-eq_default grid 0 l)
]

-- the leaves at each place
leaf-over-gate : (s : Shape) (a : Assignment) (hull : List Span) → IsHull s a hull → (i : ℕ) (l : Leaf) → LeafFits s (Gate i) l → IsHullOver a hull (leaf_cell s (Gate i) l) (slice_index s.grid i) 0 l
leaf-over-gate s a hull is i (Var v) fits = variable-over a hull (slice_index s.vars v.0) (slice_index s.grid i) 0 v (is.vars v.0 fits)
leaf-over-gate s a hull is i (Sig x) fits = signal-over a hull (gate_cell s x.0 i) (slice_index s.grid i) 0 x (is.gates x.0 i fits.0 fits.1)

leaf-over-envelope : (s : Shape) (a : Assignment) (hull : List Span) → IsHull s a hull → (i : ℕ) (l : Leaf) → LeafFits s (Envelope i) l → IsHullOver a hull (leaf_cell s (Envelope i) l) (slice_index s.grid i) (slice_width s i) l
leaf-over-envelope s a hull is i (Var v) fits = variable-over a hull (slice_index s.vars v.0) (slice_index s.grid i) (slice_width s i) v (is.vars v.0 fits)
leaf-over-envelope s a hull is i (Sig x) fits = signal-over a hull (envelope_cell s x.0 i) (slice_index s.grid i) (slice_width s i) x (is.envelopes x.0 i fits.0 fits.1)

leaf-over-once : (s : Shape) (a : Assignment) (hull : List Span) → IsHull s a hull → (l : Leaf) → LeafFits s Once l → IsHullOver a hull (leaf_cell s Once l) 0 0 l
leaf-over-once s a hull is (Var v) fits = variable-over a hull (slice_index s.vars v.0) 0 0 v (is.vars v.0 fits)
leaf-over-once s a hull is (Sig x) fits = absurd fits

pub expr-stable : (s : Shape) (a : Assignment) (hull : List Span) → IsGrid s.grid → IsHull s a hull → (place : Place) (leaves : List Leaf) (r : Relation) → length leaves ≡ relation_leaves r
    → ExprFits s place leaves → SatisfiesAt s place a leaves (comparison_of r) → All (IsStable hull) (expr_projections s place leaves (comparison_of r))
expr-stable s a hull grid is (Gate i) leaves r count fits says =
    stable-over s a hull (Gate i) leaves r (slice_index s.grid i) 0 count (λ k d l. leaf-over-gate s a hull is i (slice_index_or leaves k d) (fits k d l)) (λ k l. says (slice_index s.grid i + k) (omega (arith, l, boundary-tick s.grid grid i)))
expr-stable s a hull grid is (Envelope i) leaves r count fits says =
    stable-over s a hull (Envelope i) leaves r (slice_index s.grid i) (slice_width s i) count (λ k d l. leaf-over-envelope s a hull is i (slice_index_or leaves k d) (fits k d l))
    (λ k l. says (slice_index s.grid i + k) (omega (arith, l, boundary-tick s.grid grid i, boundary-tick s.grid grid (i + 1))))
expr-stable s a hull grid is Once leaves r count fits says =
    stable-over s a hull Once leaves r 0 0 count (λ k d l. leaf-over-once s a hull is (slice_index_or leaves k d) (fits k d l)) (λ k l. let z : 0 + k ≡ 0 = omega (arith, l) in subst (HoldsAtTick a leaves (comparison_of r)) (sym z) says)

-- within ranges over which both sides have values, no value leaves the bound
range-stays : (xs : List Span) (e : Expression) → IsSome (range_value xs e) → stays_bounded xs e ≡ true
range-stays xs e some = at (stays_bounded xs e) refl some
  where
    at : (b : Bool) → stays_bounded xs e ≡ b → IsSome (cond b (Some (value_of xs e)) None) → stays_bounded xs e ≡ true
    at true p h = p
    at false p h = absurd (cc)

pub expr-within : (xs ranges : List Span) (c : Comparison) → IsBox xs → IsBelow xs ranges → IsSome (range_value ranges c.left) → IsSome (range_value ranges c.right) → (j : ℕ) → entry_narrowing xs c j ≡ narrowing_at (comparison_targets xs c) j
expr-within xs ranges c box low left right j =
    ap (λ (b : Bool). cond b (narrowing_at (comparison_targets xs c) j) Whole)
    (and-both (stays_bounded xs c.left) (stays_bounded xs c.right) (bounded-mono xs ranges box low.each c.left (range-stays ranges c.left left)) (bounded-mono xs ranges box low.each c.right (range-stays ranges c.right right)))
