-- A firing of what was found in a box is a firing of the projections themselves.
use Rattle.std.proofs.Common.{◌≡◌, ℕ, ◌+◌, ◌<◌, Option, Some, None, List, IfSome, IsSomeAnd, IsTrue, IsFalse, refl, sym, subst, length, slice_index, All, arith}
use Rattle.std.specs.List.{range_with_len}
use Rattle.std.proofs.lemmas.List.FromFn.{get_or-map-range_with_len, length-map-range_with_len}
use Rattle.tube_spec.specs.Span.{Span}
use Rattle.tube_spec.specs.Narrowing.{Narrowing, IsUnder}
use Rattle.tube_spec.specs.Box.{cell_at, IsBox, IsBelow, IsBelowBox}
use Rattle.tube_spec.specs.Projection.{Projection, IsMonotone, IsStable}
use Rattle.tube_spec.specs.Fixpoint.{IsFixpoint, KeepsFixpoints}
use Rattle.tube_spec.proofs.Spans.{IsUnder-narrowing}
use Rattle.tube_store.specs.State.{State}
use Rattle.ctc_core.specs.Revising.{IsRevised, IfBoth}
use Rattle.ctc_core.specs.Answers.{Revises}
use Rattle.ctc_core.specs.declared.Revised.{Revised}
use Rattle.ctc_core.proofs.Firing.{IsBox-of}
use Rattle.std.proofs.lemmas.List.{length-map}
use Rattle.tube_spec.proofs.Monotone.{IfSome-map, IfSome-any}
use Rattle.expr_values.specs.Expressions.{Comparison}
use Rattle.expr_values.specs.Targets.{entry_narrowing}
use Rattle.tube_names.specs.declared.leaves.Leaf.{Leaf}
use Rattle.expr_hc4.specs.declared.places.Place.{Place}
use Rattle.expr_hc4.specs.Places.{leaf_cell, leaf_cells}
use Rattle.expr_hc4.specs.Projections.{cell_projections, entries_at, expr_projections}
use Rattle.expr_hc4.specs.ExprLaws.{all-projections, expr-monotone}

-- what holds of all holds of the projection on each cell
pub each-projection : (P : Projection → Type 0) (cells : List ℕ) (f : ℕ → List Span → Narrowing) → All P (cell_projections cells f) → (j : ℕ) → j < length cells → P (record { target = slice_index cells j; formula = f j })
each-projection P cells f h j l =
    let g : ℕ → Projection = λ k. record { target = slice_index cells k; formula = f k } in
    let z : 0 + j ≡ j = omega arith in
    subst P (get_or-map-range_with_len g 0 (length cells) j j (g j) l z) (h j (g j) (omega (arith, l, length-map-range_with_len g 0 (length cells))))

module _ (cells : List ℕ) (f : ℕ → List Span → Narrowing) (g : ℕ → Narrowing) where
  abbrev found : List Projection
  found = cell_projections cells (λ j xs. g j)

  -- in the box in which it was found, both are stable alike
  stable-found : (xs : List Span) → ((j : ℕ) → j < length cells → g j ≡ f j xs) → All (IsStable xs) (cell_projections cells f) → All (IsStable xs) found
  stable-found xs same h = all-projections (IsStable xs) cells (λ j xs. g j) (λ j l. subst (IsUnder (cell_at xs (slice_index cells j))) (sym (same j l)) (each-projection (IsStable xs) cells f h j l))

  found-stable : (xs : List Span) → ((j : ℕ) → j < length cells → g j ≡ f j xs) → All (IsStable xs) found → All (IsStable xs) (cell_projections cells f)
  found-stable xs same h = all-projections (IsStable xs) cells f (λ j l. subst (IsUnder (cell_at xs (slice_index cells j))) (same j l) (each-projection (IsStable xs) cells (λ j xs. g j) h j l))

  -- a fixpoint below that box is one of what was found
  fixpoint-found : (Fits : List Span → Type 0) (xs q : List Span) → IsBox xs → Fits xs → ((j : ℕ) → j < length cells → g j ≡ f j xs) → All (IsMonotone Fits) (cell_projections cells f) → IsBelow q xs → IsFixpoint (cell_projections cells f) q → IsFixpoint found q
  fixpoint-found Fits xs q box fits same mono low fix = record {
    box = fix.box;
    stable = all-projections (IsStable q) cells (λ j xs. g j) (λ j l.
        subst (IsUnder (cell_at q (slice_index cells j))) (sym (same j l))
        (IsUnder-narrowing (cell_at q (slice_index cells j)) (f j q) (f j xs) (each-projection (IsStable q) cells f fix.stable j l) (each-projection (IsMonotone Fits) cells f mono j l q xs fix.box box fits low)));
  }

  pub revises-found : (Fits : List Span → Type 0) (old new : State) (answer : Revised) → IfSome old.box Fits → IfSome old.box (λ xs. (j : ℕ) → j < length cells → g j ≡ f j xs) → All (IsMonotone Fits) (cell_projections cells f) → Revises found old new answer → Revises (cell_projections cells f) old new answer
  revises-found Fits old new answer fits same mono r = record {
    before = r.before;
    after = r.after;
    revised = record {
      shape = r.revised.shape;
      below = r.revised.below;
      keeps = keeps old.box (IsBox-of old r.before) fits same r.revised.keeps;
      stable = stable old.box new.box same r.revised.stable;
      touched = r.revised.touched;
      same = r.revised.same;
      narrower = r.revised.narrower;
    };
    says = r.says;
    empty = r.empty;
  }
    where
      keeps : (b : Option (List Span)) → IfSome b IsBox → IfSome b Fits → IfSome b (λ xs. (j : ℕ) → j < length cells → g j ≡ f j xs) → KeepsFixpoints found b new.box → KeepsFixpoints (cell_projections cells f) b new.box
      keeps None box fits same h q fix low = absurd low
      keeps (Some xs) box fits same h q fix low = h q (fixpoint-found Fits xs q box fits same mono low fix) low

      stable : (a b : Option (List Span)) → IfSome a (λ xs. (j : ℕ) → j < length cells → g j ≡ f j xs) → IfBoth a b (λ xs ys. All (λ (p : Projection). IsUnder (cell_at ys p.target) (p.formula xs)) found) → IfBoth a b (λ xs ys. All (λ (p : Projection). IsUnder (cell_at ys p.target) (p.formula xs)) (cell_projections cells f))
      stable None b same h = tt
      stable (Some xs) None same h = tt
      stable (Some xs) (Some ys) same h =
          all-projections (λ (p : Projection). IsUnder (cell_at ys p.target) (p.formula xs)) cells f (λ j l. subst (IsUnder (cell_at ys (slice_index cells j))) (same j l) (each-projection (λ (p : Projection). IsUnder (cell_at ys p.target) (p.formula xs)) cells (λ j xs. g j) h j l))

  pub still-found : (b : Option (List Span)) → IfSome b (λ xs. (j : ℕ) → j < length cells → g j ≡ f j xs) → IsSomeAnd b (λ xs. IsFixpoint found xs → ⊥) → IsSomeAnd b (λ xs. IsFixpoint (cell_projections cells f) xs → ⊥)
  still-found None same h = h
  still-found (Some xs) same h = λ fix. h (record { box = fix.box; stable = stable-found xs same fix.stable })

  pub rests-found : (b : Option (List Span)) → IfSome b (λ xs. (j : ℕ) → j < length cells → g j ≡ f j xs) → IfSome b (IsFixpoint found) → IfSome b (IsFixpoint (cell_projections cells f))
  rests-found None same h = tt
  rests-found (Some xs) same h = record { box = h.box; stable = found-stable xs same h.stable }

-- a relation at a place, and what was found in a store's box
module _ (place : Place) (leaves ls : List Leaf) (c : Comparison) (o : ℕ → Narrowing) (old : State) (e : ls ≡ leaves)
    (same : IfSome old.box (λ xs. (j : ℕ) → j < length leaves → o j ≡ entry_narrowing (entries_at (leaf_cells old.shape place leaves) xs) c j)) where
  abbrev cells : List ℕ
  cells = leaf_cells old.shape place leaves

  abbrev formulas : ℕ → List Span → Narrowing
  formulas j xs = entry_narrowing (entries_at cells xs) c j

  by-cells : IfSome old.box (λ xs. (j : ℕ) → j < length cells → o j ≡ formulas j xs)
  by-cells = IfSome-map (λ xs. (j : ℕ) → j < length leaves → o j ≡ formulas j xs) (λ xs. (j : ℕ) → j < length cells → o j ≡ formulas j xs) old.box (λ xs h j l. h j (omega (arith, l, length-map leaves (leaf_cell old.shape place)))) same

  pub relation-revised : (new : State) (answer : Revised) → Revises (cell_projections (leaf_cells old.shape place ls) (λ j xs. o j)) old new answer → Revises (expr_projections old.shape place leaves c) old new answer
  relation-revised new answer r =
      revises-found cells formulas o (λ xs. Unit {0}) old new answer (IfSome-any (λ xs. Unit {0}) old.box (λ xs. tt)) by-cells (expr-monotone (λ xs. Unit {0}) old.shape place leaves c)
      (subst (λ (ks : List Leaf). Revises (cell_projections (leaf_cells old.shape place ks) (λ j xs. o j)) old new answer) e r)

  pub relation-still : IsSomeAnd old.box (λ xs. IsFixpoint (cell_projections (leaf_cells old.shape place ls) (λ j xs. o j)) xs → ⊥) → IsSomeAnd old.box (λ xs. IsFixpoint (expr_projections old.shape place leaves c) xs → ⊥)
  relation-still h =
      still-found cells formulas o old.box by-cells (subst (λ (ks : List Leaf). IsSomeAnd old.box (λ xs. IsFixpoint (cell_projections (leaf_cells old.shape place ks) (λ j xs. o j)) xs → ⊥)) e h)

  pub relation-rests : IfSome old.box (IsFixpoint (cell_projections (leaf_cells old.shape place ls) (λ j xs. o j))) → IfSome old.box (IsFixpoint (expr_projections old.shape place leaves c))
  relation-rests h =
      rests-found cells formulas o old.box by-cells (subst (λ (ks : List Leaf). IfSome old.box (IsFixpoint (cell_projections (leaf_cells old.shape place ks) (λ j xs. o j)))) e h)
