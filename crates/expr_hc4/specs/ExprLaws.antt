-- The laws of a relation at a place as a contractor, over plain data.
use Rattle.std.proofs.Common.{◌≡◌, ℕ, zero, suc, ◌+◌, ◌<◌, Bool, true, false, cond, ◌||◌, Option, Some, None, List, [], ◌∷◌, ◌++◌, refl, sym, ap, ap₂, subst, ◌∙◌, length, length-append, slice_index, slice_index_or, ◌*◌, map, fold, All, Contains, arith}
use Rattle.std.specs.List.{range_with_len, list_any}
use Rattle.std.proofs.lemmas.List.{get_or-map, length-map}
use Rattle.std.proofs.lemmas.List.Elements.{All-append, All-cons, All-nil, All-from_recursion}
use Rattle.std.proofs.lemmas.List.FromFn.{get_or-map-range_with_len, length-map-range_with_len}
use Rattle.std.proofs.Math.ListN.{get_or-append}
use Rattle.tube_spec.specs.Span.{Span, IsProper, IsWithin, point}
use Rattle.tube_spec.specs.Narrowing.{Narrowing, Whole, Nothing, Within, IsWithinNarrowing}
use Rattle.tube_spec.specs.Shape.{Shape, IsShape, Extends, gate_cell, envelope_cell}
use Rattle.tube_spec.specs.Box.{cell_at, IsBox, IsBelow}
use Rattle.tube_spec.specs.Projection.{Projection, IsMonotone, ReadsOnly}
use Rattle.tube_spec.proofs.Boxes.{IsBox-nil}
use Rattle.tube_spec.proofs.Spans.{IsWithin-refl}
use Rattle.expr_values.specs.Expressions.{Comparison}
use Rattle.expr_values.specs.Targets.{entry_narrowing}
use Rattle.expr_values.proofs.Monotone.{entry-mono}
use Rattle.tube_names.specs.declared.leaves.Leaf.{Leaf}
use Rattle.tube_names.specs.declared.leaves.Leaf.TheVariants.{Sig, Var}
use Rattle.expr_hc4.specs.declared.places.Place.{Place}
use Rattle.expr_hc4.specs.declared.places.Place.TheVariants.{Gate, Envelope, Once}
use Rattle.expr_hc4.specs.Places.{leaf_cell, leaf_cells, LeafFits, ExprFits, expr_scope}
use Rattle.tube_names.specs.Leaves.{same_leaf, with_leaf, first_uses}
use Rattle.expr_hc4.specs.Projections.{cell_projections, entries_at, expr_projections_at, expr_projections}
use Rattle.tube_names.proofs.Uses.{All-tail, All-head, uses-has, uses-all}

-- what holds of the projection on each cell holds of all
pub all-projections : (P : Projection → Type 0) (cells : List ℕ) (f : ℕ → List Span → Narrowing) → ((j : ℕ) → j < length cells → P (record { target = slice_index cells j; formula = f j })) → All P (cell_projections cells f)
all-projections P cells f h k d l =
    let g : ℕ → Projection = λ j. record { target = slice_index cells j; formula = f j } in
    let inside : k < length cells = omega (arith, l, length-map-range_with_len g 0 (length cells)) in
    let z : 0 + k ≡ k = omega arith in
    subst P (sym (get_or-map-range_with_len g 0 (length cells) k k d inside z)) (h k inside)

-- the intervals of cells
entries-box : (cells : List ℕ) (xs : List Span) → IsBox xs → IsBox (entries_at cells xs)
entries-box [] xs h k = IsBox-nil k
entries-box (c ∷ cells) xs h zero = h c
entries-box (c ∷ cells) xs h (suc k) = entries-box cells xs h k

entries-low : (cells : List ℕ) (xs ys : List Span) → IsBelow xs ys → (k : ℕ) → IsWithin (cell_at (entries_at cells xs) k) (cell_at (entries_at cells ys) k)
entries-low [] xs ys low k = IsWithin-refl (cell_at [] k)
entries-low (c ∷ cells) xs ys low zero = low.each c
entries-low (c ∷ cells) xs ys low (suc k) = entries-low cells xs ys low k

entries-same : (cells : List ℕ) (xs ys : List Span) → All (λ c. cell_at xs c ≡ cell_at ys c) cells → entries_at cells xs ≡ entries_at cells ys
entries-same [] xs ys h = refl
entries-same (c ∷ cells) xs ys h =
    ap₂ (λ (s : Span) (l : List Span). s ∷ l) (All-head (λ k. cell_at xs k ≡ cell_at ys k) c cells h) (entries-same cells xs ys (All-tail (λ k. cell_at xs k ≡ cell_at ys k) c cells h))

-- lists of cells
cells-all : (P : ℕ → Type 0) (f : Leaf → ℕ) (leaves : List Leaf) → All (λ l. P (f l)) leaves → All P (map f leaves)
cells-all P f [] h = All-nil P
cells-all P f (l ∷ leaves) h = All-cons P (f l) (map f leaves) (All-head (λ x. P (f x)) l leaves h) (cells-all P f leaves (All-tail (λ x. P (f x)) l leaves h))

contains-map : (f : Leaf → ℕ) (ls : List Leaf) (x : Leaf) → Contains ls x → Contains (map f ls) (f x)
contains-map f ls x h = (h.0, rw length-map h.1, get_or-map f ls h.0 x (f x) h.1 ∙ ap f h.2)

cells-same : (P : Leaf → Type 0) (f g : Leaf → ℕ) → ((l : Leaf) → P l → f l ≡ g l) → (leaves : List Leaf) → All P leaves → map f leaves ≡ map g leaves
cells-same P f g same [] h = refl
cells-same P f g same (l ∷ leaves) h = ap₂ (λ (c : ℕ) (cs : List ℕ). c ∷ cs) (same l (All-head P l leaves h)) (cells-same P f g same leaves (All-tail P l leaves h))

-- one leaf
leaf-in : (s : Shape) → IsShape s → (place : Place) (l : Leaf) → LeafFits s place l → leaf_cell s place l < s.cells
leaf-in s shape place (Var v) h = shape.vars v.0 0 h
leaf-in s shape (Gate i) (Sig x) h = omega (arith, shape.signals x.0 0 h.0, h.1)
leaf-in s shape (Envelope i) (Sig x) h = omega (arith, shape.signals x.0 0 h.0, h.1)
leaf-in s shape Once (Sig x) h = absurd h

leaf-more : (s t : Shape) → Extends s t → (place : Place) (l : Leaf) → LeafFits s place l → LeafFits t place l
leaf-more s t grows place (Var v) h = omega (arith, h, ap length grows.vars.1, length-append s.vars grows.vars.0)
leaf-more s t grows (Gate i) (Sig x) h = (omega (arith, h.0, ap length grows.signals.1, length-append s.signals grows.signals.0), omega (arith, h.1, ap length grows.grid))
leaf-more s t grows (Envelope i) (Sig x) h = (omega (arith, h.0, ap length grows.signals.1, length-append s.signals grows.signals.0), omega (arith, h.1, ap length grows.grid))
leaf-more s t grows Once (Sig x) h = absurd h

leaf-same : (s t : Shape) → Extends s t → (place : Place) (l : Leaf) → LeafFits s place l → leaf_cell t place l ≡ leaf_cell s place l
leaf-same s t grows place (Var v) h = ap (λ (l : List ℕ). slice_index l v.0) grows.vars.1 ∙ get_or-append s.vars grows.vars.0 0 v.0 h
leaf-same s t grows (Gate i) (Sig x) h = ap (λ (f : ℕ). f + 2 * i) (ap (λ (l : List ℕ). slice_index l x.0) grows.signals.1 ∙ get_or-append s.signals grows.signals.0 0 x.0 h.0)
leaf-same s t grows (Envelope i) (Sig x) h = ap (λ (f : ℕ). f + 2 * i + 1) (ap (λ (l : List ℕ). slice_index l x.0) grows.signals.1 ∙ get_or-append s.signals grows.signals.0 0 x.0 h.0)
leaf-same s t grows Once (Sig x) h = absurd h

-- the laws
pub expr-monotone : (Fits : List Span → Type 0) (s : Shape) (place : Place) (leaves : List Leaf) (c : Comparison) → All (IsMonotone Fits) (expr_projections s place leaves c)
expr-monotone Fits s place leaves c =
    let cells = leaf_cells s place leaves in
    all-projections (IsMonotone Fits) cells (λ j xs. entry_narrowing (entries_at cells xs) c j)
    (λ j l xs ys bx by fits low. entry-mono (entries_at cells xs) (entries_at cells ys) (entries-box cells xs bx) (entries-low cells xs ys low) c j)

pub expr-reads_only : (Fits : List Span → Type 0) (s : Shape) (place : Place) (leaves : List Leaf) (c : Comparison) → All (ReadsOnly Fits (expr_scope s place leaves)) (expr_projections s place leaves c)
expr-reads_only Fits s place leaves c =
    let cells = leaf_cells s place leaves in
    let scope = expr_scope s place leaves in
    let among : All (Contains scope) cells = cells-all (Contains scope) (leaf_cell s place) leaves (λ k d l. contains-map (leaf_cell s place) (first_uses leaves) (slice_index_or leaves k d) (uses-has leaves k d l)) in
    all-projections (ReadsOnly Fits scope) cells (λ j xs. entry_narrowing (entries_at cells xs) c j)
    (λ j l xs ys fx fy same. ap (λ (es : List Span). entry_narrowing es c j) (entries-same cells xs ys (λ k d m. same (slice_index_or cells k d) (among k d m))))

pub expr-in_store : (s : Shape) (place : Place) (leaves : List Leaf) (c : Comparison) → IsShape s → ExprFits s place leaves → All (λ k. k < s.cells) (expr_scope s place leaves) × All (λ (p : Projection). p.target < s.cells) (expr_projections s place leaves c)
expr-in_store s place leaves c shape fits =
    let cells = leaf_cells s place leaves in
    let inside : All (λ k. k < s.cells) cells = cells-all (λ k. k < s.cells) (leaf_cell s place) leaves (λ k d l. leaf-in s shape place (slice_index_or leaves k d) (fits k d l)) in (
      cells-all (λ k. k < s.cells) (leaf_cell s place) (first_uses leaves) (λ k d l. leaf-in s shape place (slice_index_or (first_uses leaves) k d) (uses-all (LeafFits s place) leaves fits k d l)),
      all-projections (λ (p : Projection). p.target < s.cells) cells (λ j xs. entry_narrowing (entries_at cells xs) c j) (λ j l. inside j 0 l),
    )

pub expr-fits_more : (s t : Shape) (place : Place) (leaves : List Leaf) → Extends s t → ExprFits s place leaves → ExprFits t place leaves
expr-fits_more s t place leaves grows fits = λ k d l. leaf-more s t grows place (slice_index_or leaves k d) (fits k d l)

pub expr-same_projections : (s t : Shape) (place : Place) (leaves : List Leaf) (c : Comparison) → Extends s t → ExprFits s place leaves → expr_projections t place leaves c ≡ expr_projections s place leaves c
expr-same_projections s t place leaves c grows fits =
    ap (λ (cells : List ℕ). expr_projections_at cells c) (cells-same (LeafFits s place) (leaf_cell t place) (leaf_cell s place) (leaf-same s t grows place) leaves fits)

pub expr-same_scope : (s t : Shape) (place : Place) (leaves : List Leaf) → Extends s t → ExprFits s place leaves → expr_scope t place leaves ≡ expr_scope s place leaves
expr-same_scope s t place leaves grows fits =
    cells-same (LeafFits s place) (leaf_cell t place) (leaf_cell s place) (leaf-same s t grows place) (first_uses leaves) (uses-all (LeafFits s place) leaves fits)

-- the same of formulas that give what was found in one box
pub found-monotone : (Fits : List Span → Type 0) (cells : List ℕ) (f : ℕ → Narrowing) → All (IsMonotone Fits) (cell_projections cells (λ j xs. f j))
found-monotone Fits cells f = all-projections (IsMonotone Fits) cells (λ j xs. f j) (λ j l xs ys bx by fits low. within-itself (f j))
  where
    within-itself : (n : Narrowing) → IsWithinNarrowing n n
    within-itself Whole = tt
    within-itself Nothing = tt
    within-itself (Within s) = IsWithin-refl s

pub found-in_store : (s : Shape) (place : Place) (leaves : List Leaf) (f : ℕ → Narrowing) → IsShape s → ExprFits s place leaves → All (λ (p : Projection). p.target < s.cells) (cell_projections (leaf_cells s place leaves) (λ j xs. f j))
found-in_store s place leaves f shape fits =
    let cells = leaf_cells s place leaves in
    let inside : All (λ k. k < s.cells) cells = cells-all (λ k. k < s.cells) (leaf_cell s place) leaves (λ k d l. leaf-in s shape place (slice_index_or leaves k d) (fits k d l)) in
    all-projections (λ (p : Projection). p.target < s.cells) cells (λ j xs. f j) (λ j l. inside j 0 l)
