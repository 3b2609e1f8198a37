-- The laws of the sweep, from those of a slice.
use Rattle.std.proofs.Common.{◌≡◌, ℕ, zero, suc, ◌+◌, ◌*◌, ◌-◌, ◌<◌, ◌≤◌, Bool, true, false, cond, nat_eq, List, [], ◌∷◌, length, arith, subst, ap, ap₂, ◌∙◌, All, Contains, slice_index, get_or}
use Rattle.std.proofs.lemmas.List.Elements.{All-from_recursion}
use Rattle.tube_spec.specs.Span.{Span, join_of}
use Rattle.tube_spec.specs.Shape.{Shape, IsShape, Extends, gate_cell, envelope_cell, slice_width}
use Rattle.tube_spec.specs.Box.{cell_at}
use Rattle.tube_spec.specs.Projection.{Projection, IsMonotone, ReadsOnly, holds_by}
use Rattle.ctc_deriv.specs.Slices.{slice_projections, slice_scope, SliceFits}
use Rattle.ctc_deriv.specs.SliceLaws.{slice-monotone, slice-reads_only, slice-in_store, slice-same_projections}
use Rattle.ctc_deriv.specs.Layout.{first-same}
use Rattle.ctc_parts.specs.Parts.{each_below}
use Rattle.ctc_parts.proofs.Members.{All-each_below, each-same, each-one_more, single-contains}
use Rattle.ctc_sweeps.specs.SliceSweeps.{slices_of, slice_sweep_projections, slice_sweep_scope, SliceSweepFits}

-- each slice fits where the sweep does
pub slice-fits : (s : Shape) (x i : ℕ) → SliceSweepFits s x → i < slices_of s → SliceFits s x i
slice-fits s x i fits l = (fits, omega (arith, l))

-- which cell of a slice a cell of its scope is
pub slice-cells : (s : Shape) (x i k : ℕ) → Contains (slice_scope s x i) k → (slice_index s.signals x + 2 * i ≤ k) × (k ≤ slice_index s.signals x + 2 * i + 2)
slice-cells s x i k m = at m.0 m.1 m.2
  where
    at : (j : ℕ) → j < length (slice_scope s x i) → get_or (slice_scope s x i) j k ≡ k → (slice_index s.signals x + 2 * i ≤ k) × (k ≤ slice_index s.signals x + 2 * i + 2)
    at zero l e = (omega (arith, e), omega (arith, e))
    at (suc zero) l e = (omega (arith, e), omega (arith, e))
    at (suc (suc zero)) l e = (omega (arith, e), omega (arith, e))
    at (suc (suc (suc j))) l e = absurd (omega (arith, l))

-- a slice reads cells of the signal
pub slice-sweep-in_scope : (s : Shape) (x i k : ℕ) → i < slices_of s → Contains (slice_scope s x i) k → Contains (slice_sweep_scope s x) k
slice-sweep-in_scope s x i k l m =
    let c = slice-cells s x i k m in
    let first = slice_index s.signals x in
    let place : first + (k - first) ≡ k = omega (arith, c) in
    subst (λ (j : ℕ). Contains (slice_sweep_scope s x) j) place (single-contains (λ j. first + j) (2 * length s.grid - 1) (k - first) (omega (arith, c, l)))

-- monotone, as each slice is
pub slice-sweep-monotone : (Fits : List Span → Type 0) (s : Shape) (x : ℕ) → All (IsMonotone Fits) (slice_sweep_projections s x)
slice-sweep-monotone Fits s x = All-each_below (IsMonotone Fits) (slice_projections s x) (slices_of s) (λ i l. slice-monotone Fits s x i)

-- the formulas read the cells of the signal alone
pub slice-sweep-reads_only : (Fits : List Span → Type 0) (s : Shape) (x : ℕ) → All (ReadsOnly Fits (slice_sweep_scope s x)) (slice_sweep_projections s x)
slice-sweep-reads_only Fits s x =
    All-each_below (ReadsOnly Fits (slice_sweep_scope s x)) (slice_projections s x) (slices_of s)
    (λ i l j d m xs ys fx fy same. slice-reads_only Fits s x i j d m xs ys fx fy (λ k in_part. same k (slice-sweep-in_scope s x i k l in_part)))

-- cells and targets are of the store
pub slice-sweep-in_store : (s : Shape) (x : ℕ) → IsShape s → SliceSweepFits s x → All (λ k. k < s.cells) (slice_sweep_scope s x) × All (λ (p : Projection). p.target < s.cells) (slice_sweep_projections s x)
slice-sweep-in_store s x shape fits = (
  All-each_below (λ k. k < s.cells) (λ k. (slice_index s.signals x + k) ∷ []) (2 * length s.grid - 1)
      (λ k l. All-from_recursion (λ j. j < s.cells) ((slice_index s.signals x + k) ∷ []) (omega (arith, shape.signals x 0 fits, l), tt)),
  All-each_below (λ (p : Projection). p.target < s.cells) (slice_projections s x) (slices_of s)
      (λ i l. (slice-in_store s x i shape (slice-fits s x i fits l)).1),
)

-- additions leave the slices
pub same-slices : (s t : Shape) → Extends s t → slices_of t ≡ slices_of s
same-slices s t grows = ap (λ (g : List ℕ). length g - 1) grows.grid

-- additions leave the projections
pub slice-sweep-same_projections : (s t : Shape) (x : ℕ) → Extends s t → SliceSweepFits s x → slice_sweep_projections t x ≡ slice_sweep_projections s x
slice-sweep-same_projections s t x grows fits =
    ap (each_below (slice_projections t x)) (same-slices s t grows)
    ∙ each-same (slice_projections t x) (slice_projections s x) (slices_of s) (λ i l. slice-same_projections s t x i grows (slice-fits s x i fits l))

-- additions leave the scope
pub slice-sweep-same_scope : (s t : Shape) (x : ℕ) → Extends s t → SliceSweepFits s x → slice_sweep_scope t x ≡ slice_sweep_scope s x
slice-sweep-same_scope s t x grows fits =
    ap₂ (λ (f : ℕ) (g : List ℕ). each_below (λ k. (f + k) ∷ []) (2 * length g - 1)) (first-same s t grows x fits) grows.grid

-- few projections: at most three a slice
slice-few : (s : Shape) (x i : ℕ) → length (slice_projections s x i) ≤ 3
slice-few s x i = at (nat_eq (slice_width s i) 1)
  where
    at : (b : Bool) → length (holds_by (gate_cell s x i) (λ xs. cell_at xs (envelope_cell s x i)) ∷ holds_by (gate_cell s x (i + 1)) (λ xs. cell_at xs (envelope_cell s x i))
        ∷ cond b (holds_by (envelope_cell s x i) (λ xs. join_of (cell_at xs (gate_cell s x i)) (cell_at xs (gate_cell s x (i + 1)))) ∷ []) []) ≤ 3
    at true = omega arith
    at false = omega arith

-- so the projections of all slices can be counted
pub slice-sweep-few : (s : Shape) (x : ℕ) → IsShape s → length (slice_sweep_projections s x) < 4000000000
slice-sweep-few s x shape = omega (arith, all (slices_of s), shape.grid.short)
  where
    all : (n : ℕ) → length (each_below (slice_projections s x) n) ≤ 3 * n
    all zero = omega arith
    all (suc n) = omega (arith, all n, slice-few s x n, each-one_more (slice_projections s x) n, more n)
      where
        more : (n : ℕ) → length (each_below (slice_projections s x) (suc n)) ≡ length (each_below (slice_projections s x) (n + 1))
        more n = ap (λ (k : ℕ). length (each_below (slice_projections s x) k)) (one n)
          where
            one : (n : ℕ) → suc n ≡ n + 1
            one n = omega arith
