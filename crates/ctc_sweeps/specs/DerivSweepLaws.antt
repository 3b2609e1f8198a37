-- The laws of the sweep of a derivative, from those of one slice.
use Rattle.std.proofs.Common.{◌≡◌, ℕ, zero, suc, ◌+◌, ◌*◌, ◌-◌, ◌<◌, ◌≤◌, ◌⊎◌, inl, inr, List, [], ◌∷◌, ◌++◌, length, length-append, arith, subst, ap, ap₂, ◌∙◌, All, Contains, slice_index, get_or}
use Rattle.std.proofs.lemmas.List.Elements.{All-from_recursion, All-append, Contains-append_left, Contains-append_right}
use Rattle.tube_spec.specs.Span.{Span}
use Rattle.tube_spec.specs.Shape.{Shape, IsShape, Extends}
use Rattle.tube_spec.specs.Projection.{Projection, IsMonotone, ReadsOnly}
use Rattle.ctc_deriv.specs.Derivs.{deriv_projections, deriv_scope, DerivFits}
use Rattle.ctc_deriv.specs.DerivLaws.{deriv-monotone, deriv-reads_only, deriv-in_store, deriv-same_projections}
use Rattle.ctc_deriv.specs.Layout.{signals-more, first-same}
use Rattle.ctc_parts.specs.Parts.{each_below}
use Rattle.ctc_parts.proofs.Members.{All-each_below, each-same, single-contains}
use Rattle.ctc_sweeps.specs.SliceSweeps.{slices_of}
use Rattle.ctc_sweeps.specs.SliceSweepLaws.{same-slices}
use Rattle.ctc_sweeps.specs.DerivSweeps.{deriv_sweep_projections, deriv_sweep_scope, DerivSweepFits}

-- each slice fits where the sweep does
pub deriv-slice-fits : (s : Shape) (x rate i : ℕ) → DerivSweepFits s x rate → i < slices_of s → DerivFits s x rate i
deriv-slice-fits s x rate i fits l = (fits.0, fits.1, omega (arith, l))

-- a cell that a slice reads is one of its gates of the signal, or the envelope or the right gate of the rate
pub deriv-cells : (s : Shape) (x rate i k : ℕ) → Contains (deriv_scope s x rate i) k
    → ((slice_index s.signals x + 2 * i ≡ k) ⊎ (slice_index s.signals x + 2 * (i + 1) ≡ k)) ⊎ ((slice_index s.signals rate + 1 + 2 * i ≡ k) ⊎ (slice_index s.signals rate + 1 + (2 * i + 1) ≡ k))
deriv-cells s x rate i k m = at m.0 m.1 m.2
  where
    at : (j : ℕ) → j < length (deriv_scope s x rate i) → get_or (deriv_scope s x rate i) j k ≡ k
        → ((slice_index s.signals x + 2 * i ≡ k) ⊎ (slice_index s.signals x + 2 * (i + 1) ≡ k)) ⊎ ((slice_index s.signals rate + 1 + 2 * i ≡ k) ⊎ (slice_index s.signals rate + 1 + (2 * i + 1) ≡ k))
    at zero l e = inl (inl (omega (arith, e)))
    at (suc zero) l e = inl (inr (omega (arith, e)))
    at (suc (suc zero)) l e = inr (inl (omega (arith, e)))
    at (suc (suc (suc zero))) l e = inr (inr (omega (arith, e)))
    at (suc (suc (suc (suc j)))) l e = absurd (omega (arith, l))

-- a slice reads cells of the scope
pub deriv-in_scope : (s : Shape) (x rate i k : ℕ) → i < slices_of s → Contains (deriv_scope s x rate i) k → Contains (deriv_sweep_scope s x rate) k
deriv-in_scope s x rate i k l m = elim (deriv-cells s x rate i k m) [
  | inl g ↦ elim g [
    | inl e ↦ subst (λ (j : ℕ). Contains (deriv_sweep_scope s x rate) j) e (gate i (omega (arith, l)))
    | inr e ↦ subst (λ (j : ℕ). Contains (deriv_sweep_scope s x rate) j) e (gate (i + 1) (omega (arith, l)))
  ]
  | inr r ↦ elim r [
    | inl e ↦ subst (λ (j : ℕ). Contains (deriv_sweep_scope s x rate) j) e (cell (2 * i) (omega (arith, l)))
    | inr e ↦ subst (λ (j : ℕ). Contains (deriv_sweep_scope s x rate) j) e (cell (2 * i + 1) (omega (arith, l)))
  ]
]
  where
    gates : List ℕ
    gates = each_below (λ k. (slice_index s.signals x + 2 * k) ∷ []) (length s.grid)

    cells : List ℕ
    cells = each_below (λ k. (slice_index s.signals rate + 1 + k) ∷ []) (2 * (length s.grid - 1))

    gate : (j : ℕ) → j < length s.grid → Contains (deriv_sweep_scope s x rate) (slice_index s.signals x + 2 * j)
    gate j l = Contains-append_left (each_below (λ k. (slice_index s.signals x + 2 * k) ∷ []) (length s.grid)) (each_below (λ k. (slice_index s.signals rate + 1 + k) ∷ []) (2 * (length s.grid - 1))) (slice_index s.signals x + 2 * j)
        (single-contains (λ k. slice_index s.signals x + 2 * k) (length s.grid) j l)

    cell : (j : ℕ) → j < 2 * (length s.grid - 1) → Contains (deriv_sweep_scope s x rate) (slice_index s.signals rate + 1 + j)
    cell j l = Contains-append_right (each_below (λ k. (slice_index s.signals x + 2 * k) ∷ []) (length s.grid)) (each_below (λ k. (slice_index s.signals rate + 1 + k) ∷ []) (2 * (length s.grid - 1))) (slice_index s.signals rate + 1 + j)
        (single-contains (λ k. slice_index s.signals rate + 1 + k) (2 * (length s.grid - 1)) j l)

-- monotone, as each slice is
pub deriv-sweep-monotone : (Fits : List Span → Type 0) (s : Shape) (x rate : ℕ) → All (IsMonotone Fits) (deriv_sweep_projections s x rate)
deriv-sweep-monotone Fits s x rate = All-each_below (IsMonotone Fits) (deriv_projections s x rate) (slices_of s) (λ i l. deriv-monotone Fits s x rate i)

-- the formulas read the cells of the scope alone
pub deriv-sweep-reads_only : (Fits : List Span → Type 0) (s : Shape) (x rate : ℕ) → All (ReadsOnly Fits (deriv_sweep_scope s x rate)) (deriv_sweep_projections s x rate)
deriv-sweep-reads_only Fits s x rate =
    All-each_below (ReadsOnly Fits (deriv_sweep_scope s x rate)) (deriv_projections s x rate) (slices_of s)
    (λ i l j d m xs ys fx fy same. deriv-reads_only Fits s x rate i j d m xs ys fx fy (λ k in_part. same k (deriv-in_scope s x rate i k l in_part)))

-- cells and targets are of the store
pub deriv-sweep-in_store : (s : Shape) (x rate : ℕ) → IsShape s → DerivSweepFits s x rate → All (λ k. k < s.cells) (deriv_sweep_scope s x rate) × All (λ (p : Projection). p.target < s.cells) (deriv_sweep_projections s x rate)
deriv-sweep-in_store s x rate shape fits = (
  All-append (λ k. k < s.cells) (each_below (λ k. (slice_index s.signals x + 2 * k) ∷ []) (length s.grid)) (each_below (λ k. (slice_index s.signals rate + 1 + k) ∷ []) (2 * (length s.grid - 1)))
      (All-each_below (λ k. k < s.cells) (λ k. (slice_index s.signals x + 2 * k) ∷ []) (length s.grid)
      (λ k l. All-from_recursion (λ j. j < s.cells) ((slice_index s.signals x + 2 * k) ∷ []) (omega (arith, shape.signals x 0 fits.0, l), tt)))
      (All-each_below (λ k. k < s.cells) (λ k. (slice_index s.signals rate + 1 + k) ∷ []) (2 * (length s.grid - 1))
      (λ k l. All-from_recursion (λ j. j < s.cells) ((slice_index s.signals rate + 1 + k) ∷ []) (omega (arith, shape.signals rate 0 fits.1, l), tt))),
  All-each_below (λ (p : Projection). p.target < s.cells) (deriv_projections s x rate) (slices_of s)
      (λ i l. (deriv-in_store s x rate i shape (deriv-slice-fits s x rate i fits l)).1),
)

-- what fits, fits after additions
pub deriv-sweep-more : (s t : Shape) (x rate : ℕ) → Extends s t → DerivSweepFits s x rate → DerivSweepFits t x rate
deriv-sweep-more s t x rate grows fits = (signals-more s t grows x fits.0, signals-more s t grows rate fits.1)

-- additions leave the projections
pub deriv-sweep-same_projections : (s t : Shape) (x rate : ℕ) → Extends s t → DerivSweepFits s x rate → deriv_sweep_projections t x rate ≡ deriv_sweep_projections s x rate
deriv-sweep-same_projections s t x rate grows fits =
    ap (each_below (deriv_projections t x rate)) (same-slices s t grows)
    ∙ each-same (deriv_projections t x rate) (deriv_projections s x rate) (slices_of s) (λ i l. deriv-same_projections s t x rate i grows (deriv-slice-fits s x rate i fits l))

-- additions leave the scope
pub deriv-sweep-same_scope : (s t : Shape) (x rate : ℕ) → Extends s t → DerivSweepFits s x rate → deriv_sweep_scope t x rate ≡ deriv_sweep_scope s x rate
deriv-sweep-same_scope s t x rate grows fits =
    ap (λ (g : List ℕ). each_below (λ k. (slice_index t.signals x + 2 * k) ∷ []) (length g) ++ each_below (λ k. (slice_index t.signals rate + 1 + k) ∷ []) (2 * (length g - 1))) grows.grid
    ∙ ap₂ (λ (f g : ℕ). each_below (λ k. (f + 2 * k) ∷ []) (length s.grid) ++ each_below (λ k. (g + 1 + k) ∷ []) (2 * (length s.grid - 1))) (first-same s t grows x fits.0) (first-same s t grows rate fits.1)

-- the projections of all slices can be counted: five a slice
pub deriv-sweep-few : (s : Shape) (x rate : ℕ) → IsShape s → length (deriv_sweep_projections s x rate) < 4000000000
deriv-sweep-few s x rate shape = omega (arith, all (slices_of s), shape.grid.short)
  where
    all : (n : ℕ) → length (each_below (deriv_projections s x rate) n) ≤ 5 * n
    all zero = omega arith
    all (suc n) = omega (arith, all n, length-append (each_below (deriv_projections s x rate) n) (deriv_projections s x rate n))
