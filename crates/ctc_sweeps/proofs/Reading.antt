-- The cells of the scope of a derivative by number.
use Rattle.std.proofs.Common.{◌≡◌, ℕ, ◌+◌, ◌*◌, ◌-◌, ◌<◌, [], ◌∷◌, List, length, length-append, slice_index, get_or-append-add, refl, sym, ap, ◌∙◌, arith, Option, Some, None, Bool, true, false, not, IfSome, IsSomeAnd, IsTrue, IsFalse}
use Rattle.std.proofs.Math.ListN.{get_or-append}
use Rattle.tube_spec.specs.Span.{Span}
use Rattle.tube_spec.specs.Shape.{Shape}
use Rattle.tube_spec.specs.Box.{IsBox}
use Rattle.tube_spec.specs.Projection.{Projection}
use Rattle.tube_spec.specs.Fixpoint.{IsFixpoint}
use Rattle.tube_store.specs.State.{State, IsStore}
use Rattle.ctc_core.specs.Checking.{Checks}
use Rattle.ctc_core.proofs.Firing.{IsBox-of}
use Rattle.ctc_parts.specs.Parts.{each_below}
use Rattle.ctc_parts.proofs.Members.{single-length, single-at}
use Rattle.ctc_sweeps.specs.DerivSweeps.{deriv_sweep_scope}

module _ (s : Shape) (x rate : ℕ) where
  -- the first cells are the gates of the signal
  pub scope-gate : (i : ℕ) → i < length s.grid → slice_index (deriv_sweep_scope s x rate) i ≡ slice_index s.signals x + 2 * i
  scope-gate i l =
      get_or-append (each_below (λ k. (slice_index s.signals x + 2 * k) ∷ []) (length s.grid)) (each_below (λ k. (slice_index s.signals rate + 1 + k) ∷ []) (2 * (length s.grid - 1))) 0 i
      (omega (arith, l, single-length (λ k. slice_index s.signals x + 2 * k) (length s.grid)))
      ∙ single-at (λ k. slice_index s.signals x + 2 * k) (length s.grid) i 0 l

  -- then come the cells of the rate but its first gate
  pub scope-cell : (j : ℕ) → j < 2 * (length s.grid - 1) → slice_index (deriv_sweep_scope s x rate) (length s.grid + j) ≡ slice_index s.signals rate + 1 + j
  scope-cell j l =
      ap (λ (n : ℕ). slice_index (deriv_sweep_scope s x rate) (n + j)) (sym (single-length (λ k. slice_index s.signals x + 2 * k) (length s.grid)))
      ∙ get_or-append-add (each_below (λ k. (slice_index s.signals x + 2 * k) ∷ []) (length s.grid)) (each_below (λ k. (slice_index s.signals rate + 1 + k) ∷ []) (2 * (length s.grid - 1))) j 0
      ∙ single-at (λ k. slice_index s.signals rate + 1 + k) (2 * (length s.grid - 1)) j 0 l

  -- how many they are
  pub scope-count : length (deriv_sweep_scope s x rate) ≡ length s.grid + 2 * (length s.grid - 1)
  scope-count = omega (
    arith,
    length-append (each_below (λ k. (slice_index s.signals x + 2 * k) ∷ []) (length s.grid)) (each_below (λ k. (slice_index s.signals rate + 1 + k) ∷ []) (2 * (length s.grid - 1))),
    single-length (λ k. slice_index s.signals x + 2 * k) (length s.grid),
    single-length (λ k. slice_index s.signals rate + 1 + k) (2 * (length s.grid - 1)),
  )

-- what a test of a fixpoint says of each projection
pub checks-still : (ps : List Projection) (s : State) (still : Bool) → IsStore s → (IsTrue still → IsSomeAnd s.box (λ xs. IsFixpoint ps xs → ⊥)) → (IsFalse still → IfSome s.box (IsFixpoint ps)) → Checks ps s.box (not still)
checks-still ps s still store moves stays = at s.box still (IsBox-of s store) moves stays
  where
    at : (b : Option (List Span)) (still : Bool) → IfSome b IsBox → (IsTrue still → IsSomeAnd b (λ xs. IsFixpoint ps xs → ⊥)) → (IsFalse still → IfSome b (IsFixpoint ps)) → Checks ps b (not still)
    at None still box moves stays = tt
    at (Some xs) true box moves stays = (λ t. absurd (cc), λ a. absurd (moves refl (record { box = box; stable = a })))
    at (Some xs) false box moves stays = (λ t. (stays refl).stable, λ a. refl)
