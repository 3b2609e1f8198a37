-- The place of a tick among the cells of a signal.
use Rattle.std.proofs.Common.{◌≡◌, ℕ, suc, ◌+◌, ◌-◌, ◌*◌, ◌<◌, ◌≤◌, ◌⊎◌, inl, inr, List, [], ◌∷◌, Some, None, arith, ap, sym, subst, ◌∙◌, length, slice_index, cond, leb, ltb}
use Rattle.std.proofs.lemmas.Bool.{cases_lt}
use Rattle.std.proofs.lemmas.Bool.Decides.{nat_tests}
use Rattle.tube_spec.specs.Grid.{IsGrid, last_tick}
use Rattle.tube_spec.specs.Tick.{tick_place}
use Rattle.tube_spec.proofs.Ticks.{tick_place-gate, tick_place-inside}
use Rattle.slice_gates.specs.Ticks.{IsSliceOf, IsGateOf}

mono-step : (k l a b p q : ℕ) → k ≤ l → p ≤ q → cond (leb k a) 0 (cond (ltb k b) 1 (suc (suc p))) ≤ cond (leb l a) 0 (cond (ltb l b) 1 (suc (suc q)))
mono-step k l a b p q h le = grind (arith, nat_tests)

-- a later tick is at no earlier place
pub tick_place-mono : (grid : List ℕ) (k l : ℕ) → k ≤ l → tick_place grid k ≤ tick_place grid l
tick_place-mono [] k l h = omega arith
tick_place-mono (a ∷ []) k l h = omega arith
tick_place-mono (a ∷ (b ∷ rest)) k l h = mono-step k l a b (tick_place (b ∷ rest) k) (tick_place (b ∷ rest) l) h (tick_place-mono (b ∷ rest) k l h)

bound-step : (k a b p n : ℕ) → p + 1 < 2 * n → cond (leb k a) 0 (cond (ltb k b) 1 (suc (suc p))) + 1 < 2 * suc n
bound-step k a b p n h = grind (arith, nat_tests)

-- each tick is at a cell of its signal
pub tick_place-lt : (grid : List ℕ) (k : ℕ) → 1 ≤ length grid → tick_place grid k + 1 < 2 * length grid
tick_place-lt [] k h = absurd (omega (arith, h))
tick_place-lt (a ∷ []) k h = omega arith
tick_place-lt (a ∷ (b ∷ rest)) k h = bound-step k a b (tick_place (b ∷ rest) k) (length (b ∷ rest)) (tick_place-lt (b ∷ rest) k (omega arith))

-- the place of a tick at a boundary
pub tick_place-at_gate : (grid : List ℕ) (tick i : ℕ) → IsGrid grid → IsGateOf grid tick (Some i) → tick_place grid tick ≡ 2 * i
tick_place-at_gate grid tick i is gate = ap (tick_place grid) (sym gate.1) ∙ tick_place-gate grid is.rising i gate.0

-- the place of a tick that is no boundary
pub tick_place-in_slice : (grid : List ℕ) (tick i : ℕ) → IsGrid grid → tick ≤ last_tick grid → IsGateOf grid tick None → IsSliceOf grid tick i → tick_place grid tick ≡ 2 * i + 1
tick_place-in_slice grid tick i is last none slice =
    tick_place-inside grid is.rising i tick slice.among (strictly (slice_index grid i) tick slice.begins (none i (omega (arith, slice.among)))) (before (cases_lt tick (slice_index grid (i + 1))))
  where
    strictly : (a b : ℕ) → a ≤ b → (a ≡ b → ⊥) → a < b
    strictly a b h n = grind arith

    before : (tick < slice_index grid (i + 1)) ⊎ (slice_index grid (i + 1) ≤ tick) → tick < slice_index grid (i + 1)
    before (inl h) = h
    before (inr h) = elim (cases_lt ((i + 1) + 1) (length grid)) [
      | inl more ↦ absurd (omega (arith, slice.greatest (i + 1) more h))
      | inr end ↦
          let same : length grid - 1 ≡ i + 1 = omega (arith, slice.among, end) in
          absurd (none (i + 1) slice.among (omega (arith, h, subst (λ (n : ℕ). tick ≤ slice_index grid n) same last)))
    ]
