-- How many projections the contractors have and how many cells they read, and which.
use Rattle.std.proofs.Common.{◌≡◌, ℕ, ◌+◌, ◌*◌, ◌<◌, List, [], ◌∷◌, ◌++◌, arith, ap, subst, ◌∙◌, length, length-append, slice_index, get_or-append-add}
use Rattle.std.proofs.Math.ListN.{get_or-append}
use Rattle.tube_spec.specs.Shape.{Shape}
use Rattle.ctc_core.specs.Given.{projection_at, no_projection}
use Rattle.ctc_delay.specs.Places.{place_count, signal_cells}
use Rattle.ctc_delay.specs.Delays.{delay_to_at, delay_from_at, delay_to_projections, delay_from_projections, delay_to_scope, delay_from_scope, delay_shift_scope}
use Rattle.ctc_delay.specs.DelayLaws.{length-each_place, at-each_place}

module _ (s : Shape) (x y tau : ℕ) where
  pub length-to : length (delay_to_projections s x y tau) ≡ place_count s.grid
  length-to = length-each_place s.grid (delay_to_at s.grid (slice_index s.signals x) (slice_index s.signals y) (slice_index s.vars tau))

  pub length-from : length (delay_from_projections s x y tau) ≡ place_count s.grid
  length-from = length-each_place s.grid (delay_from_at s.grid (slice_index s.signals x) (slice_index s.signals y) (slice_index s.vars tau))

  pub to-at : (i : ℕ) → i < length (delay_to_projections s x y tau) → projection_at (delay_to_projections s x y tau) i ≡ delay_to_at s.grid (slice_index s.signals x) (slice_index s.signals y) (slice_index s.vars tau) i
  to-at i l = at-each_place s.grid (delay_to_at s.grid (slice_index s.signals x) (slice_index s.signals y) (slice_index s.vars tau)) i no_projection (subst (λ (n : ℕ). i < n) length-to l)

  pub from-at : (i : ℕ) → i < length (delay_from_projections s x y tau) → projection_at (delay_from_projections s x y tau) i ≡ delay_from_at s.grid (slice_index s.signals x) (slice_index s.signals y) (slice_index s.vars tau) i
  from-at i l = at-each_place s.grid (delay_from_at s.grid (slice_index s.signals x) (slice_index s.signals y) (slice_index s.vars tau)) i no_projection (subst (λ (n : ℕ). i < n) length-from l)

-- the cells of a signal, and further cells
module _ (grid : List ℕ) (first : ℕ) (more : List ℕ) where
  length-cells : length (signal_cells grid first) ≡ place_count grid
  length-cells = length-each_place grid (λ (place : ℕ). first + place)

  pub length-cells-more : length (signal_cells grid first ++ more) ≡ place_count grid + length more
  length-cells-more = length-append (signal_cells grid first) more ∙ ap (λ (n : ℕ). n + length more) length-cells

  pub cells-at : (i : ℕ) → i < place_count grid → slice_index (signal_cells grid first ++ more) i ≡ first + i
  cells-at i l = get_or-append (signal_cells grid first) more 0 i (omega (arith, l, length-cells)) ∙ at-each_place grid (λ (place : ℕ). first + place) i 0 l

  pub more-at : (i j : ℕ) → i ≡ place_count grid + j → slice_index (signal_cells grid first ++ more) i ≡ slice_index more j
  more-at i j e =
      let same : i ≡ length (signal_cells grid first) + j = omega (arith, e, length-cells) in
      ap (slice_index (signal_cells grid first ++ more)) same ∙ get_or-append-add (signal_cells grid first) more j 0

module _ (s : Shape) (x y tau : ℕ) where
  pub length-to_scope : length (delay_to_scope s x tau) ≡ place_count s.grid + 1
  length-to_scope = length-cells-more s.grid (slice_index s.signals x) (slice_index s.vars tau ∷ [])

  pub length-from_scope : length (delay_from_scope s y tau) ≡ place_count s.grid + 1
  length-from_scope = length-cells-more s.grid (slice_index s.signals y) (slice_index s.vars tau ∷ [])

  pub length-shift_scope : length (delay_shift_scope s x y tau) ≡ 2 * place_count s.grid + 1
  length-shift_scope =
      let rest = signal_cells s.grid (slice_index s.signals y) ++ slice_index s.vars tau ∷ [] in
      omega (arith, length-cells-more s.grid (slice_index s.signals x) rest, length-cells-more s.grid (slice_index s.signals y) (slice_index s.vars tau ∷ []))
