-- What the code reads of its variables, and the places of the projections.
use Rattle.std.proofs.Common.{◌≡◌, ℕ, ◌+◌, ◌*◌, ◌-◌, ◌<◌, ◌≤◌, Option, Some, None, IfSome, List, ◌++◌, add-one, inl, inr, ◌⊎◌, ℤ, arith, sym, ap, ◌∙◌, length, slice_index, map, All, length-append}
use Rattle.std.specs.List.{range_with_len}
use Rattle.std.proofs.lemmas.List.{get_or-map, get_or_append_left, get_or-append_right, map-append}
use Rattle.std.proofs.lemmas.List.FromFn.{length-map-range_with_len, get_or-map-range_with_len}
use Rattle.std.proofs.lemmas.Int.{ints}
use Rattle.std.proofs.lemmas.List.Elements.{All-append}
use Rattle.tube_spec.specs.Span.{Span, Holds, IsBounded, add_of}
use Rattle.tube_spec.specs.Hull.{IsHullOf}
use Rattle.tube_spec.specs.Shape.{Shape}
use Rattle.tube_spec.specs.Projection.{Projection}
use Rattle.tube_store.specs.declared.VarId.{VarId}
use Rattle.ctc_core.specs.Given.{projection_at, no_projection}
use Rattle.tube_names.specs.Points.{numbers, cells_of}
use Rattle.tube_names.proofs.Numbers.{cells-length}
use Rattle.ctc_dist.specs.Distances.{span_sum_below, dimension, forth, back, dist_projections_at}

pub dimension-is : (s : Shape) (p b : List VarId) (n : ℕ) → length p ≡ n → length b ≡ n → dimension (cells_of s (numbers p)) (cells_of s (numbers b)) ≡ n
dimension-is s p b n ep eb = omega (arith, ep, eb, cells-length s p, cells-length s b)

-- the projections on the first point come first
module _ (p b : List ℕ) (q : Span) where
  pub projections-length : length (dist_projections_at p b q) ≡ 2 * dimension p b
  projections-length =
      omega (arith, length-append (map (forth p b q) (range_with_len 0 (dimension p b))) (map (back p b q) (range_with_len 0 (dimension p b))), length-map-range_with_len (forth p b q) 0 (dimension p b), length-map-range_with_len (back p b q) 0 (dimension p b))

  pub forth-at : (i : ℕ) → i < dimension p b → projection_at (dist_projections_at p b q) i ≡ forth p b q i
  forth-at i l =
      let here = map (forth p b q) (range_with_len 0 (dimension p b)) in
      let size = length-map-range_with_len (forth p b q) 0 (dimension p b) in
      get_or_append_left here (map (back p b q) (range_with_len 0 (dimension p b))) no_projection i (omega (arith, l, size))
      ∙ get_or-map-range_with_len (forth p b q) 0 (dimension p b) i i no_projection l (omega arith)

  pub back-at : (i : ℕ) → dimension p b ≤ i → i < 2 * dimension p b → projection_at (dist_projections_at p b q) i ≡ back p b q (i - dimension p b)
  back-at i m l =
      let here = map (forth p b q) (range_with_len 0 (dimension p b)) in
      let size = length-map-range_with_len (forth p b q) 0 (dimension p b) in
      get_or-append_right here (map (back p b q) (range_with_len 0 (dimension p b))) (dimension p b) i no_projection size m
      ∙ get_or-map-range_with_len (back p b q) 0 (dimension p b) (i - dimension p b) (i - dimension p b) no_projection (omega (arith, m, l)) (omega arith)

-- the cell of a variable of both points, as a target and among those that are read
pub scope-at : (s : Shape) (p b : List ℕ) (i : ℕ) → i < length p + length b → slice_index s.vars (slice_index (p ++ b) i) ≡ slice_index (cells_of s p ++ cells_of s b) i
scope-at s p b i l =
    sym (get_or-map (slice_index s.vars) (p ++ b) i 0 0 (omega (arith, l, length-append p b))) ∙ ap (λ (cells : List ℕ). slice_index cells i) (map-append (slice_index s.vars) p b)

below-or : (i n : ℕ) → (i < n) ⊎ (n ≤ i)
below-or i n = grind arith

pub target-at : (p b : List ℕ) (q : Span) → length b ≡ length p → (i : ℕ) → i < 2 * length p → slice_index (p ++ b) i ≡ (projection_at (dist_projections_at p b q) i).target
target-at p b q alike i l = elim (below-or i (dimension p b)) [
  | inl m ↦ get_or_append_left p b 0 i (omega (arith, m)) ∙ ap (λ (x : Projection). x.target) (sym (forth-at p b q i m))
  | inr m ↦ get_or-append_right p b (dimension p b) i 0 (omega (arith, alike)) m ∙ ap (λ (x : Projection). x.target) (sym (back-at p b q i m (omega (arith, alike, l))))
]

pub both-named : (n : ℕ) (p b : List ℕ) → All (λ v. v < n) p → All (λ v. v < n) b → (i : ℕ) → i < length p + length b → slice_index (p ++ b) i < n
both-named n p b one other i l = All-append (λ (v : ℕ). v < n) p b one other i 0 (omega (arith, l, length-append p b))

-- one term more
pub span_sum-more : (f : ℕ → Span) (n : ℕ) → span_sum_below f (n + 1) ≡ add_of (span_sum_below f n) (f n)
span_sum-more f n = ap (span_sum_below f) (add-one n)

-- a hull of members is bounded as they are
pub hull-bounded : (bound : ℕ) (d : Span) (P : ℤ → Type 0) (o : Option Span) → IsHullOf (λ p. Holds d p × P p) o → IsBounded bound d → IfSome o (IsBounded bound)
hull-bounded bound d P None h k = tt
hull-bounded bound d P (Some s) h k =
    let low = h.0.0 in
    let high = h.1.0 in
    record { low = omega (arith, ints, k, low); high = omega (arith, ints, k, high) }
