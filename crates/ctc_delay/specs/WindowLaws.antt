-- The laws of held places as projections.
use Rattle.std.proofs.Common.{◌<◌, List, arith, All}
use Rattle.std.specs.List.{range_with_len}
use Rattle.std.proofs.lemmas.List.Elements.{All-map}
use Rattle.std.proofs.lemmas.List.FromFn.{length-range_with_len, get_or-range_with_len}
use Rattle.tube_spec.specs.Span.{Span}
use Rattle.tube_spec.specs.Shape.{Shape, IsShape}
use Rattle.tube_spec.specs.Projection.{Projection, IsMonotone}
use Rattle.tube_spec.proofs.Spans.{IsWithin-refl}
use Rattle.ctc_delay.specs.declared.held.Held.{Held}
use Rattle.ctc_delay.specs.Windows.{held_projection, held_projections, HeldFits}

pub held-monotone : (Fits : List Span → Type 0) (s : Shape) (h : Held) → All (IsMonotone Fits) (held_projections s h)
held-monotone Fits s h = All-map (IsMonotone Fits) (held_projection s h) (range_with_len 0 h.count) (λ k d l xs ys bx by fits low. IsWithin-refl _)

pub held-in_store : (s : Shape) (h : Held) → IsShape s → HeldFits s h → All (λ (p : Projection). p.target < s.cells) (held_projections s h)
held-in_store s h shape fits =
    All-map (λ (p : Projection). p.target < s.cells) (held_projection s h) (range_with_len 0 h.count) (λ k d l.
    let n = length-range_with_len 0 h.count in
    let at = get_or-range_with_len 0 h.count k d (omega (arith, l, n)) in
    let named = shape.signals h.signal.0 0 fits.signal in
    omega (arith, at, named, fits.places, l, n))
