-- The intervals of a signal's ticks, one after the other.
use Rattle.std.proofs.Common.{◌≡◌, ℕ, ◌+◌, List, [], ◌∷◌, ◌++◌, Option, Some, None, map, length, length-append, arith, sym, ap, ◌∙◌}
use Rattle.std.specs.Option.{IfSome}
use Rattle.std.specs.List.{range_with_len}
use Rattle.std.proofs.lemmas.List.FromFn.{map-range_with_len_more}
use Rattle.tube_spec.specs.Span.{Span}
use Rattle.tube_spec.specs.Shape.{Shape}
use Rattle.tube_spec.specs.Tick.{at_tick}

-- one tick more
pub tube-more : (box : Option (List Span)) (s : Shape) (signal k : ℕ) (items more : List Span) (x : Span) → IfSome box (λ xs. items ≡ map (at_tick s xs signal) (range_with_len 0 k))
    → IfSome box (λ xs. x ≡ at_tick s xs signal k) → more ≡ items ++ x ∷ [] → IfSome box (λ xs. more ≡ map (at_tick s xs signal) (range_with_len 0 (k + 1)))
tube-more None s signal k items more x h e m = tt
tube-more (Some xs) s signal k items more x h e m =
    m ∙ ap (λ (l : List Span). l ++ x ∷ []) h ∙ ap (λ (y : Span). map (at_tick s xs signal) (range_with_len 0 k) ++ y ∷ []) e
    ∙ sym (map-range_with_len_more (at_tick s xs signal) 0 k k (omega arith))

pub length-push : (items more : List Span) (x : Span) (k : ℕ) → length items ≡ k → more ≡ items ++ x ∷ [] → length more ≡ k + 1
length-push items more x k h e = ap (length {A = Span}) e ∙ length-append items (x ∷ []) ∙ ap (λ (n : ℕ). n + 1) h
