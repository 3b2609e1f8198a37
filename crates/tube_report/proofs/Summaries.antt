-- The cells of a signal, slice by slice: an envelope and the gate on its right.
use Rattle.std.proofs.Common.{◌≡◌, ℕ, suc, ◌+◌, ◌*◌, ◌≤◌, ap, ◌∙◌, arith, map, sum_by}
use Rattle.std.specs.List.{range_with_len}
use Rattle.std.proofs.lemmas.List.FromFn.{sum_by-map-range_with_len_more}
use Rattle.tube_spec.specs.Span.{Span, IsBounded, join_of, width_of}
use Rattle.tube_spec.specs.Tick.{join_over}
use Rattle.tube_spec.proofs.Widths.{width-le}

-- the span over one slice more
pub range_more : (f : ℕ → Span) (i : ℕ) (range envelope gate : Span) → range ≡ join_over f 0 (2 * i) → envelope ≡ f (2 * i + 1) → gate ≡ f (2 * i + 2)
    → join_of (join_of range envelope) gate ≡ join_over f 0 (2 * (i + 1))
range_more f i range envelope gate r e g =
    let n : suc (suc (2 * i)) ≡ 2 * (i + 1) = omega arith in
    let a : 2 * i + 1 ≡ 0 + suc (2 * i) = omega arith in
    let b : 2 * i + 2 ≡ 0 + suc (suc (2 * i)) = omega arith in
    ap (λ (s : Span). join_of (join_of s envelope) gate) r
    ∙ (ap (λ (s : Span). join_of (join_of (join_over f 0 (2 * i)) s) gate) (e ∙ ap f a)
    ∙ (ap (λ (s : Span). join_of (join_over f 0 (suc (2 * i))) s) (g ∙ ap f b) ∙ ap (join_over f 0) n))

-- the widths over one slice more
pub sum_more : (f : ℕ → Span) (i sum : ℕ) (envelope gate : Span) → sum ≡ sum_by width_of (map f (range_with_len 0 (2 * i + 1))) → envelope ≡ f (2 * i + 1) → gate ≡ f (2 * i + 2)
    → sum + (width_of envelope + width_of gate) ≡ sum_by width_of (map f (range_with_len 0 (2 * (i + 1) + 1)))
sum_more f i sum envelope gate s e g =
    let n : 2 * i + 1 + 1 + 1 ≡ 2 * (i + 1) + 1 = omega arith in
    let first = sum_by-map-range_with_len_more width_of f 0 (2 * i + 1) (2 * i + 1) (omega arith) in
    let second = sum_by-map-range_with_len_more width_of f 0 (2 * i + 1 + 1) (2 * i + 2) (omega arith) in
    let total = ap (λ (m : ℕ). sum_by width_of (map f (range_with_len 0 m))) n in
    omega (arith, s, first, second, total, ap width_of e, ap width_of g)

-- the width of what a cell may hold
pub width-small : (s : Span) → IsBounded 500000000 s → width_of s ≤ 1000000000
width-small s h = width-le s _ h
