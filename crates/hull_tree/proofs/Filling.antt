-- The intervals of a signal's ticks, slice by slice.
use Rattle.std.proofs.Common.{◌≡◌, ℕ, zero, suc, ◌+◌, ◌-◌, ◌*◌, ◌<◌, ◌≤◌, List, [], ◌∷◌, ◌++◌, Option, Some, None, length, map, replicate, slice_index, append_assoc, pos, arith, refl, sym, ap, subst, ◌∙◌}
use Rattle.std.specs.Option.{IfSome}
use Rattle.std.specs.List.{range_with_len}
use Rattle.std.proofs.lemmas.Int.{ints}
use Rattle.tube_spec.specs.Span.{Span, IsProper, IsBounded}
use Rattle.tube_spec.specs.Grid.{IsGrid, last_tick}
use Rattle.tube_spec.specs.Shape.{Shape, gate_cell, envelope_cell, slice_width}
use Rattle.tube_spec.specs.Box.{cell_at, IsBox, AreBounded}
use Rattle.tube_spec.specs.Tick.{at_tick, tick_place}
use Rattle.tube_spec.proofs.Ticks.{tick_place-gate, tick_place-inside}
use Rattle.hull_tree.specs.Tubes.{IsTubeTo}
use Rattle.hull_tree.proofs.Blocks.{each-more}
use Rattle.hull_tree.proofs.Tubes.{tube-more, length-push}

append-none : (items : List Span) → items ++ [] ≡ items
append-none [] = refl
append-none (x ∷ xs) = ap (λ (l : List Span). x ∷ l) (append-none xs)

pub tube-same : (s : Shape) (box : Option (List Span)) (signal k n : ℕ) (items more : List Span) → k ≡ n → items ≡ more → IsTubeTo s box signal k items → IsTubeTo s box signal n more
tube-same s box signal k n items more e f is = subst (λ (m : ℕ). IsTubeTo s box signal m more) e (subst (λ (l : List Span). IsTubeTo s box signal k l) f is)

-- one tick more
pub tick-pushed : (s : Shape) (box : Option (List Span)) (signal k : ℕ) (items more : List Span) (x : Span) → IsTubeTo s box signal k items → IfSome box (λ xs. x ≡ at_tick s xs signal k)
    → IsProper x → IsBounded 500000000 x → more ≡ items ++ x ∷ [] → IsTubeTo s box signal (k + 1) more
tick-pushed s box signal k items more x is e p b all = record {
  len = length-push items more x k is.len all;
  made = tube-more box s signal k items more x is.made e all;
  proper = subst IsBox (sym all) (each-more IsProper items x is.proper p (omega (arith, ints)));
  bounded = subst AreBounded (sym all) (each-more (IsBounded 500000000) items x is.bounded b (record { low = omega (arith, ints); high = omega (arith, ints) }));
}

-- some ticks more, of one interval
pub ticks-filled : (s : Shape) (box : Option (List Span)) (signal : ℕ) (x : Span) → IsProper x → IsBounded 500000000 x → (n k : ℕ) (items : List Span) → IsTubeTo s box signal k items
    → ((j : ℕ) → k ≤ j → j < k + n → IfSome box (λ xs. x ≡ at_tick s xs signal j)) → IsTubeTo s box signal (k + n) (items ++ replicate n x)
ticks-filled s box signal x p b zero k items is each = tube-same s box signal k (k + 0) items (items ++ []) (omega arith) (sym (append-none items)) is
ticks-filled s box signal x p b (suc n) k items is each =
    let more : IsTubeTo s box signal (k + 1) (items ++ x ∷ []) = tick-pushed s box signal k items (items ++ x ∷ []) x is (each k (omega arith) (omega arith)) p b refl in
    tube-same s box signal (k + 1 + n) (k + suc n) ((items ++ x ∷ []) ++ replicate n x) (items ++ (x ∷ replicate n x)) (omega arith) (append_assoc items (x ∷ []) (replicate n x))
    (ticks-filled s box signal x p b n (k + 1) (items ++ x ∷ []) more (λ j l h. each j (omega (arith, l)) (omega (arith, h))))

-- what stands at a cell is what the box has at each tick of it
cell-value : (s : Shape) (box : Option (List Span)) (signal k c : ℕ) (x : Span) → c ≡ slice_index s.signals signal + tick_place s.grid k → IfSome box (λ xs. x ≡ cell_at xs c) → IfSome box (λ xs. x ≡ at_tick s xs signal k)
cell-value s None signal k c x e v = tt
cell-value s (Some xs) signal k c x e v = v ∙ ap (cell_at xs) e

pub gate-value : (s : Shape) (box : Option (List Span)) (signal i c : ℕ) (x : Span) → IsGrid s.grid → i < length s.grid → c ≡ gate_cell s signal i → IfSome box (λ xs. x ≡ cell_at xs c)
    → IfSome box (λ xs. x ≡ at_tick s xs signal (slice_index s.grid i))
gate-value s box signal i c x is l e v =
    let there : tick_place s.grid (slice_index s.grid i) ≡ 2 * i = tick_place-gate s.grid is.rising i l in
    cell-value s box signal (slice_index s.grid i) c x (omega (arith, e, there)) v

pub inside-value : (s : Shape) (box : Option (List Span)) (signal i k c : ℕ) (x : Span) → IsGrid s.grid → i + 1 < length s.grid → slice_index s.grid i < k → k < slice_index s.grid (i + 1) → c ≡ envelope_cell s signal i
    → IfSome box (λ xs. x ≡ cell_at xs c) → IfSome box (λ xs. x ≡ at_tick s xs signal k)
inside-value s box signal i k c x is l low high e v =
    let there : tick_place s.grid k ≡ 2 * i + 1 = tick_place-inside s.grid is.rising i k l low high in
    cell-value s box signal k c x (omega (arith, e, there)) v

-- a slice more: its gate, and its envelope at the ticks between
pub slice-pushed : (s : Shape) (box : Option (List Span)) (signal i c d n : ℕ) (items one all : List Span) (x y : Span) → IsGrid s.grid → i + 1 < length s.grid → IsTubeTo s box signal (slice_index s.grid i) items
    → c ≡ gate_cell s signal i → d ≡ envelope_cell s signal i → IfSome box (λ xs. x ≡ cell_at xs c) → IfSome box (λ xs. y ≡ cell_at xs d) → IsProper x → IsProper y → IsBounded 500000000 x → IsBounded 500000000 y
    → one ≡ items ++ x ∷ [] → all ≡ one ++ replicate n y → n ≡ slice_width s i - 1 → IsTubeTo s box signal (slice_index s.grid (i + 1)) all
slice-pushed s box signal i c d n items one all x y is l begun ec ed ex ey px py bx bb eo ea en =
    let up = is.rising i l in
    let first : IsTubeTo s box signal (slice_index s.grid i + 1) one = tick-pushed s box signal (slice_index s.grid i) items one x begun (gate-value s box signal i c x is (omega (arith, l)) ec ex) px bx eo in
    tube-same s box signal (slice_index s.grid i + 1 + n) (slice_index s.grid (i + 1)) (one ++ replicate n y) all (omega (arith, up, en)) (sym ea)
    (ticks-filled s box signal y py bb n (slice_index s.grid i + 1) one first (λ j low high. inside-value s box signal i j d y is l (omega (arith, low)) (omega (arith, high, up, en)) ed ey))

-- before the first slice, and past the last
pub none-yet : (s : Shape) (box : Option (List Span)) (signal k : ℕ) (items : List Span) → k ≡ 0 → items ≡ [] → IsTubeTo s box signal k items
none-yet s box signal k items e f = tube-same s box signal 0 k [] items (sym e) (sym f) (record {
  len = refl;
  made = made box;
  proper = λ j. omega (arith, ints);
  bounded = λ j. record { low = omega (arith, ints); high = omega (arith, ints) };
})
  where
    made : (o : Option (List Span)) → IfSome o (λ xs. [] ≡ map (at_tick s xs signal) (range_with_len 0 0))
    made None = tt
    made (Some xs) = refl

pub tube-ended : (s : Shape) (box : Option (List Span)) (signal i c : ℕ) (items more : List Span) (x : Span) → IsGrid s.grid → i + 1 ≡ length s.grid → IsTubeTo s box signal (slice_index s.grid i) items
    → c ≡ gate_cell s signal i → IfSome box (λ xs. x ≡ cell_at xs c) → IsProper x → IsBounded 500000000 x → more ≡ items ++ x ∷ [] → IsTubeTo s box signal (last_tick s.grid + 1) more
tube-ended s box signal i c items more x is l begun e v p b all =
    let n : i ≡ length s.grid - 1 = omega (arith, l) in
    let same : slice_index s.grid i + 1 ≡ last_tick s.grid + 1 = ap (λ (k : ℕ). slice_index s.grid k + 1) n in
    tube-same s box signal (slice_index s.grid i + 1) (last_tick s.grid + 1) more more same refl
    (tick-pushed s box signal (slice_index s.grid i) items more x begun (gate-value s box signal i c x is (omega (arith, l)) e v) p b all)
