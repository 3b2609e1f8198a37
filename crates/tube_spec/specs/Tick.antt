-- What a tube holds at a tick, and over ticks.
use Rattle.std.specs.Prelude.{ℕ, zero, suc, ◌+◌, ◌-◌, List, [], ◌∷◌, cond, leb, ltb, slice_index}
use Rattle.tube_spec.specs.Span.{Span, join_of}
use Rattle.tube_spec.specs.Shape.{Shape}
use Rattle.tube_spec.specs.Box.{cell_at}

-- The place of a tick among the cells of a signal, which go gate, envelope, gate and so on:
-- the gate where the tick is a boundary, and the envelope of its slice otherwise.
abbrev pub tick_place : List ℕ → ℕ → ℕ
tick_place [] k = 0
tick_place (a ∷ []) k = 0
tick_place (a ∷ (b ∷ rest)) k = cond (leb k a) 0 (cond (ltb k b) 1 (suc (suc (tick_place (b ∷ rest) k))))

-- the cell of a signal's tick
abbrev pub tick_cell : Shape → ℕ → ℕ → ℕ
tick_cell s signal k = slice_index s.signals signal + tick_place s.grid k

-- what a box gives a signal at a tick
abbrev pub at_tick : Shape → List Span → ℕ → ℕ → Span
at_tick s xs signal k = cell_at xs (tick_cell s signal k)

-- the least span that holds f a, f (a + 1) and so on up to f (a + n)
abbrev pub join_over : (ℕ → Span) → ℕ → ℕ → Span
join_over f a zero = f a
join_over f a (suc n) = join_of (join_over f a n) (f (a + suc n))

-- the hull of what a box gives a signal at the ticks from the first to the last
abbrev pub over_ticks : Shape → List Span → ℕ → ℕ → ℕ → Span
over_ticks s xs signal first last = join_over (at_tick s xs signal) first (last - first)
