-- Steps of signals from tick to tick, and their bounds over a list of cells.
use Rattle.std.specs.Prelude.{ℕ, ◌+◌, cond, List, ℤ, pos, ◌+ℤ◌, neg_ℤ, int_le}
use Rattle.std.specs.Int.{int_max}
use Rattle.std.specs.List.{fold}
use Rattle.tube_spec.specs.Span.{Span, meet_of, sub_of}

-- what each signal may be at each tick
abbrev pub Tubes : Type 0
Tubes = ℕ → ℕ → Span

-- The step of x at tick k: X(k + 1) - X(k), met with V(k) for every rate v.
abbrev pub step_of : Tubes → ℕ → List ℕ → ℕ → Span
step_of tubes x rates k = fold (λ step v. meet_of step (tubes v k)) (sub_of (tubes x (k + 1)) (tubes x k)) rates

-- the greatest absolute value of a span's numbers, 0 where it has none
abbrev pub greatest_in : Span → ℤ
greatest_in s = cond (int_le s.lo s.hi) (int_max (neg_ℤ s.lo) s.hi) (pos 0)

-- the greatest f a + f b over the cells (a, b), and at least 1
abbrev pub greatest_sum : (ℕ → ℤ) → List (ℕ × ℕ) → ℤ
greatest_sum f cells = fold (λ top c. int_max top (f c.0 +ℤ f c.1)) (pos 1) cells

-- The step bound of x over cells: the greatest, over the cells, of the sum of the greatest absolute steps at a and at b, and at least 1.
abbrev pub step_bound_of : Tubes → ℕ → List ℕ → List (ℕ × ℕ) → ℤ
step_bound_of tubes x rates cells = greatest_sum (λ k. greatest_in (step_of tubes x rates k)) cells
