-- The cells before a cell.
use Rattle.std.proofs.Common.{◌≡◌, ℕ, zero, suc, ◌-◌, ◌<◌, List, arith, ap}
use Rattle.loop_degree.specs.Pairs.{has}
use Rattle.loop_degree.specs.Cells.{has_before_a, has_before_b}

pub before_b : (cells : List (ℕ × ℕ)) (a b : ℕ) → 0 < b → has cells (a, b - 1) ≡ has_before_b cells a b
before_b cells a zero h = absurd (omega arith)
before_b cells a (suc b) h = let e : suc b - 1 ≡ b = omega arith in ap (λ (k : ℕ). has cells (a, k)) e

pub before_a : (cells : List (ℕ × ℕ)) (a b : ℕ) → 0 < a → has cells (a - 1, b) ≡ has_before_a cells a b
before_a cells zero b h = absurd (omega arith)
before_a cells (suc a) b h = let e : suc a - 1 ≡ a = omega arith in ap (λ (k : ℕ). has cells (k, b)) e
