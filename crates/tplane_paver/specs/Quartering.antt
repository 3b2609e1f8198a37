-- The quartering of the square of pairs.
use Rattle.std.specs.Prelude.{ℕ, zero, suc, ◌+◌, ◌-◌, ◌^◌, ◌≤◌, cond, ◌||◌, nat_le, min}
use Rattle.hull_tree.specs.Judging.{TickBox}
use Rattle.hull_tree.specs.declared.tree.Judged.{Judged}
use Rattle.hull_tree.specs.declared.tree.Judged.TheVariants.{Out, Within, Mixed}

-- the ticks of a square of the given side, up to the last of n
abbrev pub box_of : ℕ → ℕ → ℕ → ℕ → TickBox
box_of n side a b = record { first_a = a; last_a = min (a + side) n - 1; first_b = b; last_b = min (b + side) n - 1 }

abbrev pub one_mixed : Judged → ℕ
one_mixed Out = 0
one_mixed Within = 0
one_mixed Mixed = 1

-- 1 where the square has ticks both ways and is judged Mixed
abbrev pub mixed_at : (TickBox → Judged) → ℕ → ℕ → ℕ → ℕ → ℕ
mixed_at judge n side a b = cond (nat_le n a || nat_le n b) 0 (one_mixed (judge (box_of n side a b)))

-- how many squares of the quartering of a square of side 2 ^ d are judged Mixed, itself included
abbrev pub mixed_below : (TickBox → Judged) → ℕ → ℕ → ℕ → ℕ → ℕ
mixed_below judge n zero a b = mixed_at judge n 1 a b
mixed_below judge n (suc d) a b =
    mixed_at judge n (2 ^ suc d) a b
    + (mixed_below judge n d a b + mixed_below judge n d a (b + 2 ^ d)
    + (mixed_below judge n d (a + 2 ^ d) b + mixed_below judge n d (a + 2 ^ d) (b + 2 ^ d)))

-- the least power of two that is not below n
pub record IsRoot (n d : ℕ) : Type 0 where
  pub holds : n ≤ 2 ^ d
  pub least : (e : ℕ) → n ≤ 2 ^ e → d ≤ e
