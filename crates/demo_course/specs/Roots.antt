-- Whole square roots.
use Rattle.std.specs.Prelude.{ℕ, zero, suc, ◌*◌, nat_le, if◌then◌else◌}

-- the greatest number up to r whose square is at most n
unfoldable pub root_up_to : ℕ → ℕ → ℕ
root_up_to n zero = 0
root_up_to n (suc r) = if nat_le (suc r * suc r) n then suc r else root_up_to n r

-- the whole part of the square root
unfoldable pub whole_root : ℕ → ℕ
whole_root n = root_up_to n n
