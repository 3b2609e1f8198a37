-- How large a number of so many digits is.
use Rattle.std.proofs.Common.{ℕ, ◌^◌, ◌<◌, ◌≤◌, Option, Some, None, IfSome, arith}
use Rattle.std.proofs.Math.Nat.{pow-le-pow_right}

-- at most eighteen digits are below 10 ^ 18
pub below_18 : (n i : ℕ) → n < 10 ^ i → i ≤ 18 → n < 1000000000000000000
below_18 n i h k = let most : 10 ^ i ≤ 10 ^ 18 = pow-le-pow_right {n = 10} (omega arith) k in omega arith

pub some_below_18 : (r : Option ℕ) (i : ℕ) → i ≤ 18 → IfSome r (λ n. n < 10 ^ i) → IfSome r (λ n. n < 1000000000000000000)
some_below_18 (Some n) i k h = below_18 n i h k
some_below_18 None i k h = tt
