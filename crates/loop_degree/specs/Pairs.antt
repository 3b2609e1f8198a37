-- Pairs of ticks, and lists of them in rising order.
use Rattle.std.specs.Prelude.{◌≡◌, ℕ, ◌<◌, ◌≤◌, Bool, ◌&&◌, List, length, nat_eq}
use Rattle.std.specs.List.{AllAdjacentBelow, list_any}

-- p comes before q: no later first tick, and an earlier second tick where the first ticks are the same
abbrev pub IsBefore : ℕ × ℕ → ℕ × ℕ → Type 0
IsBefore p q = (p.0 ≤ q.0) × (p.0 ≡ q.0 → p.1 < q.1)

-- each pair comes before the next
abbrev pub IsRising : List (ℕ × ℕ) → Type 0
IsRising ps = AllAdjacentBelow IsBefore ps (length ps)

abbrev pub is_same : ℕ × ℕ → ℕ × ℕ → Bool
is_same p q = nat_eq p.0 q.0 && nat_eq p.1 q.1

-- whether a pair is in a list
abbrev pub has : List (ℕ × ℕ) → ℕ × ℕ → Bool
has ps p = list_any (λ q. is_same q p) ps
