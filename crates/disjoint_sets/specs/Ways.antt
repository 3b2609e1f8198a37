-- Ways of a relation, and what hangs together by it.
use Rattle.std.specs.Prelude.{◌≡◌, ℕ, zero, suc, ◌⊎◌}

-- a way of n steps from i to j, each forth or back
abbrev pub Way : (ℕ → ℕ → Type 0) → ℕ → ℕ → ℕ → Type 0
Way T zero i j = i ≡ j
Way T (suc n) i j = (k : ℕ) × (T i k ⊎ T k i) × Way T n k j

-- two numbers hang together: the least equivalence above the relation
abbrev pub Joined : (ℕ → ℕ → Type 0) → ℕ → ℕ → Type 0
Joined T i j = (n : ℕ) × Way T n i j

-- what the one relation joins at one step, the other joins
abbrev pub Maps : (ℕ → ℕ → Type 0) → (ℕ → ℕ → Type 0) → Type 0
Maps S T = (i j : ℕ) → S i j → Joined T i j
