-- Revisits of a trajectory.
use Rattle.std.specs.Prelude.{ℕ, ◌+◌, ◌≤◌, ℤ, neg_ℤ, ◌-ℤ◌, IsTrue}
use Rattle.std.specs.Int.{int_max}
use Rattle.tube_spec.specs.Span.{natural}
use Rattle.tube_names.specs.Nearness.{is_near}
use Rattle.tube_names.specs.declared.queries.Query.{Query}

-- the absolute value
abbrev pub magnitude : ℤ → ℕ
magnitude d = natural (int_max d (neg_ℤ d))

-- The places at ticks a and b, of a trajectory whose values are x and y, are near, and so many ticks lie between as the query asks.
pub record IsRevisit (q : Query) (last : ℕ) (x y : ℕ → ℤ) (a b : ℕ) : Type 0 where
  pub apart : a + q.gap ≤ b
  pub within : b ≤ last
  pub near : IsTrue (is_near q.norm (natural q.radius) (magnitude (x b -ℤ x a)) (magnitude (y b -ℤ y a)))
