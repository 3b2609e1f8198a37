-- What a query may ask, in a store of so many signals.
use Rattle.std.specs.Prelude.{ℕ, ◌<◌, ℤ, pos, ◌≤ℤ◌}
use Rattle.tube_spec.specs.Limits.{greatest_radius}
use Rattle.tube_names.specs.declared.queries.Query.{Query}

-- both signals of a query are among the first n
pub record HasSignals (n : ℕ) (q : Query) : Type 0 where
  pub x : q.x.0 < n
  pub y : q.y.0 < n

-- a radius, in millimetres, is from 0 to 2,000,000,000
pub record IsRadius (r : ℤ) : Type 0 where
  pub least : pos 0 ≤ℤ r
  pub most : r ≤ℤ pos greatest_radius

-- A query that may be asked where there are n signals: it names two of them, and its radius is one. Its gap may be any.
pub record IsAsked (n : ℕ) (q : Query) : Type 0 where
  pub signals : HasSignals n q
  pub radius : IsRadius q.radius
