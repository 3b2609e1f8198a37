-- A projection that gives the same in every box.
use Rattle.std.specs.Prelude.{ℕ, Option}
use Rattle.tube_spec.specs.Span.{Span}
use Rattle.tube_spec.specs.Narrowing.{narrowing_of}
use Rattle.tube_spec.specs.Projection.{Projection}

-- the cell lies within this interval, or there is nothing to lie in
abbrev pub fixed : ℕ → Option Span → Projection
fixed cell to = record { target = cell; formula = λ xs. narrowing_of to }
