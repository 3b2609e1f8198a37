-- Projections by their places in a list, and what code answers of a formula.
use Rattle.std.specs.Prelude.{ℕ, List, slice_index_or}
use Rattle.tube_spec.specs.Narrowing.{Narrowing}
use Rattle.tube_spec.specs.Narrowing as narrowings
use Rattle.tube_spec.specs.Projection.{Projection}
use Rattle.ctc_core.specs.declared.one_by_one.Given.{Given}
use Rattle.ctc_core.specs.declared.one_by_one.Given.TheVariants.{Whole, Nothing, Within}

-- a projection that asks nothing
abbrev pub no_projection : Projection
no_projection = record { target = 0; formula = λ xs. narrowings.Whole }

-- the projection with a number, and past the last one that asks nothing
abbrev pub projection_at : List Projection → ℕ → Projection
projection_at ps i = slice_index_or ps i no_projection

-- an answer as a narrowing
abbrev pub narrowing_given : Given → Narrowing
narrowing_given Whole = narrowings.Whole
narrowing_given Nothing = narrowings.Nothing
narrowing_given (Within s) = narrowings.Within s
