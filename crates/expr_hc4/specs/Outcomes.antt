-- What the two passes answer.
use Rattle.std.specs.Prelude.{ℕ, List}
use Rattle.tube_spec.specs.Span.{Span}
use Rattle.tube_spec.specs.Narrowing.{Narrowing}
use Rattle.tube_spec.specs.Narrowing as narrowings
use Rattle.tube_spec.specs.Box.{cell_at}
use Rattle.expr_hc4.specs.declared.passes.Ending.{Ending}
use Rattle.expr_hc4.specs.declared.passes.Ending.TheVariants.{Whole, Nothing, Within}

-- what the passes leave of the entry with a number, from how they end and the targets
abbrev pub outcome_at : Ending → List Span → ℕ → Narrowing
outcome_at Whole targets j = narrowings.Whole
outcome_at Nothing targets j = narrowings.Nothing
outcome_at Within targets j = narrowings.Within (cell_at targets j)
