use Rattle.expr_values.proofs.Monotone.{value-mono, entry-mono}
use Rattle.expr_values.proofs.Solutions.{value-holds, comparison-holds}
use Rattle.expr_values.proofs.laws.expression_law.Goals as goal

pub returns : goal.returns
returns c = record { member = value-holds; solution = comparison-holds; value = value-mono; narrowing = entry-mono }
