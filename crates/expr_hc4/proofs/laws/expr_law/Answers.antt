use Rattle.tube_names.proofs.Uses.{uses-distinct}
use Rattle.expr_hc4.proofs.Nameless.{no-projection, same-store}
use Rattle.expr_hc4.proofs.Stable.{expr-stable, expr-within}
use Rattle.expr_hc4.proofs.laws.expr_law.Goals as goal

pub returns : goal.returns
returns c = record { stable = expr-stable; within = expr-within; distinct = uses-distinct; nameless = no-projection; untouched = same-store }
