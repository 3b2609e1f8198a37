use Rattle.expr_text.proofs.laws.tokens_mean_one_relation.Goals as goal
use Rattle.expr_text.proofs.Unique.{one_relation}

pub returns : goal.returns
returns c = one_relation
