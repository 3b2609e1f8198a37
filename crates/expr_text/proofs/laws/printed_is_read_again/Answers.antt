use Rattle.expr_text.proofs.laws.printed_is_read_again.Goals as goal
use Rattle.expr_text.proofs.Printed.{read_again}

pub returns : goal.returns
returns c = read_again
