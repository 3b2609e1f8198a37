use Rattle.log_spelling.proofs.Printed.{number_read}
use Rattle.log_spelling.proofs.Solid.{number_trimmed}
use Rattle.log_spelling.proofs.laws.numbers_are_read.Goals as goal

pub returns : goal.returns
returns c = λ z small. (number_read z small, number_trimmed z small)
