use Rattle.log_spelling.proofs.Cutting.{read_as, reference_trimmed}
use Rattle.log_spelling.proofs.laws.references_are_read.Goals as goal

pub returns : goal.returns
returns c = λ name part named. (read_as name part named, reference_trimmed name part named)
