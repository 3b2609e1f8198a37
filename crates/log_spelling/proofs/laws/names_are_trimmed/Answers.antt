use Rattle.log_spelling.proofs.Solid.{name_trimmed}
use Rattle.log_spelling.proofs.laws.names_are_trimmed.Goals as goal

pub returns : goal.returns
returns c = name_trimmed
