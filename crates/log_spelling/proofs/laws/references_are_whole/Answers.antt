use Rattle.log_spelling.proofs.Cutting.{whole}
use Rattle.log_spelling.proofs.laws.references_are_whole.Goals as goal

pub returns : goal.returns
returns c = whole
