use Rattle.log_spelling.proofs.KindWords.{kind_read}
use Rattle.log_spelling.proofs.laws.kinds_are_read.Goals as goal

pub returns : goal.returns
returns c = kind_read
