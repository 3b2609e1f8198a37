use Rattle.log_text.proofs.ItemLines.{text-records}
use Rattle.log_text.proofs.laws.records_are_read.Goals as goal

pub returns : goal.returns
returns c = text-records c.printing_law.ensures.field
