use Rattle.report_reader.proofs.SameTexts.{first_is_one}
use Rattle.report_reader.proofs.laws.first_is_one.Goals as goal

pub returns : goal.returns
returns c = first_is_one
