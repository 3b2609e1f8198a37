use Rattle.report_reader.proofs.SameTexts.{texts_are_one}
use Rattle.report_reader.proofs.laws.texts_are_one.Goals as goal

pub returns : goal.returns
returns c = texts_are_one
