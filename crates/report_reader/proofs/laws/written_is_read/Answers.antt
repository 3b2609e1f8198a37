use Rattle.report_reader.proofs.Descriptions.{written_is_read}
use Rattle.report_reader.proofs.laws.written_is_read.Goals as goal

pub returns : goal.returns
returns c = written_is_read
