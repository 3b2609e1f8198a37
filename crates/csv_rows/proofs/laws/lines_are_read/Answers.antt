use Rattle.csv_rows.proofs.PlainLines.{lines_read}
use Rattle.csv_rows.proofs.laws.lines_are_read.Goals as goal

pub returns : goal.returns
returns c = lines_read
