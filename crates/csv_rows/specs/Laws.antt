-- What is true of lines and records, whatever they are.
use Rattle.std.specs.Prelude.{◌≡◌, List}
use Rattle.csv_rows.specs.Records.{Record, records_of}
use Rattle.csv_rows.specs.Lines.{AllPlain, lines}

-- the lines of plain records are read as these records
abbrev pub LinesAreRead : Type 0
LinesAreRead = (rs : List Record) → AllPlain rs → records_of (lines rs) ≡ rs
