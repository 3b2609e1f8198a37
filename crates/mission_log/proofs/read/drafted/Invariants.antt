use Rattle.std.proofs.Common.{length}
use Rattle.csv_rows.specs.Records.{records_of}
use Rattle.mission_log.proofs.Reading.{IsReading}
use Rattle.mission_log.proofs.read.drafted.Given as goal

abbrev pub invariant-loop-row : goal.invariant-loop-row
invariant-loop-row l = IsReading (records_of l.fn.bytes) l.rows l.draft

abbrev pub decreases-loop-row : goal.decreases-loop-row
decreases-loop-row l = length l.rows
