use Rattle.std.proofs.Common.{◌≡◌, take}
use Rattle.mission_net.specs.Tables.{IsTableOf}
use Rattle.tube_report.specs.Places.{listed}
use Rattle.section_report.proofs.Reporting.{IsWrittenTo}
use Rattle.section_report.proofs.report.write_sections.Given as goal

-- the sections before were written, and the list and the table are those of their records
abbrev pub invariant-loop-upto : goal.invariant-loop-upto
invariant-loop-upto g l = record {
  sections : IsWrittenTo g.K.Sink.written g.K.Sink.flushed g.K.Sink.faults l.mission l.choices l.fn.sink l.fn.steps l.upto l.first l.number l.net l.sink l.steps;
  places : l.places ≡ listed (take l.first l.mission.items);
  table : IsTableOf l.table (take l.first l.mission.items);
}
