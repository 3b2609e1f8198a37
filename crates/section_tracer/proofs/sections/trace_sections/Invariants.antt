use Rattle.std.proofs.Common.{◌≡◌, take}
use Rattle.mission_net.specs.Tables.{IsTableOf}
use Rattle.tube_report.specs.Places.{listed}
use Rattle.section_tracer.proofs.Tracing.{IsTracedUpTo}
use Rattle.section_tracer.proofs.sections.trace_sections.Given as goal

-- the sections before were traced and written, and the list and the table are those of their records
abbrev pub invariant-loop-upto : goal.invariant-loop-upto
invariant-loop-upto g l = record {
  sections : IsTracedUpTo g.K.Sink.written g.K.Sink.flushed g.K.Sink.faults l.mission l.fn.sink l.upto l.first l.number l.net l.sink;
  places : l.places ≡ listed (take l.first l.mission.items);
  table : IsTableOf l.table (take l.first l.mission.items);
}
