use Rattle.std.proofs.Common.{Ok, flat_map, take}
use Rattle.std.specs.List.{range_with_len}
use Rattle.tube_io.specs.Sends.{Sends}
use Rattle.tube_io.specs.declared.whole.WriteFault.{WriteFault}
use Rattle.area_report.specs.Areas.{row_line}
use Rattle.area_report.specs.Marks.{marked_rows}
use Rattle.area_report.proofs.rows.write_rows.Given as goal

-- the rows so far were written
abbrev pub invariant-loop-row : goal.invariant-loop-row
invariant-loop-row g l = Sends {T = Unit {0}} {E = WriteFault} g.K.Sink.written g.K.Sink.flushed g.K.Sink.faults (flat_map (row_line l.chart) (take l.row (range_with_len 0 (marked_rows l.chart)))) l.fn.sink l.sink (Ok tt)
