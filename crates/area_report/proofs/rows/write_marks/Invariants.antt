use Rattle.std.proofs.Common.{◌-◌, ◌≤◌, Ok, take}
use Rattle.tube_io.specs.Sends.{Sends}
use Rattle.tube_io.specs.declared.whole.WriteFault.{WriteFault}
use Rattle.area_report.proofs.RowPieces.{row_bytes}
use Rattle.area_report.proofs.rows.write_marks.Given as goal

-- the columns so far were written
abbrev pub invariant-loop-first : goal.invariant-loop-first
invariant-loop-first g l = record {
  written : Sends {T = Unit {0}} {E = WriteFault} g.K.Sink.written g.K.Sink.flushed g.K.Sink.faults (take l.first (row_bytes l.chart l.row)) l.fn.sink l.sink (Ok tt);
  within : l.first ≤ l.columns;
}

abbrev pub decreases-loop-first : goal.decreases-loop-first
decreases-loop-first g l = l.columns - l.first
