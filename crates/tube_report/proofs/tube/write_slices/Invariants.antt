use Rattle.std.proofs.Common.{◌-◌, [], length, take, Ok, flat_map, unwrap_or}
use Rattle.std.specs.List.{range_with_len}
use Rattle.tube_io.specs.Sends.{Sends}
use Rattle.tube_io.specs.declared.whole.WriteFault.{WriteFault}
use Rattle.tube_report.specs.Sections.{slice_text}
use Rattle.tube_report.proofs.tube.write_slices.Given as goal

-- the slices so far were written
abbrev pub invariant-loop-i : goal.invariant-loop-i
invariant-loop-i g l = Sends {T = Unit {0}} {E = WriteFault} g.K.Sink.written g.K.Sink.flushed g.K.Sink.faults (flat_map (slice_text l.store.shape (unwrap_or l.store.box []) l.signal.0) (take l.i (range_with_len 0 (length l.store.shape.grid - 1)))) l.fn.sink l.sink (Ok tt)
