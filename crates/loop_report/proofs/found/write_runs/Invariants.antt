use Rattle.std.proofs.Common.{Ok, flat_map, take}
use Rattle.tube_io.specs.Sends.{Sends}
use Rattle.tube_io.specs.declared.whole.WriteFault.{WriteFault}
use Rattle.loop_report.specs.Loops.{run_line}
use Rattle.loop_report.proofs.found.write_runs.Given as goal

-- the runs so far were written
abbrev pub invariant-loop-run : goal.invariant-loop-run
invariant-loop-run g l = Sends {T = Unit {0}} {E = WriteFault} g.K.Sink.written g.K.Sink.flushed g.K.Sink.faults (flat_map run_line (take l.run-index l.runs)) l.fn.sink l.sink (Ok tt)
