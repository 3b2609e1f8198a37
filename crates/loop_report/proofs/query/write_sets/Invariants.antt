use Rattle.std.proofs.Common.{◌≡◌, ◌+◌, Ok, take}
use Rattle.tube_io.specs.Sends.{Sends}
use Rattle.tube_io.specs.declared.whole.WriteFault.{WriteFault}
use Rattle.loop_report.specs.Loops.{sets_text}
use Rattle.loop_report.proofs.query.write_sets.Given as goal

-- the sets so far were written, and the next one has this number
abbrev pub invariant-loop-found : goal.invariant-loop-found
invariant-loop-found g l = record {
  written : Sends {T = Unit {0}} {E = WriteFault} g.K.Sink.written g.K.Sink.flushed g.K.Sink.faults (sets_text l.brief 1 (take l.found-index l.sets)) l.fn.sink l.sink (Ok tt);
  count : l.number ≡ l.found-index + 1;
}
