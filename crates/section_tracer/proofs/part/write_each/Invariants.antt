use Rattle.std.proofs.Common.{Ok, flat_map, take}
use Rattle.tube_io.specs.Sends.{Sends}
use Rattle.tube_io.specs.declared.whole.WriteFault.{WriteFault}
use Rattle.ctc_network.specs.declared.answers.CtcId.{CtcId}
use Rattle.bundle_text.specs.Bundles.{fire_text}
use Rattle.section_tracer.proofs.part.write_each.Given as goal

-- the lines so far were written
abbrev pub invariant-loop-id : goal.invariant-loop-id
invariant-loop-id g l = Sends {T = Unit {0}} {E = WriteFault} g.K.Sink.written g.K.Sink.flushed g.K.Sink.faults (flat_map (λ (id : CtcId). fire_text id.0) (take l.id-index l.fired)) l.fn.sink l.sink (Ok tt)
