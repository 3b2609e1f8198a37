use Rattle.std.proofs.Common.{[], take, Ok, flat_map, unwrap_or}
use Rattle.tube_io.specs.Sends.{Sends}
use Rattle.tube_io.specs.declared.whole.WriteFault.{WriteFault}
use Rattle.tube_report.specs.Places.{names_at}
use Rattle.tube_report.specs.Sections.{variable_text}
use Rattle.tube_report.specs.declared.listed.Place.{Place}
use Rattle.tube_report.proofs.section.write_variables.Given as goal

-- what the records at the places so far declare was written
abbrev pub invariant-loop-place : goal.invariant-loop-place
invariant-loop-place g l = Sends {T = Unit {0}} {E = WriteFault} g.K.Sink.written g.K.Sink.flushed g.K.Sink.faults
    (flat_map (λ (p : Place). flat_map (variable_text l.store.shape (unwrap_or l.store.box [])) (names_at l.items p)) (take l.place-index l.places)) l.fn.sink l.sink (Ok tt)
