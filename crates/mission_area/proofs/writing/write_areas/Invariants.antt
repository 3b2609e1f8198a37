use Rattle.mission_area.proofs.Steps.{IsToldTo}
use Rattle.mission_area.proofs.writing.write_areas.Given as goal

-- the areas of the queries before were told and written
abbrev pub invariant-loop-item : goal.invariant-loop-item
invariant-loop-item g l = IsToldTo g.K.Sink.written g.K.Sink.flushed g.K.Sink.faults l.mission.cuts l.items l.store.box l.step l.brief l.fn.sink l.item-index l.number l.sink
