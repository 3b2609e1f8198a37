use Rattle.std.proofs.Common.{take}
use Rattle.mission_loops.specs.Cost.{TakesAtMost}
use Rattle.mission_loops.specs.Queries.{queries}
use Rattle.mission_loops.proofs.Steps.{IsToldTo}
use Rattle.mission_loops.proofs.writing.write_findings.Given as goal

-- the queries of the records before were told and written, in no more than their steps
abbrev pub invariant-loop-item : goal.invariant-loop-item
invariant-loop-item g l = record {
  told : IsToldTo g.K.Sink.written g.K.Sink.flushed g.K.Sink.faults l.mission.cuts l.items l.store.box l.brief l.fn.sink l.item-index l.number l.last l.sink;
  cost : TakesAtMost l.store.shape l.store.box (queries (take l.item-index l.items)) l.fn.steps l.steps;
}
