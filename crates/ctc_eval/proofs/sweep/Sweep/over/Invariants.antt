use Rattle.std.proofs.Common.{slice_index}
use Rattle.ctc_eval.specs.Clock.{IsHullOver, only_in, cells_of}
use Rattle.ctc_eval.specs.Asking.{asked_at}
use Rattle.ctc_eval.proofs.sweep.Sweep.over.Given as goal

-- the hull of the ticks before the gate that the loop has come to
abbrev pub invariant-loop-slice : goal.invariant-loop-slice
invariant-loop-slice l = IsHullOver (only_in l.stretch.ticks (asked_at l.store.shape l.self.x.0 l.self.z.0 (cells_of l.store.box) l.asked)) (slice_index l.store.shape.grid l.stretch.near.first) (slice_index l.store.shape.grid l.slice) l.hull
