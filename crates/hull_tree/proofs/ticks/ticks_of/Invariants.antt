use Rattle.std.proofs.Common.{slice_index}
use Rattle.hull_tree.specs.Tubes.{IsTubeTo}
use Rattle.hull_tree.proofs.ticks.ticks_of.Given as goal

-- the ticks of the slices so far
abbrev pub invariant-loop-slice : goal.invariant-loop-slice
invariant-loop-slice l = IsTubeTo l.store.shape l.store.box l.signal.0 (slice_index l.store.shape.grid l.slice) l.ticks.items
