use Rattle.std.proofs.Common.{ℕ, ◌<◌, pos, slice_index_or}
use Rattle.tube_spec.specs.Span.{Holds}
use Rattle.interval_box.specs.Parts.{part_of}
use Rattle.interval_box.proofs.IntervalBox.contains.Given as goal

abbrev pub invariant-loop-i : goal.invariant-loop-i
invariant-loop-i g l = (k : ℕ) → k < l.i → Holds (part_of l.self k) (slice_index_or l.point k (pos 0))
