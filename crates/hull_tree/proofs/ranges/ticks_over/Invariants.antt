use Rattle.std.proofs.Common.{◌≡◌, ◌-◌, ◌<◌}
use Rattle.hull_tree.specs.Judging.{bounds_over}
use Rattle.hull_tree.proofs.ranges.ticks_over.Given as goal

-- the bounds over the ticks so far
abbrev pub invariant-loop-tick : goal.invariant-loop-tick
invariant-loop-tick l = record {
  begun : l.first < l.tick;
  bounds : l.bounds ≡ bounds_over l.ticks l.first (l.tick - 1 - l.first);
}
