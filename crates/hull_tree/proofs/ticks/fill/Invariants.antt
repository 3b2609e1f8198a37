use Rattle.std.proofs.Common.{◌≡◌, ◌++◌, replicate}
use Rattle.hull_tree.proofs.ticks.fill.Given as goal

-- so many so far
abbrev pub invariant-loop-tick : goal.invariant-loop-tick
invariant-loop-tick l = l.ticks.items ≡ l.fn.ticks.items ++ replicate l._tick l.interval
