use Rattle.std.proofs.Common.{◌≡◌, ◌+◌, ◌*◌, ◌-◌, ◌^◌, ◌≤◌, length}
use Rattle.hull_tree.specs.Levels.{AreLevels, levels_of}
use Rattle.hull_tree.proofs.ranges.RangeTree.new.Given as goal

-- the levels so far, of which the last has blocks of the side
abbrev pub invariant-loop-side : goal.invariant-loop-side
invariant-loop-side l = record {
  levels : AreLevels l.ticks.items (levels_of l.levels.items);
  side : l.side ≡ 2 ^ (length l.levels.items - 1);
  low : l.side ≤ 2 * length l.ticks.items + 2;
}

abbrev pub decreases-loop-side : goal.decreases-loop-side
decreases-loop-side l = length l.ticks.items - l.side
