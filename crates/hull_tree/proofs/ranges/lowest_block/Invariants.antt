use Rattle.std.proofs.Common.{◌≡◌, ◌+◌, ◌*◌, ◌^◌, ◌<◌, ◌≤◌}
use Rattle.hull_tree.proofs.ranges.lowest_block.Given as goal

-- the blocks of the side that hold the two ticks
abbrev pub invariant-loop-low : goal.invariant-loop-low
invariant-loop-low l = record {
  side : l.side ≡ 2 ^ l.level;
  deep : l.level < l.side;
  order : l.low ≤ l.high;
  begins : l.low * l.side ≤ l.first;
  first_ends : l.first < l.low * l.side + l.side;
  last_begins : l.high * l.side ≤ l.last;
  ends : l.last < l.high * l.side + l.side;
  low : l.side ≤ 2 * l.last + 1;
}

abbrev pub decreases-loop-low : goal.decreases-loop-low
decreases-loop-low l = l.high
