use Rattle.std.proofs.Common.{◌≤◌, length, All}
use Rattle.loop_sets.specs.Tables.{IsLevel}
use Rattle.loop_sets.proofs.table.Sparse.new.Given as goal

-- the levels so far, and the next one
abbrev pub invariant-loop-level : goal.invariant-loop-level
invariant-loop-level l = record {
  side : 1 ≤ l.level.side;
  short : length l.level.tops.items ≤ 200000;
  next : IsLevel l.values.items l.level;
  levels : All (IsLevel l.values.items) l.levels.items;
}

abbrev pub decreases-loop-level : goal.decreases-loop-level
decreases-loop-level l = length l.level.tops.items
