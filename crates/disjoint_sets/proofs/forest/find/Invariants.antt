use Rattle.std.proofs.Common.{◌<◌, length}
use Rattle.disjoint_sets.specs.Ways.{Joined}
use Rattle.disjoint_sets.specs.Trees.{KeepsTrees, IsParent}
use Rattle.disjoint_sets.proofs.forest.find.Given as goal

-- the trees are the same, and the number is in the tree of the one that was asked for
abbrev pub invariant-loop-parents : goal.invariant-loop-parents
invariant-loop-parents l = record {
  keeps : KeepsTrees l.fn.parents l.parents;
  within : l.at < length l.parents;
  joined : Joined (IsParent l.parents) l.fn.from l.at;
}

abbrev pub decreases-loop-parents : goal.decreases-loop-parents
decreases-loop-parents l = l.at
