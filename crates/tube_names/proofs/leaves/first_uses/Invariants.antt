use Rattle.std.proofs.Common.{◌≡◌, ◌≤◌, [], take, fold, length}
use Rattle.tube_names.specs.Leaves.{with_leaf}
use Rattle.tube_names.proofs.leaves.first_uses.Given as goal

-- the names of the leaves so far
abbrev pub invariant-loop-leaf : goal.invariant-loop-leaf
invariant-loop-leaf l = record {
  uses : l.names.items ≡ fold with_leaf [] (take l.leaf-index l.leaves);
  few : length l.names.items ≤ l.leaf-index;
}
