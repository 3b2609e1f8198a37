use Rattle.disjoint_sets.specs.Ways.{Joined}
use Rattle.disjoint_sets.specs.Trees.{IsParent, KeepsTrees}
use Rattle.linked_cells.specs.Chosen.{AreExactly}
use Rattle.linked_cells.proofs.linked.joined_with.Given as goal

-- of the first cells those that hang together with the number, in trees that stayed
abbrev pub invariant-loop-k : goal.invariant-loop-k
invariant-loop-k l = record {
  keeps : KeepsTrees l.fn.parents l.parents;
  cells : AreExactly (λ k. Joined (IsParent l.fn.parents) k l.top) l.k l.cells.items;
}
