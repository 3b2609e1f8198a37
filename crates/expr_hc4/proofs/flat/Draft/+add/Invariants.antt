use Rattle.std.proofs.Common.{◌+◌, ◌*◌}
use Rattle.expr_tree.specs.Trees.{tree_of}
use Rattle.expr_tree.specs.Measures.{nodes}
use Rattle.expr_hc4.proofs.flat.Draft.+add.Given as goal

-- twice the nodes that are left, and one more between a node and its operands
abbrev pub decreases-add : goal.decreases-add
decreases-add l = 2 * nodes (tree_of l.term.now)

abbrev pub decreases-add_one : goal.decreases-add_one
decreases-add_one l = 2 * nodes (tree_of l.a.now) + 1

abbrev pub decreases-add_two : goal.decreases-add_two
decreases-add_two l = 2 * (nodes (tree_of l.a.now) + nodes (tree_of l.b.now)) + 1
