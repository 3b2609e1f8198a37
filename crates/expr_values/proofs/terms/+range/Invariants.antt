use Rattle.std.proofs.Common.{◌+◌, ◌*◌}
use Rattle.expr_tree.specs.Trees.{tree_of}
use Rattle.expr_tree.specs.Measures.{nodes}
use Rattle.expr_values.proofs.terms.+range.Given as goal

-- twice the nodes that are left, and one more between a node and its operands
abbrev pub decreases-range_from : goal.decreases-range_from
decreases-range_from l = 2 * nodes (tree_of l.term.now)

abbrev pub decreases-range_of_one : goal.decreases-range_of_one
decreases-range_of_one l = 2 * nodes (tree_of l.a.now) + 1

abbrev pub decreases-range_of_two : goal.decreases-range_of_two
decreases-range_of_two l = 2 * (nodes (tree_of l.a.now) + nodes (tree_of l.b.now)) + 1
