use Rattle.std.proofs.Common.{◌+◌, ◌*◌}
use Rattle.expr_tree.specs.Trees.{tree_of}
use Rattle.expr_tree.specs.Measures.{nodes}
use Rattle.mission_log.proofs.formulas.+names.Given as goal

-- twice the nodes that are left, and one more between a node and its terms
abbrev pub decreases-declare_names : goal.decreases-declare_names
decreases-declare_names l = 2 * nodes (tree_of l.term.now)

abbrev pub decreases-declare_both : goal.decreases-declare_both
decreases-declare_both l = 2 * (nodes (tree_of l.a.now) + nodes (tree_of l.b.now)) + 1
