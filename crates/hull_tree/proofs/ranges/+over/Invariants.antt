use Rattle.hull_tree.proofs.ranges.+over.Given as goal

abbrev pub decreases-over : goal.decreases-over
decreases-over l = l.level
