use Rattle.tplane_paver.proofs.paving.+quarter.Given as goal

abbrev pub decreases-quarter : goal.decreases-quarter
decreases-quarter g l = l.depth
