-- Each call may go one less deep than the one before it.
use Rattle.expr_text.proofs.build.+build.Given as goal

abbrev pub decreases-addends : goal.decreases-addends
decreases-addends l = l.calls

abbrev pub decreases-bracket : goal.decreases-bracket
decreases-bracket l = l.calls

abbrev pub decreases-factors : goal.decreases-factors
decreases-factors l = l.calls

abbrev pub decreases-pair : goal.decreases-pair
decreases-pair l = l.calls

abbrev pub decreases-product : goal.decreases-product
decreases-product l = l.calls

abbrev pub decreases-second : goal.decreases-second
decreases-second l = l.calls

abbrev pub decreases-sum : goal.decreases-sum
decreases-sum l = l.calls

abbrev pub decreases-unary : goal.decreases-unary
decreases-unary l = l.calls
