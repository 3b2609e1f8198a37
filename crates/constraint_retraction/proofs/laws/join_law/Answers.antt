use Rattle.constraint_retraction.proofs.Joins.{join-above-left, join-above-right, join-below}
use Rattle.constraint_retraction.proofs.Withdrawals.{join-fixpoint}
use Rattle.constraint_retraction.proofs.laws.join_law.Goals as goal

pub returns-clause-fixpoint : goal.returns-clause-fixpoint
returns-clause-fixpoint g c =
    let K = g.C.Contractor in
    let m = g.met.C.Contractor in
    join-fixpoint g.row.C.Denot K.projections K.scope K.fits m.monotone m.reads_only m.fits_below

pub returns-clause-above : goal.returns-clause-above
returns-clause-above g c xs ys e = (join-above-left xs ys e, join-above-right xs ys e)

pub returns-clause-least : goal.returns-clause-least
returns-clause-least g c = join-below
