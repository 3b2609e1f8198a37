use Rattle.constraint_retraction.proofs.Withdrawals.{rests, fits-reset}
use Rattle.constraint_retraction.proofs.laws.resting_law.Goals as goal

pub returns-clause-rests : goal.returns-clause-rests
returns-clause-rests g c =
    let K = g.C.Contractor in
    let m = g.met.C.Contractor in
    rests g.row.C.Denot K.projections K.scope K.fits m.monotone m.reads_only m.fits_below

pub returns-clause-fits : goal.returns-clause-fits
returns-clause-fits g c =
    let K = g.C.Contractor in
    let m = g.met.C.Contractor in
    fits-reset g.row.C.Denot K.projections K.scope K.fits m.monotone m.reads_only m.fits_below
