use Rattle.constraint_retraction.proofs.Withdrawals.{off-linked, reset-keeps, greatest-after, stays}
use Rattle.constraint_retraction.proofs.laws.withdrawal_law.Goals as goal

pub returns-clause-cells : goal.returns-clause-cells
returns-clause-cells g c s cs left withdrawn start linked old q w =
    let K = g.C.Contractor in
    let m = g.met.C.Contractor in
    off-linked g.row.C.Denot K.projections K.scope K.fits m.monotone m.reads_only m.fits_below s cs left withdrawn start linked w old q

pub returns-clause-keeps : goal.returns-clause-keeps
returns-clause-keeps g c s cs left withdrawn start linked old w =
    let K = g.C.Contractor in
    let m = g.met.C.Contractor in
    reset-keeps g.row.C.Denot K.projections K.scope K.fits m.monotone m.reads_only m.fits_below s cs left withdrawn start linked w old

pub returns-clause-greatest : goal.returns-clause-greatest
returns-clause-greatest g c s cs left withdrawn start linked old new w =
    let K = g.C.Contractor in
    let m = g.met.C.Contractor in
    greatest-after g.row.C.Denot K.projections K.scope K.fits m.monotone m.reads_only m.fits_below s cs left withdrawn start linked w old new

pub returns-clause-stays : goal.returns-clause-stays
returns-clause-stays g c s cs left withdrawn start linked old new w =
    let K = g.C.Contractor in
    let m = g.met.C.Contractor in
    stays g.row.C.Denot K.projections K.scope K.fits m.monotone m.reads_only m.fits_below s cs left withdrawn start linked w old new
