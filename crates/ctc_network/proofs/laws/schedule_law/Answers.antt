use Rattle.ctc_core.proofs.Firing.{IsBox-of}
use Rattle.ctc_network.proofs.Schedules.{schedule-keeps, schedule-greatest}
use Rattle.ctc_network.proofs.laws.schedule_law.Goals as goal

pub returns-clause-keeps : goal.returns-clause-keeps
returns-clause-keeps g c =
    let K = g.C.Contractor in
    let m = g.met.C.Contractor in
    schedule-keeps g.row.C.Denot K.projections K.scope K.fits m.reads_only m.fits_local m.fits_below m.in_store m.fits_more m.same_projections

pub returns-clause-greatest : goal.returns-clause-greatest
returns-clause-greatest g c =
    let K = g.C.Contractor in
    let m = g.met.C.Contractor in
    schedule-greatest g.row.C.Denot K.projections K.scope K.fits m.reads_only m.fits_local m.fits_below m.in_store m.fits_more m.same_projections

pub returns-clause-firing : goal.returns-clause-firing
returns-clause-firing g c = λ ps old new answer r. record { boxes = IsBox-of new r.after; below = r.revised.below; keeps = r.revised.keeps }
