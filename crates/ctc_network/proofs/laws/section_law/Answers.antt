use Rattle.ctc_network.proofs.Schedules.{section-keeps, section-greatest}
use Rattle.ctc_network.proofs.laws.section_law.Goals as goal

pub returns-clause-keeps : goal.returns-clause-keeps
returns-clause-keeps g c =
    let K = g.C.Contractor in
    let m = g.met.C.Contractor in
    λ s t first more declared further b1 b2 e.
    section-keeps g.row.C.Denot K.projections K.scope K.fits m.reads_only m.fits_local m.fits_below m.in_store m.fits_more m.same_projections s t first more declared further e.shape e.grows e.len e.fit b1 b2

pub returns-clause-greatest : goal.returns-clause-greatest
returns-clause-greatest g c =
    let K = g.C.Contractor in
    let m = g.met.C.Contractor in
    λ s t first more declared further b1 b2 e.
    section-greatest g.row.C.Denot K.projections K.scope K.fits m.reads_only m.fits_local m.fits_below m.in_store m.fits_more m.same_projections s t first more declared further e.shape e.grows e.len e.fit b1 b2
