use Rattle.ctc_parts.proofs.Cleaning.{clean-fired, clean-beside, clean-more}
use Rattle.ctc_parts.proofs.laws.clean_law.Goals as goal

pub returns-clause-fired : goal.returns-clause-fired
returns-clause-fired g c =
    let K = g.C.Contractor in
    let P = g.C.Parted in
    let p = g.met.C.Parted in
    clean-fired g.row.C.Denot K.projections K.fits P.parts P.part P.part_scope g.met.C.Contractor.fits_below p.whole p.part_reads

pub returns-clause-beside : goal.returns-clause-beside
returns-clause-beside g c =
    let K = g.C.Contractor in
    let P = g.C.Parted in
    let p = g.met.C.Parted in
    clean-beside g.row.C.Denot K.projections K.fits P.parts P.part P.part_scope g.met.C.Contractor.fits_below p.whole p.part_reads

pub returns-clause-more : goal.returns-clause-more
returns-clause-more g c =
    let K = g.C.Contractor in
    let P = g.C.Parted in
    let k = g.met.C.Contractor in
    let p = g.met.C.Parted in
    clean-more g.row.C.Denot K.projections K.scope K.fits P.parts P.part P.part_scope k.fits_local k.in_store p.whole p.part_reads p.part_in_scope p.same_parts p.same_part
