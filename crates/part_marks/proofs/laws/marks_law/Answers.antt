use Rattle.std.proofs.Common.{Contains}
use Rattle.cell_readers.specs.Entries.{readers_at}
use Rattle.part_marks.proofs.Keeping.{marked-added, beside-added, marked-grown, beside-grown, marked-fired}
use Rattle.part_marks.proofs.laws.marks_law.Goals as goal

pub returns-clause-added : goal.returns-clause-added
returns-clause-added g c = marked-added g.C.Parted.parts g.C.Parted.part

pub returns-clause-beside : goal.returns-clause-beside
returns-clause-beside g c = beside-added g.C.Parted.parts

pub returns-clause-grown : goal.returns-clause-grown
returns-clause-grown g c =
    let K = g.C.Contractor in
    let P = g.C.Parted in
    let k = g.met.C.Contractor in
    let p = g.met.C.Parted in
    marked-grown g.row.C.Denot K.projections K.scope K.fits P.parts P.part P.part_scope k.fits_local k.in_store p.whole p.part_reads p.part_in_scope p.same_parts p.same_part

pub returns-clause-still_beside : goal.returns-clause-still_beside
returns-clause-still_beside g c =
    let K = g.C.Contractor in
    let P = g.C.Parted in
    let k = g.met.C.Contractor in
    let p = g.met.C.Parted in
    beside-grown g.row.C.Denot K.projections K.scope K.fits P.parts P.part P.part_scope k.fits_local k.in_store p.whole p.part_reads p.part_in_scope p.same_parts p.same_part

pub returns-clause-fired : goal.returns-clause-fired
returns-clause-fired g c old new x cs lists k d before now after fit clean there r others kept complete reached =
    let K = g.C.Contractor in
    let P = g.C.Parted in
    let p = g.met.C.Parted in
    marked-fired g.row.C.Denot K.projections K.scope K.fits P.parts P.part P.part_scope g.met.C.Contractor.fits_below p.whole p.part_reads p.part_in_scope
    old new x cs (λ cell j. Contains (readers_at lists cell) j) k d before now after fit clean there r others kept complete reached
