use Rattle.std.proofs.Common.{arith}
use Rattle.ctc_network.proofs.Resets.{roused-more, roused-all, marked-all}
use Rattle.ctc_network.proofs.rousing.rouse.Goals as goal

pub loop-number-preserved : goal.loop-number-preserved
loop-number-preserved g c =
    let K = g.C.Contractor in
    let before = c.loop-number in
    roused-more K.projections K.scope g.C.Parted.parts c.args.store.now.shape c.args.cells.now c.args.contractors.now c.args.waiting.now before.waiting c.rouse_at.new.waiting c.args.marks.now before.marks c.rouse_at.new.marks before.number before.invariant
    c.rouse_at.ensures.len c.rouse_at.ensures.others c.rouse_at.ensures.roused c.rouse_at.ensures.kept c.rouse_at.ensures.marked

pub returns-clause-roused : goal.returns-clause-roused
returns-clause-roused g c =
    let K = g.C.Contractor in
    roused-all K.projections K.scope g.C.Parted.parts c.args.store.now.shape c.args.cells.now c.args.contractors.now c.args.waiting.now c.loop-number.waiting c.args.marks.now c.loop-number.marks c.loop-number.number c.loop-number.invariant
    (omega (arith, c.loop-number-test.false, c.len-number-end.ensures, c.requires.waiting))

pub returns-clause-marked : goal.returns-clause-marked
returns-clause-marked g c =
    let K = g.C.Contractor in
    marked-all K.projections K.scope g.C.Parted.parts c.args.store.now.shape c.args.cells.now c.args.contractors.now c.args.waiting.now c.loop-number.waiting c.args.marks.now c.loop-number.marks c.loop-number.number c.loop-number.invariant
    (omega (arith, c.loop-number-test.false, c.len-number-end.ensures, c.requires.waiting))
