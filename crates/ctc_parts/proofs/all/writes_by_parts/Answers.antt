use Rattle.std.proofs.Common.{◌≤◌, ◌+◌, arith}
use Rattle.ctc_parts.proofs.Members.{each-longer, each-one_more}
use Rattle.ctc_parts.proofs.all.writes_by_parts.Goals as goal

pub overflow_add-total : goal.overflow_add-total
overflow_add-total g c =
    let P = g.P.Parts in
    let me = c.args.parts.now in
    let s = c.args.store.now in
    let i = c.loop-i.i in
    let inside : i + 1 ≤ P.parts me s.shape = omega (arith, c.loop-i-test.true, c.count-i-end.ensures) in
    let few = g.met.P.Parts.few me s.shape s.box c.known.ensures.shape c.requires in
    let most = each-longer (P.part me s.shape) (i + 1) (P.parts me s.shape) inside in
    let one = each-one_more (P.part me s.shape) i in
    record { fits = omega (arith, few, most, one, c.loop-i.invariant, c.part_count-total.ensures) }
