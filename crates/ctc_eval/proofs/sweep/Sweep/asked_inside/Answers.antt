use Rattle.std.proofs.Common.{◌+◌, slice_index, arith, sym, subst}
use Rattle.ctc_eval.specs.Clock.{IsHullOver, only_in, cells_of}
use Rattle.ctc_eval.specs.Asking.{asked_at}
use Rattle.ctc_eval.proofs.Stretches.{boundary-few, hull-outside, part-inside}
use Rattle.ctc_eval.proofs.sweep.Sweep.asked_inside.Goals as goal

pub returns-in_err-inner : goal.returns-in_err-inner
returns-in_err-inner c =
    let s = c.args.store.now in
    let me = c.args.self.now in
    let start = slice_index s.shape.grid c.args.slice in
    let end = slice_index s.shape.grid (c.args.slice + 1) in
    let asked = asked_at s.shape me.x.0 me.z.0 (cells_of s.box) c.args.asked in
    subst (IsHullOver (only_in c.args.ticks asked) (start + 1) end) (sym c.from_residual.ensures) (hull-outside c.args.ticks asked start end c.in_err-inner.ensures)

pub part-requires-clause-few : goal.part-requires-clause-few
part-requires-clause-few c =
    let few = boundary-few c.args.store.now.shape.grid c.known.ensures.shape.grid (c.args.slice + 1) c.requires.slice in
    let inside = c.in_ok-inner.ensures in
    omega (arith, inside.4, few)

pub returns : goal.returns
returns c =
    let s = c.args.store.now in
    let me = c.args.self.now in
    let start = slice_index s.shape.grid c.args.slice in
    let end = slice_index s.shape.grid (c.args.slice + 1) in
    let asked = asked_at s.shape me.x.0 me.z.0 (cells_of s.box) c.args.asked in
    subst (IsHullOver (only_in c.args.ticks asked) (start + 1) end) (sym c.part.ensures)
    (part-inside s.shape c.known.ensures.shape.grid c.args.slice c.requires.slice me.x.0 me.x.0 me.z.0 (cells_of s.box) c.args.ticks c.args.asked c.in_ok-inner.inner c.in_ok-inner.ensures)
