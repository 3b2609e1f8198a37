use Rattle.std.proofs.Common.{arith}
use Rattle.ctc_deriv.proofs.Places.{bound-length, bound-target}
use Rattle.ctc_deriv.proofs.bound.BoundCtcFormulas.target.Goals as goal

pub overflow_add-result : goal.overflow_add-result
overflow_add-result c =
    let me = c.args.self.now in
    let places = c.places-places in
    let count = bound-length c.args.store.now.shape me.signal.0 me.first me.last me.range places.result.start places.result.end places.ensures.among places.ensures.start places.ensures.end in
    record { fits = omega (arith, count, c.requires.below, places.ensures.among, c.known.ensures.shape.grid.short) }

pub overflow_add-result-2 : goal.overflow_add-result-2
overflow_add-result-2 c =
    let me = c.args.self.now in
    let places = c.places-places in
    let count = bound-length c.args.store.now.shape me.signal.0 me.first me.last me.range places.result.start places.result.end places.ensures.among places.ensures.start places.ensures.end in
    record { fits = omega (arith, count, c.requires.below, places.ensures.among, c.known.ensures.shape.grid.short, c.gate-first.ensures.named, c.known.ensures.shape.few) }

pub returns : goal.returns
returns c =
    let me = c.args.self.now in
    let places = c.places-places in
    let target = bound-target c.args.store.now.shape me.signal.0 me.first me.last me.range places.result.start places.result.end places.ensures.among places.ensures.start places.ensures.end c.args.i c.requires.below in
    omega (arith, target, c.gate-first.ensures.cell)
