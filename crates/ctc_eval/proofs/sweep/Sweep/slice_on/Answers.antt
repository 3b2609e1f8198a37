use Rattle.std.proofs.Common.{ℕ, ◌+◌, slice_index, arith, sym, subst, ◌∙◌}
use Rattle.tube_spec.specs.Box.{AreBounded}
use Rattle.ctc_eval.specs.Clock.{IsHullOver, only_in, cells_of}
use Rattle.ctc_eval.specs.Evals.{reached_from}
use Rattle.ctc_eval.proofs.Hulls.{cells-there}
use Rattle.ctc_eval.proofs.Carrying.{hull-small, on-small, rates-bounded}
use Rattle.ctc_eval.proofs.Stretches.{boundary-few, hull-append, over-gate, over-inside, shared-here}
use Rattle.ctc_eval.proofs.sweep.Sweep.slice_on.Goals as goal

pub later-next-requires-clause-hull : goal.later-next-requires-clause-hull
later-next-requires-clause-hull c =
    let s = c.args.store.now in
    let me = c.args.self.now in
    let xs = cells_of s.box in
    let v = c.args.rate.0 in
    let start = slice_index s.shape.grid c.args.slice in
    on-small s.shape me.x.0 v me.z.0 xs c.args.ticks (rates-bounded s.shape s.box v c.requires.filled c.known.ensures.bounded) (cells-there AreBounded s.box c.requires.filled c.known.ensures.bounded _)
    start c.args.before c.shared_in-here.result c.join-whole.result (boundary-few s.shape.grid c.known.ensures.shape.grid c.args.slice (omega (arith, c.requires.slice)))
    (c.shared_in-here.ensures ∙ shared-here s.shape me.x.0 v me.z.0 xs c.args.ticks start) c.join-whole.ensures c.requires.before

pub later-moved-requires-clause-hull : goal.later-moved-requires-clause-hull
later-moved-requires-clause-hull c =
    let s = c.args.store.now in
    let me = c.args.self.now in
    let xs = cells_of s.box in
    let v = c.args.rate.0 in
    let grid = c.known.ensures.shape.grid in
    let start = slice_index s.shape.grid c.args.slice in
    let few = boundary-few s.shape.grid grid (c.args.slice + 1) c.requires.slice in
    let rise = grid.rising c.args.slice c.requires.slice in
    hull-small s.shape me.x.0 v me.z.0 xs c.args.ticks (rates-bounded s.shape s.box v c.requires.filled c.known.ensures.bounded) (cells-there AreBounded s.box c.requires.filled c.known.ensures.bounded _)
    (start + 1) 0 (start + 1) c.later-next.result (omega (arith, few, rise)) (omega (arith, few, rise))
    (over-gate s.shape grid c.args.slice c.requires.slice me.x.0 v me.z.0 xs c.args.ticks c.args.before c.shared_in-here.result c.join-whole.result c.later-next.result c.signal.result
    c.shared_in-here.ensures c.join-whole.ensures c.signal.ensures.value c.later-next.ensures c.requires.before)

pub returns : goal.returns
returns c =
    let s = c.args.store.now in
    let me = c.args.self.now in
    let xs = cells_of s.box in
    let v = c.args.rate.0 in
    let grid = c.known.ensures.shape.grid in
    let slice = c.args.slice in
    let start = slice_index s.shape.grid slice in
    let end = slice_index s.shape.grid (slice + 1) in
    let rise = grid.rising slice c.requires.slice in
    let f : ℕ → _ = only_in c.args.ticks (reached_from s.shape me.x.0 v me.z.0 end xs) in
    let next = over-gate s.shape grid slice c.requires.slice me.x.0 v me.z.0 xs c.args.ticks c.args.before c.shared_in-here.result c.join-whole.result c.later-next.result c.signal.result
    c.shared_in-here.ensures c.join-whole.ensures c.signal.ensures.value c.later-next.ensures c.requires.before in
    let moved = over-inside s.shape grid slice c.requires.slice me.x.0 v me.z.0 xs c.args.ticks c.later-next.result c.later-moved.result c.signal-2.result c.times-gain.result c.ticks_inside.result
    c.signal-2.ensures.value c.ticks_inside.ensures.value c.times-gain.ensures.value c.later-moved.ensures next in
    subst (IsHullOver f 0 end) (sym c.join.ensures) (hull-append f 0 (start + 1) end c.later-moved.result c.inside_on-more.result (omega arith) (omega (arith, rise)) moved c.inside_on-more.ensures)
