use Rattle.std.proofs.Common.{ℕ, ◌+◌, slice_index, arith, sym, ap, subst, ◌∙◌}
use Rattle.tube_spec.specs.Grid.{last_tick}
use Rattle.tube_spec.specs.Box.{AreBounded}
use Rattle.tube_spec.proofs.Ticks.{last-greatest}
use Rattle.int_interval.specs.Image.{neg_of}
use Rattle.ctc_eval.specs.Clock.{IsHullOver, only_in, cells_of}
use Rattle.ctc_eval.specs.Evals.{reached_from}
use Rattle.ctc_eval.proofs.Hulls.{cells-there}
use Rattle.ctc_eval.proofs.Carrying.{hull-small, rates-bounded}
use Rattle.ctc_eval.proofs.Stretches.{boundary-few, hull-append, back-over, back-gate}
use Rattle.ctc_eval.proofs.sweep.Sweep.slice_back.Goals as goal

pub later-moved-requires-clause-hull : goal.later-moved-requires-clause-hull
later-moved-requires-clause-hull c =
    let s = c.args.store.now in
    let me = c.args.self.now in
    let xs = cells_of s.box in
    let v = c.args.rate.0 in
    let end = slice_index s.shape.grid (c.args.slice + 1) in
    hull-small s.shape me.x.0 v me.z.0 xs c.args.ticks (rates-bounded s.shape s.box v c.requires.filled c.known.ensures.bounded) (cells-there AreBounded s.box c.requires.filled c.known.ensures.bounded _)
    end end (last_tick s.shape.grid + 1) c.args.after (boundary-few s.shape.grid c.known.ensures.shape.grid (c.args.slice + 1) c.requires.slice) (omega (arith, c.known.ensures.shape.grid.ends)) c.requires.after

pub later-first-requires-clause-hull : goal.later-first-requires-clause-hull
later-first-requires-clause-hull c =
    let s = c.args.store.now in
    let me = c.args.self.now in
    let xs = cells_of s.box in
    let v = c.args.rate.0 in
    let grid = c.known.ensures.shape.grid in
    let slice = c.args.slice in
    let start = slice_index s.shape.grid slice in
    let end = slice_index s.shape.grid (slice + 1) in
    let m : ℕ = last_tick s.shape.grid + 1 in
    let few = boundary-few s.shape.grid grid (slice + 1) c.requires.slice in
    let low = last-greatest s.shape.grid grid.rising (slice + 1) c.requires.slice in
    let rise = grid.rising slice c.requires.slice in
    let f : ℕ → _ = only_in c.args.ticks (reached_from s.shape me.x.0 v me.z.0 (start + 1) xs) in
    let moved = back-over s.shape grid slice c.requires.slice me.x.0 v me.z.0 xs c.args.ticks c.args.after c.later-moved.result c.neg-opposite.result c.times-gain.result c.ticks_inside.result m
    (c.neg-opposite.ensures.value ∙ ap neg_of c.signal.ensures.value) c.ticks_inside.ensures.value c.times-gain.ensures.value c.later-moved.ensures c.requires.after in
    hull-small s.shape me.x.0 v me.z.0 xs c.args.ticks (rates-bounded s.shape s.box v c.requires.filled c.known.ensures.bounded) (cells-there AreBounded s.box c.requires.filled c.known.ensures.bounded _)
    (start + 1) (start + 1) m c.join-whole.result (omega (arith, few, rise)) (omega (arith, grid.ends))
    (subst (IsHullOver f (start + 1) m) (sym c.join-whole.ensures) (hull-append f (start + 1) end m c.inside_back-more.result c.later-moved.result (omega (arith, rise)) (omega (arith, low)) c.inside_back-more.ensures moved))

pub returns : goal.returns
returns c =
    let s = c.args.store.now in
    let me = c.args.self.now in
    let xs = cells_of s.box in
    let v = c.args.rate.0 in
    let grid = c.known.ensures.shape.grid in
    let slice = c.args.slice in
    let start = slice_index s.shape.grid slice in
    let end = slice_index s.shape.grid (slice + 1) in
    let m : ℕ = last_tick s.shape.grid + 1 in
    let low = last-greatest s.shape.grid grid.rising (slice + 1) c.requires.slice in
    let rise = grid.rising slice c.requires.slice in
    let f : ℕ → _ = only_in c.args.ticks (reached_from s.shape me.x.0 v me.z.0 (start + 1) xs) in
    let moved = back-over s.shape grid slice c.requires.slice me.x.0 v me.z.0 xs c.args.ticks c.args.after c.later-moved.result c.neg-opposite.result c.times-gain.result c.ticks_inside.result m
    (c.neg-opposite.ensures.value ∙ ap neg_of c.signal.ensures.value) c.ticks_inside.ensures.value c.times-gain.ensures.value c.later-moved.ensures c.requires.after in
    let whole = subst (IsHullOver f (start + 1) m) (sym c.join-whole.ensures) (hull-append f (start + 1) end m c.inside_back-more.result c.later-moved.result (omega (arith, rise)) (omega (arith, low)) c.inside_back-more.ensures moved) in
    back-gate s.shape grid slice c.requires.slice me.x.0 v me.z.0 xs c.args.ticks c.join-whole.result c.later-first.result c.shared_in-here.result c.join.result c.neg.result m (omega (arith, low, rise))
    (c.neg.ensures.value ∙ ap neg_of c.signal-2.ensures.value) c.later-first.ensures c.shared_in-here.ensures c.join.ensures whole
