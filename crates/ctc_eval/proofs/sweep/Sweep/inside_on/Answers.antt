use Rattle.std.proofs.Common.{◌+◌, slice_index, sym, subst}
use Rattle.ctc_eval.specs.Clock.{IsHullOver, only_in, cells_of}
use Rattle.ctc_eval.specs.Evals.{reached_from}
use Rattle.ctc_eval.proofs.Stretches.{hull-outside, slice-none, slice-on}
use Rattle.ctc_eval.proofs.sweep.Sweep.inside_on.Goals as goal

pub returns-in_err-inner : goal.returns-in_err-inner
returns-in_err-inner c =
    let s = c.args.store.now in
    let me = c.args.self.now in
    let start = slice_index s.shape.grid c.args.slice in
    let end = slice_index s.shape.grid (c.args.slice + 1) in
    let from = reached_from s.shape me.x.0 c.args.rate.0 me.z.0 end (cells_of s.box) in
    subst (IsHullOver (only_in c.args.ticks from) (start + 1) end) (sym c.from_residual.ensures) (hull-outside c.args.ticks from start end c.in_err-inner.ensures)

pub returns-in_err-both : goal.returns-in_err-both
returns-in_err-both c =
    let s = c.args.store.now in
    let me = c.args.self.now in
    let start = slice_index s.shape.grid c.args.slice in
    let end = slice_index s.shape.grid (c.args.slice + 1) in
    let from = reached_from s.shape me.x.0 c.args.rate.0 me.z.0 end (cells_of s.box) in
    subst (IsHullOver (only_in c.args.ticks from) (start + 1) end) (sym c.from_residual-in_err-both.ensures)
    (slice-none s.shape c.known.ensures.shape.grid c.args.slice c.requires.slice me.x.0 c.args.rate.0 me.z.0 (cells_of s.box) c.args.ticks end c.in_err-both.ensures.value)

pub returns : goal.returns
returns c =
    let s = c.args.store.now in
    let me = c.args.self.now in
    slice-on s.shape c.known.ensures.shape.grid c.args.slice c.requires.slice me.x.0 c.args.rate.0 me.z.0 (cells_of s.box) c.args.ticks c.in_ok-inner.inner c.in_ok-both.both c.signal-gain.result c.gained.result c.tick_of-end.result
    c.in_ok-inner.ensures c.in_ok-both.ensures.value c.signal-gain.ensures.value c.tick_of-end.ensures.value c.gained.ensures
