use Rattle.std.proofs.Common.{ℕ, ◌+◌, slice_index, arith, sym, ap, subst, ◌∙◌}
use Rattle.int_interval.specs.Image.{neg_of}
use Rattle.ctc_eval.specs.Clock.{IsHullOver, only_in, cells_of}
use Rattle.ctc_eval.specs.Evals.{reached_from}
use Rattle.ctc_eval.proofs.Carrying.{neg-small}
use Rattle.ctc_eval.proofs.Stretches.{boundary-few, hull-outside, slice-none, slice-back}
use Rattle.ctc_eval.proofs.sweep.Sweep.inside_back.Goals as goal

pub returns-in_err-inner : goal.returns-in_err-inner
returns-in_err-inner c =
    let s = c.args.store.now in
    let me = c.args.self.now in
    let start = slice_index s.shape.grid c.args.slice in
    let end = slice_index s.shape.grid (c.args.slice + 1) in
    let from = reached_from s.shape me.x.0 c.args.rate.0 me.z.0 (start + 1) (cells_of s.box) in
    subst (IsHullOver (only_in c.args.ticks from) (start + 1) end) (sym c.from_residual.ensures) (hull-outside c.args.ticks from start end c.in_err-inner.ensures)

pub returns-in_err-both : goal.returns-in_err-both
returns-in_err-both c =
    let s = c.args.store.now in
    let me = c.args.self.now in
    let start = slice_index s.shape.grid c.args.slice in
    let end = slice_index s.shape.grid (c.args.slice + 1) in
    let from = reached_from s.shape me.x.0 c.args.rate.0 me.z.0 (start + 1) (cells_of s.box) in
    subst (IsHullOver (only_in c.args.ticks from) (start + 1) end) (sym c.from_residual-in_err-both.ensures)
    (slice-none s.shape c.known.ensures.shape.grid c.args.slice c.requires.slice me.x.0 c.args.rate.0 me.z.0 (cells_of s.box) c.args.ticks (start + 1) c.in_err-both.ensures.value)

pub gained-requires-clause-rate : goal.gained-requires-clause-rate
gained-requires-clause-rate c = neg-small c.signal.result c.neg-gain.result c.neg-gain.ensures.value c.signal.ensures.bounded

pub gained-requires-clause-some : goal.gained-requires-clause-some
gained-requires-clause-some c =
    let few = boundary-few c.args.store.now.shape.grid c.known.ensures.shape.grid (c.args.slice + 1) c.requires.slice in
    let inside = c.in_ok-inner.ensures in
    omega (arith, inside.2, inside.4, few)

pub gained-requires-clause-others : goal.gained-requires-clause-others
gained-requires-clause-others c =
    let few = boundary-few c.args.store.now.shape.grid c.known.ensures.shape.grid (c.args.slice + 1) c.requires.slice in
    let inside = c.in_ok-inner.ensures in
    omega (arith, inside.4, few)

pub returns : goal.returns
returns c =
    let s = c.args.store.now in
    let me = c.args.self.now in
    slice-back s.shape c.known.ensures.shape.grid c.args.slice c.requires.slice me.x.0 c.args.rate.0 me.z.0 (cells_of s.box) c.args.ticks c.in_ok-inner.inner c.in_ok-both.both c.neg-gain.result c.gained.result (c.tick_of-first.result + 1)
    c.in_ok-inner.ensures c.in_ok-both.ensures.value (c.neg-gain.ensures.value ∙ ap neg_of c.signal.ensures.value) (ap (λ (k : ℕ). k + 1) c.tick_of-first.ensures.value) c.gained.ensures
