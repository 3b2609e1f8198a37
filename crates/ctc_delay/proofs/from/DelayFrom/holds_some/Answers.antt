use Rattle.std.proofs.Common.{◌≡◌, ℕ, ◌+◌, ◌<◌, arith, sym, ap, ◌∙◌, length, map, pos, slice_index, slice_index_or}
use Rattle.std.specs.List.{range_with_len}
use Rattle.tube_spec.specs.Span.{point}
use Rattle.tube_spec.specs.Projection.{Projection}
use Rattle.tube_spec.proofs.Monotone.{IfSome-map}
use Rattle.ctc_delay.specs.declared.held.Held.{Held}
use Rattle.ctc_delay.specs.Delays.{delay_from_at, delay_from_projections}
use Rattle.ctc_delay.specs.Windows.{held_projections}
use Rattle.ctc_delay.proofs.Counts.{length-from, from-at}
use Rattle.ctc_delay.proofs.OverWindows.{held-fixes}
use Rattle.ctc_delay.proofs.Tests.{fixes-checks}
use Rattle.ctc_delay.proofs.from.DelayFrom.holds_some.Goals as goal

pub given-given-requires-clause-below : goal.given-given-requires-clause-below
given-given-requires-clause-below c = let me = c.args.self.now in omega (arith, c.requires.first, length-from c.args.store.now.shape me.x.0 me.y.0 me.tau.0)

pub returns-in-Some-clause-checks : goal.returns-in-Some-clause-checks
returns-in-Some-clause-checks c =
    let s = c.args.store.now in
    let me = c.args.self.now in
    let p : ℕ → Projection = delay_from_at s.shape.grid (slice_index s.shape.signals me.x.0) (slice_index s.shape.signals me.y.0) (slice_index s.shape.vars me.tau.0) in
    let h : Held = c.held_from-held.result in
    let held = c.held_from-held.ensures in
    let window = c.in-Some.ensures in
    fixes-checks (map p (range_with_len c.args.first h.count)) (held_projections s.shape h) s.box c.is_each_held.result
    (held-fixes s.shape h p c.args.first s.box held.first (λ j. ap (λ (n : ℕ). slice_index s.shape.signals n + j) (sym held.signal))
    (λ j l. window.gives (c.args.first + j) (slice_index_or h.hulls j (point (pos 0))) (omega arith) (omega (arith, l, held.fits.places, held.first)) (held.within j l) (held.hulls j l)))
    c.is_each_held.ensures

pub returns-in-None-clause-checks : goal.returns-in-None-clause-checks
returns-in-None-clause-checks c =
    let s = c.args.store.now in
    let me = c.args.self.now in
    let below : c.args.first < length (delay_from_projections s.shape me.x.0 me.y.0 me.tau.0) = omega (arith, c.requires.first, length-from s.shape me.x.0 me.y.0 me.tau.0) in
    c.is_held_given.ensures (delay_from_at s.shape.grid (slice_index s.shape.signals me.x.0) (slice_index s.shape.signals me.y.0) (slice_index s.shape.vars me.tau.0) c.args.first) (sym c.cell_at_place-cell.ensures.cell)
    (IfSome-map _ _ s.box (λ xs e. sym (e ∙ ap (λ (q : Projection). q.formula xs) (from-at s.shape me.x.0 me.y.0 me.tau.0 c.args.first below))) c.given-given.ensures)
