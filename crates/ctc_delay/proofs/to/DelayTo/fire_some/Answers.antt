use Rattle.std.proofs.Common.{◌≡◌, ℕ, ◌+◌, ◌<◌, Some, arith, sym, ap, ◌∙◌, List, map, length, pos, slice_index, slice_index_or}
use Rattle.std.specs.List.{range_with_len}
use Rattle.std.proofs.lemmas.List.Elements.{All-map}
use Rattle.tube_spec.specs.Span.{Span, point}
use Rattle.tube_spec.specs.Projection.{Projection, IsMonotone}
use Rattle.tube_spec.proofs.Monotone.{IfSome-map}
use Rattle.ctc_core.proofs.Firing.{Revises-empty}
use Rattle.ctc_core.proofs.Fixing.{fixes-fires, if-each}
use Rattle.ctc_delay.specs.declared.held.Held.{Held}
use Rattle.ctc_delay.specs.Delays.{delay_to_at, delay_to_projections}
use Rattle.ctc_delay.specs.DelayLaws.{to-mono}
use Rattle.ctc_delay.specs.Windows.{held_projections}
use Rattle.ctc_delay.proofs.Counts.{length-to, to-at}
use Rattle.ctc_delay.proofs.OverWindows.{held-fixes}
use Rattle.ctc_delay.proofs.to.DelayTo.fire_some.Goals as goal

pub returns-then-is_empty-clause-fired : goal.returns-then-is_empty-clause-fired
returns-then-is_empty-clause-fired c = Revises-empty _ c.args.store.now c.known.ensures (c.is_empty.ensures.0 c.if-is_empty.true)

pub returns-in-Some-clause-fired : goal.returns-in-Some-clause-fired
returns-in-Some-clause-fired c =
    let s = c.args.store.now in
    let me = c.args.self.now in
    let grid = s.shape.grid in
    let x : ℕ = slice_index s.shape.signals me.x.0 in
    let y : ℕ = slice_index s.shape.signals me.y.0 in
    let v : ℕ = slice_index s.shape.vars me.tau.0 in
    let p : ℕ → Projection = delay_to_at grid x y v in
    let h : Held = c.held_from-held.result in
    let held = c.held_from-held.ensures in
    let window = c.in-Some.ensures in
    let anywhere : List Span → Type 0 = λ xs. Unit {0} in
    fixes-fires anywhere (map p (range_with_len c.args.first h.count)) (held_projections s.shape h) s c.revise_by_formulas-answer.new.store c.revise_by_formulas-answer.result (if-each s.box anywhere (λ xs. tt))
    (All-map (IsMonotone anywhere) p (range_with_len c.args.first h.count) (λ k d l. to-mono anywhere grid x y v _))
    (held-fixes s.shape h p c.args.first s.box held.first (λ j. ap (λ (n : ℕ). slice_index s.shape.signals n + j) (sym held.signal))
    (λ j l. window.gives (c.args.first + j) (slice_index_or h.hulls j (point (pos 0))) (omega arith) (omega (arith, l, held.fits.places, held.first)) (held.within j l) (held.hulls j l)))
    c.revise_by_formulas-answer.ensures

pub given-given-requires-clause-below : goal.given-given-requires-clause-below
given-given-requires-clause-below c = let me = c.args.self.now in omega (arith, c.requires.first, length-to c.args.store.now.shape me.x.0 me.y.0 me.tau.0)

pub returns-in-None-clause-fired : goal.returns-in-None-clause-fired
returns-in-None-clause-fired c =
    let s = c.args.store.now in
    let me = c.args.self.now in
    let grid = s.shape.grid in
    let x : ℕ = slice_index s.shape.signals me.x.0 in
    let y : ℕ = slice_index s.shape.signals me.y.0 in
    let v : ℕ = slice_index s.shape.vars me.tau.0 in
    let below : c.args.first < length (delay_to_projections s.shape me.x.0 me.y.0 me.tau.0) = omega (arith, c.requires.first, length-to s.shape me.x.0 me.y.0 me.tau.0) in
    c.hold_given-answer.ensures (delay_to_at grid x y v c.args.first) (sym c.cell_at_place-cell.ensures.cell) (to-mono (λ xs. s.box ≡ Some xs) grid x y v c.args.first)
    (IfSome-map _ _ s.box (λ xs e. sym (e ∙ ap (λ (q : Projection). q.formula xs) (to-at s.shape me.x.0 me.y.0 me.tau.0 c.args.first below))) c.given-given.ensures)
