use Rattle.std.proofs.Common.{◌≡◌, ℕ, ◌+◌, ◌<◌, ◌≤◌, List, arith, sym, ap, subst, ◌∙◌, slice_index}
use Rattle.tube_spec.specs.Span.{Span}
use Rattle.tube_spec.specs.Grid.{last_tick}
use Rattle.tube_spec.specs.Tick.{tick_place}
use Rattle.tube_spec.specs.Box.{cell_at}
use Rattle.ctc_delay.specs.Places.{place_end}
use Rattle.ctc_delay.specs.Windows.{cells_of, signal_at, IsOver}
use Rattle.ctc_delay.proofs.Strides.{stands-before, stands-still}
use Rattle.ctc_delay.proofs.OverWindows.{of-cells, over-next, over-still}
use Rattle.ctc_delay.proofs.windows.carried_on.Goals as goal

pub loop-tick-init : goal.loop-tick-init
loop-tick-init c = (c.args.at, omega arith, c.requires.order, c.requires.there, c.place_end-tick.ensures.end, c.requires.among, λ first low over. over)

pub loop-tick-preserved : goal.loop-tick-preserved
loop-tick-preserved c =
    let s = c.args.store.now in
    let grid = s.shape.grid in
    let is = c.known.ensures.shape.grid in
    let f : ℕ → Span = signal_at s.shape s.box c.args.signal.0 in
    let cell : ℕ → Span = λ p. cell_at (cells_of s.box) (slice_index s.shape.signals c.args.signal.0 + p) in
    let held = c.loop-tick.invariant in
    let from = held.0 in
    let tick = c.loop-tick.tick in
    let place = c.loop-tick.place in
    let low : from ≤ last_tick grid = omega (arith, held.2, c.requires.within) in
    let here : tick ≤ last_tick grid = omega (arith, c.loop-tick-test.true, c.requires.within) in
    let before = stands-before grid is place from low held.3 in
    let past : from < tick = omega (arith, before, held.4) in
    let on : c.place_on-place.result ≡ tick_place grid tick = c.place_on-place.ensures.there from held.3 (omega (arith, past)) (omega (arith, held.4)) here in
    let read : c.interval_at-here.result ≡ f tick =
    of-cells s.box (λ xs. c.interval_at-here.result ≡ cell_at xs (slice_index s.shape.signals c.args.signal.0 + c.place_on-place.result)) c.requires.filled c.interval_at-here.ensures ∙ ap cell on in (
      tick,
      omega (arith, held.1, past),
      omega (arith, c.loop-tick-test.true),
      on,
      c.place_end-tick-in-loop-tick.ensures.end,
      c.place_on-place.ensures.among,
      λ first few over.
          subst (IsOver f first tick) (sym c.hull-whole.ensures.value)
          (over-next f first from tick c.loop-tick.whole c.interval_at-here.result (omega (arith, few, held.1)) past (held.6 first few over)
          (λ k after under. ap cell (stands-still grid is place from low held.3 k after (omega (arith, held.4, under)) ∙ held.3)) read),
    )

pub loop-tick-smaller : goal.loop-tick-smaller
loop-tick-smaller c =
    let s = c.args.store.now in
    let grid = s.shape.grid in
    let is = c.known.ensures.shape.grid in
    let held = c.loop-tick.invariant in
    let tick = c.loop-tick.tick in
    let low : held.0 ≤ last_tick grid = omega (arith, held.2, c.requires.within) in
    let here : tick ≤ last_tick grid = omega (arith, c.loop-tick-test.true, c.requires.within) in
    let before = stands-before grid is c.loop-tick.place held.0 low held.3 in
    let on : c.place_on-place.result ≡ tick_place grid tick = c.place_on-place.ensures.there held.0 held.3 (omega (arith, before, held.4)) (omega (arith, held.4)) here in
    let next = stands-before grid is c.place_on-place.result tick here on in
    omega (arith, next, c.place_end-tick-in-loop-tick.ensures.end, c.loop-tick-test.true)

pub returns-clause-hull : goal.returns-clause-hull
returns-clause-hull c = λ first few over.
    let s = c.args.store.now in
    let grid = s.shape.grid in
    let f : ℕ → Span = signal_at s.shape s.box c.args.signal.0 in
    let cell : ℕ → Span = λ p. cell_at (cells_of s.box) (slice_index s.shape.signals c.args.signal.0 + p) in
    let held = c.loop-tick.invariant in
    let low : held.0 ≤ last_tick grid = omega (arith, held.2, c.requires.within) in
    over-still f first held.0 c.args.last c.loop-tick.whole (omega (arith, few, held.1)) held.2 (held.6 first few over)
    (λ k after under. ap cell (stands-still grid c.known.ensures.shape.grid c.loop-tick.place held.0 low held.3 k after (omega (arith, held.4, under, c.loop-tick-test.false)) ∙ held.3))

pub returns-clause-there : goal.returns-clause-there
returns-clause-there c =
    let grid = c.args.store.now.shape.grid in
    let held = c.loop-tick.invariant in
    let low : held.0 ≤ last_tick grid = omega (arith, held.2, c.requires.within) in
    sym (stands-still grid c.known.ensures.shape.grid c.loop-tick.place held.0 low held.3 c.args.last held.2 (omega (arith, held.4, c.loop-tick-test.false)))

pub returns-clause-among : goal.returns-clause-among
returns-clause-among c = c.loop-tick.invariant.5
