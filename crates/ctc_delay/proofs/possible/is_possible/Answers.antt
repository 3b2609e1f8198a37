use Rattle.std.proofs.Common.{◌≡◌, ℕ, ◌+◌, ◌-◌, ◌≤◌, min, List, length, arith, sym, ap, ◌∙◌, slice_index}
use Rattle.tube_spec.specs.Span.{IsProper, meet_of}
use Rattle.tube_spec.specs.Grid.{last_tick}
use Rattle.tube_spec.specs.Tick.{tick_place}
use Rattle.tube_spec.proofs.Monotone.{IfSome-any, IfSome-map}
use Rattle.ctc_delay.specs.Places.{place_end}
use Rattle.ctc_delay.proofs.Strides.{both-stand}
use Rattle.ctc_delay.proofs.PossibleDelays.{IfSome-map3, not-possible, cell-at, shares-on, possible-all}
use Rattle.ctc_delay.proofs.possible.is_possible.Goals as goal

pub loop-tick-init : goal.loop-tick-init
loop-tick-init c =
    let s = c.args.store.now in
    let d = c.args.delay in
    let slices = c.known.ensures.shape.grid.slices in
    let none : d - d ≡ 0 = omega arith in
    record {
      met = IfSome-any _ s.box (λ xs k low high. absurd (omega (arith, low, high)));
      low = omega arith;
      before_among = omega (arith, c.place_of-before.ensures.among, ap length c.grid-2.ensures);
      now_among = omega (arith, c.place_of-now.ensures.among, ap length c.grid-3.ensures);
      before_there = λ few. c.place_of-before.ensures.place ∙ ap (λ (g : List ℕ). tick_place g 0) c.grid-2.ensures ∙ sym (ap (tick_place s.shape.grid) none);
      now_there = λ few. c.place_of-now.ensures.place ∙ ap (λ (g : List ℕ). tick_place g d) c.grid-3.ensures;
    }

pub returns-then-is_none : goal.returns-then-is_none
returns-then-is_none c =
    let s = c.args.store.now in
    let grid = s.shape.grid in
    let fx = slice_index s.shape.signals c.args.x.0 in
    let fy = slice_index s.shape.signals c.args.y.0 in
    let tick = c.loop-tick.tick in
    let none = c.if-is_none.ensures in
    let last : c.ticks-last.result ≡ last_tick grid = c.ticks-last.ensures ∙ ap last_tick c.grid.ensures in
    let here : tick ≤ last_tick grid = omega (arith, last, c.loop-tick-test.true) in
    IfSome-map3 _ _ _ _ s.box (λ xs earlier later met.
    not-possible grid xs fx fy c.args.delay tick c.interval_at-earlier.result c.interval_at-later.result (cell-at grid xs fx (tick - c.args.delay) c.loop-tick.before c.interval_at-earlier.result earlier (c.loop-tick.invariant.before_there here))
    (cell-at grid xs fy tick c.loop-tick.now c.interval_at-later.result later (c.loop-tick.invariant.now_there here)) (λ proper. let some = c.meet.ensures.exists.1 proper in cc) c.loop-tick.invariant.low here)
    c.interval_at-earlier.ensures c.interval_at-later.ensures c.loop-tick.invariant.met

pub overflow_sub-tick : goal.overflow_sub-tick
overflow_sub-tick c =
    let grid = c.args.store.now.shape.grid in
    let last : c.ticks-last.result ≡ last_tick grid = c.ticks-last.ensures ∙ ap last_tick c.grid.ensures in
    let here : c.loop-tick.tick ≤ last_tick grid = omega (arith, last, c.loop-tick-test.true) in
    let next : c.min-tick.result ≡ min (place_end grid c.loop-tick.before + c.args.delay) (place_end grid c.loop-tick.now) = omega (arith, c.min-tick.ensures, c.place_end.ensures.end, c.place_end-right.ensures.end) in
    let on = both-stand grid c.known.ensures.shape.grid c.args.delay c.loop-tick.tick c.min-tick.result c.loop-tick.before c.loop-tick.now c.loop-tick.invariant.low here (c.loop-tick.invariant.before_there here) (c.loop-tick.invariant.now_there here) next in
    omega (arith, on.past, c.loop-tick.invariant.low)

pub loop-tick-preserved : goal.loop-tick-preserved
loop-tick-preserved c =
    let s = c.args.store.now in
    let grid = s.shape.grid in
    let fx = slice_index s.shape.signals c.args.x.0 in
    let fy = slice_index s.shape.signals c.args.y.0 in
    let d = c.args.delay in
    let tick = c.loop-tick.tick in
    let b = c.loop-tick.before in
    let n = c.loop-tick.now in
    let held = c.loop-tick.invariant in
    let some = c.if-is_none.ensures in
    let proper : IsProper (meet_of c.interval_at-earlier.result c.interval_at-later.result) = c.meet.ensures.exists.0 some in
    let last : c.ticks-last.result ≡ last_tick grid = c.ticks-last.ensures ∙ ap last_tick c.grid.ensures in
    let here : tick ≤ last_tick grid = omega (arith, last, c.loop-tick-test.true) in
    let next : c.min-tick.result ≡ min (place_end grid b + d) (place_end grid n) = omega (arith, c.min-tick.ensures, c.place_end.ensures.end, c.place_end-right.ensures.end) in
    let on = both-stand grid c.known.ensures.shape.grid d tick c.min-tick.result b n held.low here (held.before_there here) (held.now_there here) next in
    record {
      met = IfSome-map3 _ _ _ _ s.box (λ xs earlier later met. shares-on grid xs fx fy d tick c.min-tick.result b n c.interval_at-earlier.result c.interval_at-later.result earlier later proper on.still met)
          c.interval_at-earlier.ensures c.interval_at-later.ensures held.met;
      low = omega (arith, on.past, held.low);
      before_among = c.place_on-before.ensures.among;
      now_among = c.place_on-now.ensures.among;
      before_there = λ few. c.place_on-before.ensures.there (tick - d) (held.before_there here) (omega (arith, on.past)) on.left (omega (arith, few));
      now_there = λ few. c.place_on-now.ensures.there tick (held.now_there here) (omega (arith, on.past)) on.right few;
    }

pub loop-tick-smaller : goal.loop-tick-smaller
loop-tick-smaller c =
    let grid = c.args.store.now.shape.grid in
    let last : c.ticks-last.result ≡ last_tick grid = c.ticks-last.ensures ∙ ap last_tick c.grid.ensures in
    let here : c.loop-tick.tick ≤ last_tick grid = omega (arith, last, c.loop-tick-test.true) in
    let next : c.min-tick.result ≡ min (place_end grid c.loop-tick.before + c.args.delay) (place_end grid c.loop-tick.now) = omega (arith, c.min-tick.ensures, c.place_end.ensures.end, c.place_end-right.ensures.end) in
    let on = both-stand grid c.known.ensures.shape.grid c.args.delay c.loop-tick.tick c.min-tick.result c.loop-tick.before c.loop-tick.now c.loop-tick.invariant.low here (c.loop-tick.invariant.before_there here) (c.loop-tick.invariant.now_there here) next in
    omega (arith, on.past, here)

pub returns : goal.returns
returns c =
    let s = c.args.store.now in
    let last : c.ticks-last.result ≡ last_tick s.shape.grid = c.ticks-last.ensures ∙ ap last_tick c.grid.ensures in
    IfSome-map _ _ s.box (λ xs met.
    possible-all s.shape.grid xs (slice_index s.shape.signals c.args.x.0) (slice_index s.shape.signals c.args.y.0) c.args.delay c.requires.delay (λ k low high. met k low (omega (arith, last, high, c.loop-tick-test.false)))) c.loop-tick.invariant.met
