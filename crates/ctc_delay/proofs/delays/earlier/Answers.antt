use Rattle.std.proofs.Common.{◌≡◌, ◌-◌, ℕ, ◌≤◌, Some, arith, ap, subst, ◌∙◌, slice_index}
use Rattle.std.proofs.lemmas.Int.{ints}
use Rattle.tube_spec.specs.Grid.{last_tick}
use Rattle.tube_spec.proofs.Monotone.{IfSome-map, IfSome-any}
use Rattle.ctc_delay.specs.Delays.{at_tick_from}
use Rattle.ctc_delay.specs.Ranges.{AreDelays, AreNoDelays}
use Rattle.ctc_delay.proofs.DelayHulls.{delays-below, hull-no_delays, hull-earlier}
use Rattle.ctc_delay.proofs.delays.earlier.Goals as goal

pub overflow_sub-first : goal.overflow_sub-first
overflow_sub-first c = omega (arith, ints, c.requires.reached, delays-below c.args.tau c.ticks.result c.in-Some.delays.least c.in-Some.delays.greatest c.in-Some.ensures)

pub overflow_sub-last : goal.overflow_sub-last
overflow_sub-last c =
    let are : AreDelays c.args.tau c.ticks.result c.in-Some.delays.least c.in-Some.delays.greatest = c.in-Some.ensures in
    omega (arith, ints, c.requires.reached, c.requires.order, are.order, delays-below c.args.tau c.ticks.result c.in-Some.delays.least c.in-Some.delays.greatest are)

pub returns-in-None : goal.returns-in-None
returns-in-None c =
    let s = c.args.store.now in
    let last : c.ticks.result ≡ last_tick s.shape.grid = c.ticks.ensures ∙ ap last_tick c.grid.ensures in
    let none : AreNoDelays c.args.tau (last_tick s.shape.grid) = subst (AreNoDelays c.args.tau) last c.in-None.ensures in
    IfSome-any _ s.box (λ xs. hull-no_delays (λ k d. at_tick_from s.shape.grid xs (slice_index s.shape.signals c.args.x.0) (k - d)) c.args.tau (last_tick s.shape.grid) c.args.ticks.first c.args.ticks.last none)

pub returns-in-Some : goal.returns-in-Some
returns-in-Some c =
    let s = c.args.store.now in
    let least = c.in-Some.delays.least in
    let greatest = c.in-Some.delays.greatest in
    let last : c.ticks.result ≡ last_tick s.shape.grid = c.ticks.ensures ∙ ap last_tick c.grid.ensures in
    let are : AreDelays c.args.tau (last_tick s.shape.grid) least greatest = subst (λ (t : ℕ). AreDelays c.args.tau t least greatest) last c.in-Some.ensures in
    let reached : greatest ≤ c.args.ticks.first = omega (arith, ints, c.requires.reached, delays-below c.args.tau (last_tick s.shape.grid) least greatest are) in
    IfSome-map _ _ s.box (λ xs e.
    ap Some e ∙ hull-earlier (at_tick_from s.shape.grid xs (slice_index s.shape.signals c.args.x.0)) c.args.tau (last_tick s.shape.grid) c.args.ticks.first c.args.ticks.last least greatest are c.requires.order reached) c.over_ticks.ensures.value
