use Rattle.std.proofs.Common.{arith}
use Rattle.std.proofs.lemmas.Int.{ints}
use Rattle.tube_spec.proofs.Monotone.{IfSome-map, IfSome-map2}
use Rattle.ctc_delay.proofs.Counts.{length-to}
use Rattle.ctc_delay.proofs.Formulas.{to-given, to-whole}
use Rattle.ctc_delay.proofs.to.DelayToFormulas.given.Goals as goal

pub ticks_at-ticks-requires : goal.ticks_at-ticks-requires
ticks_at-ticks-requires c = let me = c.args.self.now in omega (arith, c.requires.below, length-to c.args.store.now.shape me.x.0 me.y.0 me.tau.0)

pub returns-then-hi-ticks : goal.returns-then-hi-ticks
returns-then-hi-ticks c =
    let s = c.args.store.now in
    let me = c.args.self.now in
    IfSome-map _ _ s.box (λ xs tau.
    to-whole s.shape me.x.0 me.y.0 me.tau.0 c.args.i xs c.get-tau.result c.var.result.0 tau c.var.ensures.cell c.requires.below c.ticks_at-ticks.result.first c.ticks_at-ticks.ensures.first
    (λ reached. absurd (grind (arith, ints)))) c.get-tau.ensures.value

pub returns : goal.returns
returns c =
    let s = c.args.store.now in
    let me = c.args.self.now in
    IfSome-map2 _ _ _ s.box (λ xs tau held.
    to-given s.shape me.x.0 me.y.0 me.tau.0 c.args.i xs c.get-tau.result c.var.result.0 tau c.var.ensures.cell c.requires.below c.ticks_at-ticks.result.first c.ticks_at-ticks.result.last
    _ c.earlier.result c.ticks_at-ticks.ensures.first c.ticks_at-ticks.ensures.last (grind (arith, ints)) c.given_of.ensures held) c.get-tau.ensures.value c.earlier.ensures
