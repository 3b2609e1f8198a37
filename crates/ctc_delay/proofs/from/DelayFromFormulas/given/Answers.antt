use Rattle.std.proofs.Common.{◌≡◌, arith, ap, ◌∙◌}
use Rattle.std.proofs.lemmas.Int.{ints}
use Rattle.tube_spec.specs.Grid.{last_tick}
use Rattle.tube_spec.proofs.Monotone.{IfSome-map, IfSome-map2}
use Rattle.ctc_delay.proofs.Counts.{length-from}
use Rattle.ctc_delay.proofs.Formulas.{from-given, from-whole}
use Rattle.ctc_delay.proofs.from.DelayFromFormulas.given.Goals as goal

pub ticks_at-ticks-requires : goal.ticks_at-ticks-requires
ticks_at-ticks-requires c = let me = c.args.self.now in omega (arith, c.requires.below, length-from c.args.store.now.shape me.x.0 me.y.0 me.tau.0)

pub returns-then-ticks-hi : goal.returns-then-ticks-hi
returns-then-ticks-hi c =
    let s = c.args.store.now in
    let me = c.args.self.now in
    let end : c.ticks.result ≡ last_tick s.shape.grid = c.ticks.ensures ∙ ap last_tick c.grid.ensures in
    IfSome-map _ _ s.box (λ xs tau.
    from-whole s.shape me.x.0 me.y.0 me.tau.0 c.args.i xs c.get-tau.result c.var.result.0 tau c.var.ensures.cell c.requires.below c.ticks_at-ticks.result.last c.ticks_at-ticks.ensures.last
    (λ reached. absurd (grind (arith, ints)))) c.get-tau.ensures.value

pub later-requires-clause-reached : goal.later-requires-clause-reached
later-requires-clause-reached c =
    let end : c.ticks.result ≡ last_tick c.args.store.now.shape.grid = c.ticks.ensures ∙ ap last_tick c.grid.ensures in
    grind (arith, ints)

pub returns : goal.returns
returns c =
    let s = c.args.store.now in
    let me = c.args.self.now in
    let end : c.ticks.result ≡ last_tick s.shape.grid = c.ticks.ensures ∙ ap last_tick c.grid.ensures in
    IfSome-map2 _ _ _ s.box (λ xs tau held.
    from-given s.shape me.x.0 me.y.0 me.tau.0 c.args.i xs c.get-tau.result c.var.result.0 tau c.var.ensures.cell c.requires.below c.ticks_at-ticks.result.first c.ticks_at-ticks.result.last
    _ c.later.result c.ticks_at-ticks.ensures.first c.ticks_at-ticks.ensures.last (grind (arith, ints)) c.given_of.ensures held) c.get-tau.ensures.value c.later.ensures
