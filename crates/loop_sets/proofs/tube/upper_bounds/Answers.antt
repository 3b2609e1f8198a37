use Rattle.std.proofs.Common.{ℤ, neg_ℤ, ap, ◌∙◌, ◌++◌, ◌∷◌, [], subst, sym}
use Rattle.tube_spec.specs.Span.{Span}
use Rattle.loop_sets.specs.Tables.{AreSmall}
use Rattle.loop_sets.proofs.Tabling.{small-more, bounds-more, bounded-tick, small-hi, read-small}
use Rattle.loop_sets.proofs.tube.upper_bounds.Goals as goal

pub opposite-opposite-requires : goal.opposite-opposite-requires
opposite-opposite-requires c =
    let tick = c.tick-item.result in
    let small = small-hi tick c.hi.result (bounded-tick c.args.ticks.now c.loop-tick.tick-index tick c.requires c.loop-tick-test.true c.tick-item.is) c.known.ensures.proper c.hi.ensures in
    rw (read-small c.hi.result small) small

pub loop-tick-preserved : goal.loop-tick-preserved
loop-tick-preserved c =
    let tick = c.tick-item.result in
    let small = small-hi tick c.hi.result (bounded-tick c.args.ticks.now c.loop-tick.tick-index tick c.requires c.loop-tick-test.true c.tick-item.is) c.known.ensures.proper c.hi.ensures in
    let x = c.opposite-opposite.result in
    let value = c.opposite-opposite.ensures.value ∙ ap neg_ℤ (read-small c.hi.result small ∙ c.hi.ensures) in
    let all = c.in_ok-push.ensures.items ∙ ap (λ (z : ℤ). c.loop-tick.bounds.items ++ z ∷ []) (read-small x c.opposite-opposite.ensures.small) in
    record {
      items = bounds-more (λ (s : Span). neg_ℤ s.hi) c.args.ticks.now c.loop-tick.tick-index tick c.loop-tick.bounds.items c.push.new.self.items x c.loop-tick-test.true c.tick-item.is c.loop-tick.invariant.items all value;
      small = subst AreSmall (sym all) (small-more c.loop-tick.bounds.items x c.loop-tick.invariant.small c.opposite-opposite.ensures.small);
    }
