use Rattle.std.proofs.Common.{ℤ, ap, ◌∙◌, ◌++◌, ◌∷◌, [], subst, sym}
use Rattle.tube_spec.specs.Span.{Span}
use Rattle.loop_sets.specs.Tables.{AreSmall}
use Rattle.loop_sets.proofs.Tabling.{small-more, bounds-more, bounded-tick, small-lo, read-small}
use Rattle.loop_sets.proofs.tube.lower_bounds.Goals as goal

pub loop-tick-preserved : goal.loop-tick-preserved
loop-tick-preserved c =
    let tick = c.tick-item.result in
    let bounded = bounded-tick c.args.ticks.now c.loop-tick.tick-index tick c.requires c.loop-tick-test.true c.tick-item.is in
    let small = small-lo tick c.lo.result bounded c.known.ensures.proper c.lo.ensures in
    let all = c.in_ok-push.ensures.items ∙ ap (λ (x : ℤ). c.loop-tick.bounds.items ++ x ∷ []) (read-small c.lo.result small) in
    record {
      items = bounds-more (λ (s : Span). s.lo) c.args.ticks.now c.loop-tick.tick-index tick c.loop-tick.bounds.items c.push.new.self.items c.lo.result c.loop-tick-test.true c.tick-item.is c.loop-tick.invariant.items all c.lo.ensures;
      small = subst AreSmall (sym all) (small-more c.loop-tick.bounds.items c.lo.result c.loop-tick.invariant.small small);
    }
