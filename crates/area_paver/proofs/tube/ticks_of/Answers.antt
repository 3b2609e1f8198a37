use Rattle.std.proofs.Common.{◌≡◌, ◌++◌, ◌∷◌, [], arith, subst, sym}
use Rattle.std.proofs.lemmas.Int.{ints}
use Rattle.tube_spec.specs.Span.{IsBounded}
use Rattle.tube_spec.specs.Box.{AreBounded}
use Rattle.hull_tree.proofs.Blocks.{each-more}
use Rattle.hull_tree.proofs.Tubes.{tube-more, length-push}
use Rattle.area_paver.proofs.tube.ticks_of.Goals as goal

pub loop-tick-preserved : goal.loop-tick-preserved
loop-tick-preserved c =
    let all : c.push.new.self.items ≡ c.loop-tick.ticks.items ++ c.at_tick.result ∷ [] = c.in_ok-push.ensures.items in
    record {
      len = length-push c.loop-tick.ticks.items c.push.new.self.items c.at_tick.result c.loop-tick.tick c.loop-tick.invariant.len all;
      made = tube-more c.args.store.now.box c.args.store.now.shape c.args.signal.0 c.loop-tick.tick c.loop-tick.ticks.items c.push.new.self.items c.at_tick.result c.loop-tick.invariant.made c.at_tick.ensures.value all;
      bounded = subst AreBounded (sym all) (each-more (IsBounded 500000000) c.loop-tick.ticks.items c.at_tick.result c.loop-tick.invariant.bounded c.at_tick.ensures.bounded (record { low = omega (arith, ints); high = omega (arith, ints) }));
    }
