use Rattle.std.proofs.Common.{arith, ap, ◌∙◌}
use Rattle.hull_tree.specs.Judging.{both}
use Rattle.hull_tree.proofs.Blocks.{over-more}
use Rattle.hull_tree.proofs.ranges.ticks_over.Goals as goal

pub loop-tick-preserved : goal.loop-tick-preserved
loop-tick-preserved c =
    let v = c.loop-tick.invariant in
    record {
      begun = omega (arith, v.begun);
      bounds = over-more c.args.ticks.now c.args.first c.loop-tick.tick c.index-ticks-tick.result c.loop-tick.bounds c.join-bounds.result v.begun (omega (arith, c.loop-tick-test.true)) c.index-ticks-tick.is v.bounds (c.join-bounds.ensures ∙ ap (both c.loop-tick.bounds) c.hull_of.ensures);
    }
