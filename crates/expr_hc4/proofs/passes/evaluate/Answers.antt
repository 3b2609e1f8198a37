use Rattle.std.proofs.Common.{refl, arith}
use Rattle.expr_hc4.proofs.Values.{one-more}
use Rattle.expr_hc4.proofs.passes.evaluate.Goals as goal

pub loop-i-preserved : goal.loop-i-preserved
loop-i-preserved c = λ vs are. one-more c.args.entries.now c.loop-i.values vs c.args.nodes.now c.loop-i.i _ c.in-Some.value c.loop-i-test.true (omega (arith, c.requires.room)) c.requires.ordered refl c.in-Some.ensures are (c.loop-i.invariant vs are)
