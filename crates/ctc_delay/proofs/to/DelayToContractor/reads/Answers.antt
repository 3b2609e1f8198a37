use Rattle.std.proofs.Common.{arith}
use Rattle.ctc_delay.proofs.Counts.{length-to_scope}
use Rattle.ctc_delay.proofs.to.DelayToContractor.reads.Goals as goal

pub returns : goal.returns
returns c = let me = c.args.self.now in omega (arith, c.place_count.ensures.count, length-to_scope c.args.store.now.shape me.x.0 me.y.0 me.tau.0)
