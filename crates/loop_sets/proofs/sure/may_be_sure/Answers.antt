use Rattle.loop_sets.proofs.Surely.{none-near}
use Rattle.loop_sets.proofs.sure.may_be_sure.Goals as goal

pub returns : goal.returns
returns c = none-near c.args.x.now c.args.y.now c.args.q.now c.args.a c.args.first c.args.last c.least_reach-dx.result c.least_reach-dy.result c.is_close.result c.is_close.ensures c.least_reach-dx.ensures.reach c.least_reach-dy.ensures.reach
