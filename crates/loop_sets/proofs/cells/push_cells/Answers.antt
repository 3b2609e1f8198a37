use Rattle.std.proofs.Common.{arith}
use Rattle.loop_sets.proofs.Pairs.{column-push}
use Rattle.loop_sets.proofs.cells.push_cells.Goals as goal

pub loop-b-preserved : goal.loop-b-preserved
loop-b-preserved c = column-push c.args.cells.now.items c.loop-b.cells.items c.push.new.self.items c.args.run.a c.args.run.first c.loop-b.b (omega arith) c.loop-b.invariant c.in_ok-push.ensures.items
