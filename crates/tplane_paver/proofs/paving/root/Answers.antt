use Rattle.tplane_paver.proofs.Roots.{root-is}
use Rattle.tplane_paver.proofs.paving.root.Goals as goal

pub returns-clause-root : goal.returns-clause-root
returns-clause-root c = root-is c.args.ticks c.loop-side.depth c.loop-side.side c.loop-side.invariant.0 c.loop-side-test.false c.loop-side.invariant.1
