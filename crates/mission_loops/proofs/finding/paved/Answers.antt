use Rattle.mission_loops.proofs.Taking.{pave-takes}
use Rattle.mission_loops.proofs.finding.paved.Goals as goal

pub returns-in-Ok-clause-steps : goal.returns-in-Ok-clause-steps
returns-in-Ok-clause-steps g c =
    pave-takes c.args.store.now.shape c.args.store.now.box c.args.q.now c.in_ok-tree.tree c.args.steps.now c.pave.new.steps c.requires.filled c.in_ok-tree.ensures c.pave.ensures.steps

pub returns-in-Err-Crowded-clause-steps : goal.returns-in-Err-Crowded-clause-steps
returns-in-Err-Crowded-clause-steps g c =
    pave-takes c.args.store.now.shape c.args.store.now.box c.args.q.now c.in_ok-tree.tree c.args.steps.now c.pave.new.steps c.requires.filled c.in_ok-tree.ensures c.pave.ensures.steps

pub returns-clause-steps : goal.returns-clause-steps
returns-clause-steps g c =
    pave-takes c.args.store.now.shape c.args.store.now.box c.args.q.now c.in_ok-tree.tree c.args.steps.now c.pave.new.steps c.requires.filled c.in_ok-tree.ensures c.pave.ensures.steps
