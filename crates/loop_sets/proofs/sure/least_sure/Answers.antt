use Rattle.loop_sets.specs.Sets.{plane_over}
use Rattle.loop_sets.proofs.Surely.{least-sure, valid-ends}
use Rattle.loop_sets.proofs.sure.least_sure.Goals as goal

pub returns-in-Some : goal.returns-in-Some
returns-in-Some c = least-sure (plane_over c.args.x.now c.args.y.now c.args.q.now) c.args.set.now c.loop-run.run-index c.in-Some.b c.requires.order c.loop-run-test.true c.loop-run.invariant c.in-Some.ensures

pub first_sure-requires-clause-a : goal.first_sure-requires-clause-a
first_sure-requires-clause-a c = (valid-ends (plane_over c.args.x.now c.args.y.now c.args.q.now) c.args.set.now c.loop-run.run-index c.requires.order c.loop-run-test.true c.requires.valid).0

pub first_sure-requires-clause-within : goal.first_sure-requires-clause-within
first_sure-requires-clause-within c = (valid-ends (plane_over c.args.x.now c.args.y.now c.args.q.now) c.args.set.now c.loop-run.run-index c.requires.order c.loop-run-test.true c.requires.valid).1
