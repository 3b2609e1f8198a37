use Rattle.std.proofs.Common.{◌≡◌, ◌-◌, Some, Err, arith}
use Rattle.tube_report.specs.Causes.{fault_line}
use Rattle.codac_run.proofs.Handing.{spent-small}
use Rattle.codac_run.proofs.Ends.{over-accepted, over-heard}
use Rattle.codac_run.proofs.top.hear_and_report.Goals as goal

pub returns-in-Accepted-clause-enough : goal.returns-in-Accepted-clause-enough
returns-in-Accepted-clause-enough g c above spent =
    let most = spent-small c.in-Accepted.mission c.args.plan.now (g.K.Sink.written c.args.sink.now) (g.K.Sink.written c.report.new.sink) (g.K.Sink.flushed c.report.new.sink) c.report.result (c.report.new.steps - c.args.steps.now) c.report.ensures.ends spent in
    omega (arith, above, most)

pub returns-in-Accepted-clause-ends : goal.returns-in-Accepted-clause-ends
returns-in-Accepted-clause-ends g c =
    let gives = c.in-Accepted.ensures.gives in
    over-accepted c.args.plan.now (g.S.Source.left c.args.source.now) (g.S.Source.left c.hear.new.source) (g.K.Sink.written c.args.sink.now) (g.K.Sink.written c.report.new.sink) (g.K.Sink.flushed c.report.new.sink) c.report.result (c.report.new.steps - c.args.steps.now)
    (Some c.in-Accepted.bytes.items) c.in-Accepted.mission gives.0 gives.1 gives.2 c.report.ensures.ends

pub returns-in-Refused-clause-ends : goal.returns-in-Refused-clause-ends
returns-in-Refused-clause-ends g c =
    let gives = c.in-Refused.ensures.gives in
    let none : c.args.steps.now - c.args.steps.now ≡ 0 = omega arith in
    over-heard c.args.plan.now (g.S.Source.left c.args.source.now) (g.S.Source.left c.hear.new.source) (g.K.Sink.written c.args.sink.now) (g.K.Sink.written c.refuse.new.sink) (g.K.Sink.flushed c.refuse.new.sink) c.refuse.result (c.args.steps.now - c.args.steps.now)
    gives.0 (Err (fault_line c.in-Refused.number c.in-Refused.cause)) gives.1 gives.2 gives.3 (c.refuse.ensures.writes.0, c.refuse.ensures.writes.1, none)
