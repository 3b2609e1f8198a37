use Rattle.std.proofs.Common.{◌-◌, arith}
use Rattle.codac_run.proofs.Handing.{spent-small}
use Rattle.codac_run.proofs.top.make_and_report.Goals as goal

pub returns-in-Ok-clause-enough : goal.returns-in-Ok-clause-enough
returns-in-Ok-clause-enough g c above spent =
    let most = spent-small c.in-Ok.made.mission c.args.plan.now (g.K.Sink.written c.args.sink.now) (g.K.Sink.written c.report.new.sink) (g.K.Sink.flushed c.report.new.sink) c.report.result (c.report.new.steps - c.args.steps.now) c.report.ensures.ends spent in
    omega (arith, above, most)
