use Rattle.std.proofs.Common.{◌-◌, sym, subst}
use Rattle.codac_run.specs.declared.plan.Origin.{Origin}
use Rattle.codac_run.specs.Reports.{EndsFrom}
use Rattle.codac_run.proofs.top.follow.Goals as goal

pub returns-in-Source-clause-ends : goal.returns-in-Source-clause-ends
returns-in-Source-clause-ends g c =
    let r = c.hear_and_report in
    subst (λ (o : Origin). EndsFrom o c.args.plan.now (g.S.Source.left c.args.source.now) (g.S.Source.left r.new.source) (g.K.Sink.written c.args.sink.now) (g.K.Sink.written r.new.sink) (g.K.Sink.flushed r.new.sink) r.result (r.new.steps - c.args.steps.now))
    (sym c.in-Source.is) r.ensures.ends

pub returns-in-Demo-clause-ends : goal.returns-in-Demo-clause-ends
returns-in-Demo-clause-ends g c =
    let r = c.make_and_report in
    subst (λ (o : Origin). EndsFrom o c.args.plan.now (g.S.Source.left c.args.source.now) (g.S.Source.left c.args.source.now) (g.K.Sink.written c.args.sink.now) (g.K.Sink.written r.new.sink) (g.K.Sink.flushed r.new.sink) r.result (r.new.steps - c.args.steps.now))
    (sym c.in-Demo.is) r.ensures.ends

pub returns-in-Source-clause-unread : goal.returns-in-Source-clause-unread
returns-in-Source-clause-unread g c unread = absurd (let bad = sym c.in-Source.is in cc (bad, unread.1))
