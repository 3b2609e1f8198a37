use Rattle.std.proofs.Common.{◌-◌}
use Rattle.codac_run.specs.Plans.{planned}
use Rattle.codac_run.proofs.Ends.{ends-can, ends-whole}
use Rattle.codac_run.proofs.top.run.Goals as goal

pub returns-clause-statuses : goal.returns-clause-statuses
returns-clause-statuses g c =
    let r = c.read_and_follow in
    ends-can (planned c.args.words.now) (g.S.Source.left c.args.source.now) (g.S.Source.left r.new.source) (g.K.Sink.written c.args.sink.now) (g.K.Sink.written r.new.sink) (g.K.Sink.flushed r.new.sink) r.result (r.new.steps - c.args.steps.now) r.ensures.ends

pub returns-clause-complete : goal.returns-clause-complete
returns-clause-complete g c plan m right accepted read write below =
    let r = c.read_and_follow in
    ends-whole (planned c.args.words.now) (g.S.Source.left c.args.source.now) (g.S.Source.left r.new.source) (g.K.Sink.written c.args.sink.now) (g.K.Sink.written r.new.sink) (g.K.Sink.flushed r.new.sink) r.result (r.new.steps - c.args.steps.now) r.ensures.ends
    plan m right accepted (λ fault. read (r.ensures.read fault)) (λ fault. write (r.ensures.write fault)) below
