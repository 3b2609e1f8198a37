use Rattle.std.proofs.Common.{◌-◌, [], Some, subst}
use Rattle.tube_io.specs.InMemory.{PlainSink, PlainSource}
use Rattle.codac_run.specs.Plans.{planned}
use Rattle.codac_run.specs.Reports.{Ends}
use Rattle.codac_run.proofs.Ends.{ends-whole, no-rose, no-write-fault, rose-some}
use Rattle.codac_run.proofs.sure.run_in_memory.Goals as goal

pub returns-clause-ends : goal.returns-clause-ends
returns-clause-ends g c =
    let r = c.run-ended in
    let words = planned c.args.words.now in (
      Some r.new.source.rest,
      subst (λ (s : PlainSource). Ends words (Some s.rest) (Some r.new.source.rest) (Some []) (Some r.new.sink.bytes) (Some r.new.sink.flushed) r.result (r.new.steps - c.args.steps.now)) c.new-source.ensures
          (subst (λ (k : PlainSink). Ends words (Some c.new-source.result.rest) (Some r.new.source.rest) (Some k.bytes) (Some r.new.sink.bytes) (Some r.new.sink.flushed) r.result (r.new.steps - c.args.steps.now)) c.new-sink.ensures r.ensures.ends),
    )

pub returns-clause-room : goal.returns-clause-room
returns-clause-room g c plan m right accepted short fault =
    let r = c.run-ended in
    let ends = returns-clause-ends g c in
    no-write-fault (planned c.args.words.now) c.args.log.items r.new.sink.bytes ends.0 (Some r.new.sink.flushed) r.result (r.new.steps - c.args.steps.now) ends.1 plan m right accepted _ short
    (λ failed. c.bytes-taken.ensures.sure (rose-some c.new-sink.result.faults r.new.sink.faults (r.ensures.write failed))) fault

pub returns-clause-complete : goal.returns-clause-complete
returns-clause-complete g c plan m right accepted below short =
    let r = c.run-ended in
    let ends = returns-clause-ends g c in
    ends-whole (planned c.args.words.now) (Some c.args.log.items) ends.0 (Some []) (Some r.new.sink.bytes) (Some r.new.sink.flushed) r.result (r.new.steps - c.args.steps.now) ends.1 plan m right accepted (λ fault. no-rose (r.ensures.read fault)) (returns-clause-room g c plan m right accepted short) below
