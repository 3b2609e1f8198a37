use Rattle.std.proofs.Common.{◌≡◌, ◌⊎◌, inr, inl, Option, List, ap, subst, ◌∙◌, take}
use Rattle.tube_spec.specs.Span.{Span}
use Rattle.tube_store.specs.State.{State}
use Rattle.section_report.specs.Texts.{verdict_of}
use Rattle.codac_run.specs.declared.ended.Status.{Status}
use Rattle.codac_run.specs.declared.ended.Status.TheVariants as status
use Rattle.codac_run.specs.Reports.{status_of, Writes}
use Rattle.mission_loops.specs.Cost.{TakesAtMost}
use Rattle.codac_run.specs.Tails.{paved_queries}
use Rattle.codac_run.specs.Telling.{AreToldAfter, AreCutShortAfter}
use Rattle.codac_run.proofs.Handing.{reported, ran-out-after, not-handed, not-found}
use Rattle.codac_run.proofs.reporting.report.Goals as goal

pub returns-in_default-tell-clause-ends : goal.returns-in_default-tell-clause-ends
returns-in_default-tell-clause-ends g c =
    let m = c.args.mission.now in
    let plan = c.args.plan.now in
    let section = c.in-Ok-write_sections.section in
    let net = c.write_sections.new.net in
    let written = g.K.Sink.written in
    let flushed = g.K.Sink.flushed in
    let faults = g.K.Sink.faults in
    let old = c.args.sink.now in
    let mid = c.write_sections.new.sink in
    let after = c.tell.new.sink in
    let t = subst (λ (box : Option (List Span)). AreCutShortAfter written flushed faults m plan section box mid after) (ap (λ (s : State). s.box) c.store.ensures) c.in_default-tell.ensures.cut_short in
    inr (inr (inl (ran-out-after written flushed faults m plan old mid net section c.handed.result c.args.steps.now c.write_sections.new.steps c.tell.new.steps c.requires.mission c.in-Ok-write_sections.ensures.reported
    (subst (λ (s : State). TakesAtMost s.shape s.box (paved_queries plan.tail (take section.upto m.items)) c.write_sections.new.steps c.tell.new.steps) c.store.ensures c.in_default-tell.ensures.steps) c.handed.ensures.spent after t c.handed.ensures.status
    (not-handed plan.hands_out net c.handed.result.net c.handed.ensures.net) (not-found plan.hands_out _ c.handed.result.found c.handed.ensures.found))))

pub returns-clause-ends : goal.returns-clause-ends
returns-clause-ends g c =
    let m = c.args.mission.now in
    let plan = c.args.plan.now in
    let section = c.in-Ok-write_sections.section in
    let net = c.write_sections.new.net in
    let written = g.K.Sink.written in
    let flushed = g.K.Sink.flushed in
    let faults = g.K.Sink.faults in
    let old = c.args.sink.now in
    let mid = c.write_sections.new.sink in
    let after = c.tell.new.sink in
    let new = g.K.Sink.written c.finish-status.new.sink in
    let count = g.K.Sink.flushed c.finish-status.new.sink in
    let findings = c.in-Ok-tell.findings in
    let t = subst (λ (box : Option (List Span)). AreToldAfter written flushed faults m plan section box mid after findings) (ap (λ (s : State). s.box) c.store.ensures) c.in-Ok-tell.ensures.told in
    let planned : c.status_of-planned.result ≡ status_of (verdict_of section.end.answer) = c.status_of-planned.ensures ∙ ap status_of c.verdict_of.ensures in
    inr (inr (inr (reported written flushed faults m plan old mid net section c.handed-2.result c.args.steps.now c.write_sections.new.steps c.tell.new.steps c.requires.mission c.in-Ok-write_sections.ensures.reported
    (subst (λ (s : State). TakesAtMost s.shape s.box (paved_queries plan.tail (take section.upto m.items)) c.write_sections.new.steps c.tell.new.steps) c.store.ensures c.in-Ok-tell.ensures.steps) c.handed-2.ensures.spent after new count c.finish-status.result findings t
    (subst (λ (t : Status). (c.finish-status.result ≡ t) ⊎ (c.finish-status.result ≡ status.WriteFault)) planned c.finish-status.ensures.only)
    c.finish-status.ensures.told
    (λ text sends. subst (λ (t : Status). Writes text t (written old) new count c.finish-status.result) planned (c.finish-status.ensures.writes old text sends))
    c.handed-2.ensures.status c.handed-2.ensures.net c.handed-2.ensures.found)))
