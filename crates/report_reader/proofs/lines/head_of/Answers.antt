use Rattle.std.proofs.Common.{sym, ◌∙◌, arith}
use Rattle.std.proofs.lemmas.Bool.{false≢true}
use Rattle.report_reader.proofs.Readings.{head_uncut, head_whole, no_head, no_number, no_verdict, no_zero, rest_uncut}
use Rattle.report_reader.proofs.lines.head_of.Goals as goal

pub returns-in_default : goal.returns-in_default
returns-in_default c = head_uncut c.args.text.now c.in_default.ensures

pub returns-then-not-same : goal.returns-then-not-same
returns-then-not-same c = no_head c.args.text.now _ _ c.in-Some.ensures (λ k. false≢true (sym c.if-not-same.true ∙ c.same.ensures.1 k))

pub returns-in_default-cut : goal.returns-in_default-cut
returns-in_default-cut c = rest_uncut c.args.text.now _ _ c.in-Some.ensures c.in_default-cut.ensures

pub returns-in_default-count_up_to : goal.returns-in_default-count_up_to
returns-in_default-count_up_to c = no_number c.args.text.now _ _ c.in-Some.ensures _ _ c.in-Some-cut.ensures c.in_default-count_up_to.ensures

pub returns-then-number-eq0 : goal.returns-then-number-eq0
returns-then-number-eq0 c = no_zero c.args.text.now _ _ c.in-Some.ensures _ _ c.in-Some-cut.ensures _ c.if-number-eq0.true c.in-Some-count_up_to.ensures.1

pub returns-in_default-verdict_of : goal.returns-in_default-verdict_of
returns-in_default-verdict_of c = no_verdict c.args.text.now _ _ c.in-Some.ensures _ _ c.in-Some-cut.ensures c.in_default-verdict_of.ensures

pub returns : goal.returns
returns c = (
  (omega arith, c.in-Some-count_up_to.ensures.0),
  head_whole c.args.text.now _ _ c.in-Some.ensures _ _ c.in-Some-cut.ensures c.in-Some-count_up_to.number c.in-Some-verdict_of.verdict
      (c.same.ensures.0 c.if-not-same.false) c.in-Some-count_up_to.ensures.1 c.in-Some-verdict_of.ensures.1,
)
