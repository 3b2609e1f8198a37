use Rattle.std.proofs.Common.{sym, ap, ◌∙◌, arith}
use Rattle.std.specs.Prelude.{decimal}
use Rattle.std.proofs.lemmas.Bool.{eq-eqb, eqb-true, false≢true}
use Rattle.report_reader.proofs.Numerals.{same_count}
use Rattle.report_reader.proofs.Readings.{last_cut, last_uncut, last_whole}
use Rattle.report_reader.proofs.lines.is_last.Goals as goal

pub returns-in_default : goal.returns-in_default
returns-in_default c = (λ e. absurd (false≢true e), λ e. absurd (last_uncut c.args.text.now c.args.number c.in_default.ensures e))

pub returns-then-not-same : goal.returns-then-not-same
returns-then-not-same c = (
  λ e. absurd (false≢true e),
  λ e. absurd (false≢true (sym c.if-not-same.true ∙ c.same.ensures.1 (sym (last_cut c.args.text.now _ _ c.args.number c.in-Some.ensures e).0))),
)

pub returns-in_default-count_up_to : goal.returns-in_default-count_up_to
returns-in_default-count_up_to c = (
  λ e. absurd (false≢true e),
  λ e. absurd (c.in_default-count_up_to.ensures c.args.number c.requires (last_cut c.args.text.now _ _ c.args.number c.in-Some.ensures e).1),
)

pub returns : goal.returns
returns c =
    let n = c.in-Some-count_up_to.n in
    let told = c.in-Some-count_up_to.ensures in (
      λ e. last_whole c.args.text.now _ _ c.args.number c.in-Some.ensures (c.same.ensures.0 c.if-not-same.false) (ap decimal (sym (eqb-true n c.args.number e)) ∙ told.1),
      λ e. eq-eqb n c.args.number (same_count n c.args.number (omega (arith, told.0)) (omega arith) (told.1 ∙ sym (last_cut c.args.text.now _ _ c.args.number c.in-Some.ensures e).1)),
    )
