use Rattle.std.proofs.Common.{sym, ◌∙◌}
use Rattle.std.proofs.lemmas.Bool.{false≢true}
use Rattle.report_reader.proofs.Readings.{no_line, no_line_uncut}
use Rattle.report_reader.proofs.lines.line_of.Goals as goal

pub returns-in_default : goal.returns-in_default
returns-in_default c = no_line_uncut c.args.text.now c.in_default.ensures

pub returns : goal.returns
returns c =
    no_line c.args.text.now _ _ c.in-Some.ensures
    (λ k. false≢true (sym c.if-same.false ∙ c.same.ensures.1 k))
    (λ k. false≢true (sym c.if-same-2.false ∙ c.same-2.ensures.1 k))
    (λ k. false≢true (sym c.if-same-3.false ∙ c.same-3.ensures.1 k))
    (λ k. false≢true (sym c.if-same-4.false ∙ c.same-4.ensures.1 k))
