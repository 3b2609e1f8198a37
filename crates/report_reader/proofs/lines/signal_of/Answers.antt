use Rattle.std.proofs.Common.{sym, ap, ◌∙◌}
use Rattle.std.proofs.lemmas.Bool.{false≢true}
use Rattle.log_spelling.specs.Names.{is_name}
use Rattle.report_reader.specs.declared.section.Line.TheVariants as line
use Rattle.report_reader.proofs.Readings.{no_signal, of_kind}
use Rattle.report_reader.proofs.lines.signal_of.Goals as goal

pub returns-then-not-is_name : goal.returns-then-not-is_name
returns-then-not-is_name c = no_signal c.args.rest.now (λ e. false≢true (sym c.if-not-is_name.true ∙ (c.is_name.ensures ∙ e)))

pub returns : goal.returns
returns c = (
  ap is_name c.in_ok-name.ensures ∙ (sym c.is_name.ensures ∙ c.if-not-is_name.false),
  of_kind (line.Signal c.in_ok-name.name) c.args.rest.now c.in_ok-name.ensures,
)
