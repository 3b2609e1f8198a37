use Rattle.std.proofs.Common.{sym, subst, ◌∙◌}
use Rattle.std.proofs.lemmas.Bool.{false≢true}
use Rattle.report_reader.specs.Words.{IsReference, range_text}
use Rattle.report_reader.specs.declared.section.Line.TheVariants as line
use Rattle.report_reader.proofs.Readings.{no_name, no_var_range, of_kind, parts_whole, var_uncut}
use Rattle.report_reader.proofs.lines.var_of.Goals as goal

pub returns-in_default : goal.returns-in_default
returns-in_default c = var_uncut c.args.rest.now c.in_default.ensures

pub returns-then-not-is_reference : goal.returns-then-not-is_reference
returns-then-not-is_reference c = no_name c.args.rest.now _ _ c.in-Some.ensures (λ h. false≢true (sym c.if-not-is_reference.true ∙ c.is_reference.ensures.1 h))

pub returns-in_default-range_of : goal.returns-in_default-range_of
returns-in_default-range_of c = no_var_range c.args.rest.now _ _ c.in-Some.ensures c.in_default-range_of.ensures

pub returns : goal.returns
returns c =
    let name = c.in_ok-name.name in
    let range = c.in-Some-range_of.range in (
      (subst IsReference (sym c.in_ok-name.ensures) (c.is_reference.ensures.0 c.if-not-is_reference.false), c.in-Some-range_of.ensures.0),
      of_kind (line.Var name range) c.args.rest.now (parts_whole c.args.rest.now _ _ name (range_text range) c.in-Some.ensures c.in_ok-name.ensures c.in-Some-range_of.ensures.1),
    )
